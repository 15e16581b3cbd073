-- The histories of `specs/Histories.antt`, by computation. Assumes nothing.
use mathlib.Core.Path.{refl}
use Rattle.wire.specs.Bytes.{name_of, onto}
use Rattle.frame.specs.Head.{header_of, header_bytes}
use Rattle.address.specs.Address.{valid_address}
use Rattle.params.specs.Words.{params_of, size_fails, zero_name, verdict_of, setup_passes}
use Rattle.state.specs.Changes.{own_of, login_at, with_login, has_address, has_name, freed_of, ended_of, host_ended, unproven, verified, changed_all}
use Rattle.state.specs.Tables.{has_id, find_login, free_login, find_exchange}
use Rattle.formed.specs.Formed.{setup_rules, setup_of, exchange_fine, apart_id, params_fine, flags_fine, address_fine, used_fine, login_fine, apart_login, well_formed}
use Rattle.reply.specs.Payload.{short_bytes, login_bytes, pair_bytes, logout_bytes}
use Rattle.reply.specs.Reply.{answer_head, logout_head, filled, bytes_of}
use Rattle.link.specs.Link.{size_of, new_login, outcome_of, plogi_of, page_fine, pair_fine, prli_of, service_of, link_of}
use Rattle.link.specs.Record.{record_of}
use Rattle.command.specs.Command.{logged_out, command_of}
use Rattle.arrival.specs.Arrival.{bad_size, bad_source, known_pair, bad_sequence, unknown_form, spared, unproven_login, form_of}
use Rattle.drive.specs.Drive.{made_from, after_event, event_answer}
use Rattle.drive.specs.Entry.{reply_bytes, frame_in, frame_in_buffer}
use Rattle.belief.specs.Frames.{logs_in, pairs, asks, stranger_logs_in}
use Rattle.belief.specs.Histories.{NotEmpty, LeftBehind}

pub not_empty : NotEmpty
unfolding frame_in frame_in_buffer reply_bytes header_of header_bytes bad_size bad_source known_pair bad_sequence unknown_form spared unproven_login form_of valid_address made_from well_formed setup_rules setup_of setup_passes params_of size_fails zero_name verdict_of login_fine used_fine flags_fine address_fine params_fine exchange_fine apart_id apart_login find_login free_login find_exchange has_address has_id login_at with_login ended_of host_ended has_name name_of changed_all bytes_of filled onto answer_head logout_head short_bytes login_bytes pair_bytes logout_bytes link_of size_of plogi_of outcome_of new_login service_of prli_of pair_fine page_fine command_of logged_out record_of own_of event_answer after_event freed_of unproven verified logs_in pairs asks
not_empty =
    record {
      keeps = (tt, (tt, (tt, (tt, tt))));
      sure_paired = refl;
      right = refl;
      no_loss = (refl, tt);
      right_still = refl;
      a_loss = refl;
      still_sure = refl;
      wrong = refl;
      again = refl;
      so = refl;
    }

pub left_behind : LeftBehind
unfolding frame_in frame_in_buffer reply_bytes header_of header_bytes bad_size bad_source known_pair bad_sequence unknown_form spared unproven_login form_of valid_address made_from well_formed setup_rules setup_of setup_passes params_of size_fails zero_name verdict_of login_fine used_fine flags_fine address_fine params_fine exchange_fine apart_id apart_login find_login free_login find_exchange has_address has_id login_at with_login ended_of host_ended has_name name_of changed_all bytes_of filled onto answer_head logout_head short_bytes login_bytes pair_bytes logout_bytes link_of size_of plogi_of outcome_of new_login service_of prli_of pair_fine page_fine command_of logged_out record_of own_of event_answer after_event freed_of unproven verified logs_in pairs asks stranger_logs_in
left_behind =
    record {
      keeps = (tt, (tt, tt));
      formed = (refl, refl);
      stands = refl;
      ends = refl;
      unsure_then = refl;
      sure_then = refl;
      right_then = refl;
      both_stay = refl;
      elsewhere = refl;
      moved_here_lem = refl;
      gone_there = refl;
    }
