-- The histories of `specs/Written.antt`, by computation. Assumes nothing.
use Prim.Native.Nat.{ℕ}
use mathlib.Core.Path.{◌≡◌, refl, ap, ◌∙◌}
use mathlib.Core.Bool.{true}
use mathlib.Core.List.{[]}
use Rattle.wire.specs.Bytes.{name_of, onto}
use Rattle.frame.specs.Head.{header_of, header_bytes}
use Rattle.address.specs.Address.{valid_address}
use Rattle.params.specs.Words.{params_of, size_fails, zero_name, verdict_of, setup_passes}
use Rattle.state.specs.declared.Exchange.{Exchange}
use Rattle.state.specs.Kinds.{kind_blocks, from_host}
use Rattle.state.specs.Changes.{empty_exchange, empty_login, own_of, login_at, exchange_at, with_login, with_exchange, has_address, has_name, ended_of, host_ended, changed_all}
use Rattle.state.specs.Tables.{has_id, find_login, free_login, find_exchange, free_exchange, login_of, lookup_of}
use Rattle.formed.specs.Formed.{setup_rules, setup_of, blocks_fit, wanted_fits, direction_fits, taken_fits, moved_fits, exchange_fine, apart_id, params_fine, flags_fine, address_fine, used_fine, login_fine, apart_login, well_formed}
use Rattle.reply.specs.Payload.{short_bytes, login_bytes, pair_bytes, status_bytes, code_bytes, sense_bytes, ready_bytes}
use Rattle.reply.specs.Reply.{answer_head, filled, bytes_of}
use Rattle.residual.specs.Residual.{residual_of}
use Rattle.link.specs.Link.{size_of, new_login, outcome_of, plogi_of, page_fine, pair_fine, prli_of, service_of, link_of}
use Rattle.link.specs.Record.{record_of}
use Rattle.command.specs.Cmnd.{cmnd_of, malformed, task_for, task_of}
use Rattle.command.specs.Cdb.{range10, operation_of}
use Rattle.command.specs.Tests.{other_unit, attends, protected, beyond, tested_by, asked_of}
use Rattle.command.specs.Command.{refused_with, told_of, bit_for, opened_of, execute_of, commanded_at, command_of}
use Rattle.cover.specs.Cover.{cover_of, lent_place}
use Rattle.serve.specs.Next.{has_more, reads_more, place_of, ready_reply, next_reply, next_exchange, source_of, window_place, asked_by, open_step, step_of, frame_bytes, moved_on, next_of, next_buffer}
use Rattle.taking.specs.Taking.{burst_end, fault_of, find_write, covered_step, step_of as data_step, served_data, data_decided}
use Rattle.arrival.specs.Arrival.{bad_size, bad_source, known_pair, bad_sequence, unknown_form, spared, unproven_login, form_of}
use Rattle.drive.specs.Drive.{made_from}
use Rattle.drive.specs.Entry.{reply_bytes, frame_in, frame_in_buffer, next_frame, next_frame_buffer}
use Rattle.belief.specs.Host.{Answer, none, other, unsure, sure}
use Rattle.belief.specs.Demand3.{Event, lost, heard, send, next, gets, start}
use Rattle.belief.specs.Wire.{the_drive}
use Rattle.belief.specs.Frames.{host_name, logs_in, pairs, asks, writes, gives, its_word}
use Rattle.belief.specs.Marked.{Day}
use Rattle.belief.specs.Written.{writable, pairing, opened, asked, waited, given, answered, faulted, hears_at, Right, Written}
use Rattle.belief.proofs.Keep.{paired_gives}
use Rattle.belief.proofs.Moments.{Moment, seat, moment, in_held, paired_held, By, more, Reach, at_end}

-- the WRITE after so many bytes, its data awaited or not
abbrev writing : (sent awaited : ℕ) → Exchange
writing sent awaited = record { start = 0; blocks = 1; wanted = 512; expected = 512; sent = sent; ox_id = 0x0005; count = 0; kind = kind_blocks; direction = from_host; awaited = awaited }

abbrev w₀ : Moment
w₀ = moment 1 unsure empty_login empty_login

abbrev w₁ : Moment
w₁ = moment 1 (sure in_held) (seat 1 1 0 0x29 empty_exchange) empty_login

abbrev w₂ : Moment
w₂ = moment 1 (sure paired_held) (seat 1 1 1 0x29 empty_exchange) empty_login

-- the host is paired, and its first exchange is this
abbrev with : Exchange → Moment
with e = moment 1 (sure paired_held) (seat 1 1 1 0 e) empty_login

-- by an event, of which the host gets this
record Hears (v : Moment) (e : Event (the_drive 0x01 host_name)) (a : Answer) (u : Moment) : Type 0 where
  by : By v e u
  got : gets (the_drive 0x01 host_name) v e ≡ a

-- what is computed: the events, each from the moment before it
record Steps : Type 0 where
  begins : start (the_drive 0x01 host_name) writable ≡ w₀
  logs : By w₀ (send logs_in heard) w₁
  pair : By w₁ (send pairs heard) w₂
  attends : By w₂ (send asks heard) (with empty_exchange)
  open_silent : Hears (with empty_exchange) (send writes heard) none (with (writing 0 0))
  asks_data : Hears (with (writing 0 0)) (next its_word true) other (with (writing 0 1))
  awaits : Hears (with (writing 0 1)) (next its_word true) none (with (writing 0 1))
  loses : By (with (writing 0 1)) (send gives lost) (with (writing 0 1))
  takes : Hears (with (writing 0 1)) (send gives heard) none (with (writing 512 0))
  responds : Hears (with (writing 512 0)) (next its_word true) other (with empty_exchange)
  faults : Hears (with (writing 512 0)) (send gives heard) other (with empty_exchange)
  record_stays : (e : Exchange) → record_of (with e).drive.port 0x01 ≡ paired_held

steps : Steps
unfolding frame_in frame_in_buffer reply_bytes header_of header_bytes bad_size bad_source known_pair bad_sequence unknown_form spared unproven_login form_of valid_address made_from well_formed setup_rules setup_of setup_passes params_of size_fails zero_name verdict_of login_fine used_fine flags_fine address_fine params_fine exchange_fine apart_id apart_login wanted_fits blocks_fit direction_fits taken_fits moved_fits find_login free_login find_exchange free_exchange login_of has_address has_id login_at exchange_at with_login with_exchange ended_of host_ended has_name name_of changed_all bytes_of filled onto answer_head short_bytes login_bytes pair_bytes status_bytes code_bytes sense_bytes ready_bytes residual_of link_of size_of plogi_of outcome_of new_login service_of prli_of pair_fine page_fine cmnd_of malformed task_for task_of other_unit attends range10 operation_of protected beyond tested_by asked_of refused_with told_of bit_for opened_of execute_of commanded_at command_of next_frame next_frame_buffer lookup_of has_more reads_more cover_of lent_place place_of ready_reply next_reply next_exchange source_of window_place own_of asked_by open_step step_of frame_bytes moved_on next_of next_buffer burst_end fault_of find_write covered_step data_step served_data data_decided record_of logs_in pairs asks writes gives
steps =
    record {
      begins = refl;
      logs = record { follows = tt; goes = refl };
      pair = record { follows = tt; goes = refl };
      attends = record { follows = tt; goes = refl };
      open_silent = record { by = record { follows = tt; goes = refl }; got = refl };
      asks_data = record { by = record { follows = tt; goes = refl }; got = refl };
      awaits = record { by = record { follows = tt; goes = refl }; got = refl };
      loses = record { follows = tt; goes = refl };
      takes = record { by = record { follows = tt; goes = refl }; got = refl };
      responds = record { by = record { follows = tt; goes = refl }; got = refl };
      faults = record { by = record { follows = tt; goes = refl }; got = refl };
      record_stays = λ e. refl;
    }

begun : Reach writable [] w₀
begun = record { keeps = tt; ends = steps.begins }

to_pairing : Reach writable pairing (with empty_exchange)
to_pairing = more (more (more begun steps.logs) steps.pair) steps.attends

to_opened : Reach writable opened (with (writing 0 0))
to_opened = more to_pairing steps.open_silent.by

to_asked : Reach writable asked (with (writing 0 1))
to_asked = more to_opened steps.asks_data.by

to_waited : Reach writable waited (with (writing 0 1))
to_waited = more (more to_asked steps.awaits.by) steps.loses

to_given : Reach writable given (with (writing 512 0))
to_given = more to_waited steps.takes.by

to_answered : Reach writable answered (with empty_exchange)
to_answered = more to_given steps.responds.by

to_faulted : Reach writable faulted (with empty_exchange)
to_faulted = more to_given steps.faults.by

-- what the host gets at the end of a history is what it gets at the moment to which that leads
heard_at : {h : Day} {v u : Moment} {e : Event (the_drive 0x01 host_name)} {a : Answer} → Reach writable h v → Hears v e a u → hears_at h e ≡ a
heard_at {h} {v} {u} {e} l t = ap (λ (x : Moment). gets (the_drive 0x01 host_name) x e) l.ends ∙ t.got

right_at : {h : Day} (e : Exchange) → Reach writable h (with e) → Right h
right_at e l = at_end l paired_held (steps.record_stays e)

pub written : Written
written =
    record {
      paired_gives = paired_gives;
      keeps = to_answered.keeps;
      keeps_too = to_faulted.keeps;
      write_silent = heard_at to_pairing steps.open_silent;
      at_opened = right_at (writing 0 0) to_opened;
      ready_comes = heard_at to_opened steps.asks_data;
      at_asked = right_at (writing 0 1) to_asked;
      none_awaited = heard_at to_asked steps.awaits;
      at_waited = right_at (writing 0 1) to_waited;
      data_silent = heard_at to_waited steps.takes;
      at_given = right_at (writing 512 0) to_given;
      response_comes = heard_at to_given steps.responds;
      at_answered = right_at empty_exchange to_answered;
      fault_comes = heard_at to_given steps.faults;
      at_faulted = right_at empty_exchange to_faulted;
    }
