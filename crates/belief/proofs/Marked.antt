-- The history of `specs/Marked.antt`, by computation. Assumes nothing.
use Prim.Native.Nat.{ℕ}
use mathlib.Core.Path.{◌≡◌, refl, ap, ◌∙◌}
use mathlib.Core.Bool.{true}
use mathlib.Core.List.{[]}
use native.Mathlib.Omega.{arith}
use Rattle.wire.specs.Bytes.{name_of, onto}
use Rattle.frame.specs.Head.{header_of, header_bytes}
use Rattle.address.specs.Address.{valid_address}
use Rattle.params.specs.Words.{params_of, size_fails, zero_name, verdict_of, setup_passes}
use Rattle.state.specs.declared.Exchange.{Exchange}
use Rattle.state.specs.Kinds.{kind_blocks, to_host}
use Rattle.state.specs.Changes.{empty_exchange, empty_login, own_of, login_at, exchange_at, with_login, with_exchange, has_address, has_name, freed_of, ended_of, host_ended, unproven, verified, changed_all}
use Rattle.state.specs.Tables.{has_id, find_login, free_login, find_exchange, free_exchange, login_of, lookup_of}
use Rattle.formed.specs.Formed.{setup_rules, setup_of, blocks_fit, wanted_fits, direction_fits, sent_fits, moved_fits, exchange_fine, apart_id, params_fine, flags_fine, address_fine, used_fine, login_fine, apart_login, well_formed}
use Rattle.reply.specs.Payload.{short_bytes, login_bytes, pair_bytes, reject_bytes, status_bytes, code_bytes, sense_bytes, logout_bytes}
use Rattle.reply.specs.Reply.{answer_head, logout_head, data_head, filled, bytes_of}
use Rattle.residual.specs.Residual.{residual_of}
use Rattle.link.specs.Link.{size_of, new_login, outcome_of, plogi_of, names_differ, pdisc_of, page_fine, pair_fine, prli_of, service_of, link_of}
use Rattle.link.specs.Record.{out, record_of}
use Rattle.command.specs.Cmnd.{cmnd_of, malformed, task_for, task_of}
use Rattle.command.specs.Cdb.{inquiry_field, capacity_field, range10, operation_of}
use Rattle.command.specs.Tests.{other_unit, attends, protected, beyond, tested_by, asked_of}
use Rattle.command.specs.Command.{logged_out, refused_with, told_of, bit_for, opened_of, execute_of, commanded_at, command_of}
use Rattle.cover.specs.Cover.{cover_of}
use Rattle.serve.specs.Next.{has_more, reads_more, place_of, frame_of, next_reply, next_exchange, source_of, window_place, asked_by, open_step, step_of, frame_bytes, moved_on, next_of, next_buffer}
use Rattle.arrival.specs.Arrival.{bad_size, bad_source, known_pair, bad_sequence, unknown_form, spared, unproven_login, form_of}
use Rattle.drive.specs.Drive.{made_from, after_event, event_answer}
use Rattle.drive.specs.Entry.{reply_bytes, frame_in, frame_in_buffer, next_frame, next_frame_buffer}
use Rattle.demands.specs.Numbers.{made}
use Rattle.belief.specs.Host.{unsure, sure, dlogo}
use Rattle.belief.specs.Demand3.{lost, mute, heard, send, next, pass, foreign, reset, lapse, loss, reaches_host, start}
use Rattle.belief.specs.Wire.{time_over, the_drive}
use Rattle.belief.specs.Frames.{host_name, logs_in, pairs, asks, verifies, reads, its_frame, stranger_asks, stranger_logs_in, host_to_stranger}
use Rattle.belief.specs.Marked.{doubtful, pairing, visited, opened, served, answered, doubted, proven_again, late, forgotten, corrected, Marked}
use Rattle.belief.proofs.Moments.{Moment, seat, moment, in_held, paired_held, doubted_held, By, more, Reach, at_end}

-- the READ after so many bytes and frames
abbrev reading : (sent count : ℕ) → Exchange
reading sent count = record { start = 0; blocks = 1; wanted = 512; expected = 512; sent = sent; ox_id = 0x0004; count = count; kind = kind_blocks; direction = to_host; awaited = 0 }

abbrev m₀ : Moment
m₀ = moment 0 unsure empty_login empty_login

abbrev m₁ : Moment
m₁ = moment 0 unsure (seat 1 1 0 0x29 empty_exchange) empty_login

abbrev m₂ : Moment
m₂ = moment 0 (sure in_held) (seat 1 1 0 0x29 empty_exchange) empty_login

abbrev m₃ : Moment
m₃ = moment 0 (sure paired_held) (seat 1 1 1 0x29 empty_exchange) empty_login

abbrev m₄ : Moment
m₄ = moment 0 (sure paired_held) (seat 1 1 1 0x29 empty_exchange) (seat 2 1 0 0x29 empty_exchange)

abbrev m₅ : Moment
m₅ = moment 0 (sure paired_held) (seat 1 1 1 0 empty_exchange) (seat 2 1 0 0x29 empty_exchange)

abbrev m₆ : Moment
m₆ = moment 0 (sure paired_held) (seat 1 1 1 0 (reading 0 0)) (seat 2 1 0 0x29 empty_exchange)

abbrev m₇ : Moment
m₇ = moment 0 (sure paired_held) (seat 1 1 1 0 (reading 512 1)) (seat 2 1 0 0x29 empty_exchange)

abbrev m₈ : Moment
m₈ = moment 0 (sure doubted_held) (seat 1 0 1 0 empty_exchange) (seat 2 0 0 0x29 empty_exchange)

abbrev m₉ : Moment
m₉ = moment 0 (sure paired_held) (seat 1 1 1 0 empty_exchange) (seat 2 0 0 0x29 empty_exchange)

abbrev m₁₀ : Moment
m₁₀ = moment 0 (sure doubted_held) empty_login empty_login

abbrev m₁₁ : Moment
m₁₁ = moment 0 (sure out) empty_login empty_login

-- what is computed: the events, each from the moment before it
record Steps : Type 0 where
  begins : start (the_drive 0x01 host_name) (made 100) ≡ m₀
  e₁ : By m₀ (send logs_in lost) m₀
  e₂ : By m₀ (send logs_in mute) m₁
  e₃ : By m₁ (send logs_in heard) m₂
  e₄ : By m₂ (send pairs heard) m₃
  e₅ : By m₃ (pass host_to_stranger true) m₃
  e₆ : By m₃ (pass stranger_asks true) m₃
  e₇ : By m₃ (pass stranger_logs_in true) m₄
  e₈ : By m₄ (foreign dlogo) m₄
  e₉ : By m₄ (send asks heard) m₅
  e₁₀ : By m₅ (send reads heard) m₆
  e₁₁ : By m₆ (next its_frame true) m₇
  e₁₂ : By m₇ (next its_frame true) m₅
  e₁₃ : By m₅ reset m₈
  e₁₄ : By m₈ (send verifies heard) m₉
  e₁₅ : By m₉ reset m₈
  e₁₆ : By m₈ (lapse time_over) m₁₀
  e₁₇ : By m₁₀ (send verifies heard) m₁₁
  -- the records at the moments, and what the host gets there
  logged : record_of m₁.drive.port 0x01 ≡ in_held
  paired : record_of m₃.drive.port 0x01 ≡ paired_held
  visit : record_of m₄.drive.port 0x01 ≡ paired_held
  done : record_of m₅.drive.port 0x01 ≡ paired_held
  doubt : record_of m₈.drive.port 0x01 ≡ doubted_held
  proof : record_of m₉.drive.port 0x01 ≡ paired_held
  gone : record_of m₁₀.drive.port 0x01 ≡ out
  data_frame_lem : reaches_host (the_drive 0x01 host_name) m₆ (next its_frame true) ≡ true
  response : reaches_host (the_drive 0x01 host_name) m₇ (next its_frame true) ≡ true
  lost_memory : loss (the_drive 0x01 host_name) m₈ (lapse time_over) ≡ true

steps : Steps
unfolding frame_in frame_in_buffer reply_bytes header_of header_bytes bad_size bad_source known_pair bad_sequence unknown_form spared unproven_login form_of valid_address made_from well_formed setup_rules setup_of setup_passes params_of size_fails zero_name verdict_of login_fine used_fine flags_fine address_fine params_fine exchange_fine apart_id apart_login wanted_fits blocks_fit direction_fits sent_fits moved_fits find_login free_login find_exchange free_exchange login_of has_address has_id login_at exchange_at with_login with_exchange ended_of host_ended has_name name_of freed_of unproven verified changed_all bytes_of filled onto answer_head logout_head data_head short_bytes login_bytes pair_bytes reject_bytes status_bytes code_bytes sense_bytes logout_bytes residual_of link_of size_of plogi_of names_differ pdisc_of outcome_of new_login service_of prli_of pair_fine page_fine cmnd_of malformed task_for task_of other_unit attends inquiry_field capacity_field range10 operation_of protected beyond tested_by asked_of logged_out refused_with told_of bit_for opened_of execute_of commanded_at command_of next_frame next_frame_buffer lookup_of has_more reads_more cover_of place_of frame_of next_reply next_exchange source_of window_place own_of asked_by open_step step_of frame_bytes moved_on next_of next_buffer record_of event_answer after_event logs_in pairs asks verifies reads stranger_asks stranger_logs_in
steps =
    record {
      begins = refl;
      e₁ = record { follows = tt; goes = refl };
      e₂ = record { follows = tt; goes = refl };
      e₃ = record { follows = tt; goes = refl };
      e₄ = record { follows = tt; goes = refl };
      e₅ = record { follows = λ q. let z : ◌≡◌ {A = ℕ} 2 239 = q in omega arith; goes = refl };
      e₆ = record { follows = tt; goes = refl };
      e₇ = record { follows = tt; goes = refl };
      e₈ = record { follows = tt; goes = refl };
      e₉ = record { follows = tt; goes = refl };
      e₁₀ = record { follows = tt; goes = refl };
      e₁₁ = record { follows = tt; goes = refl };
      e₁₂ = record { follows = tt; goes = refl };
      e₁₃ = record { follows = tt; goes = refl };
      e₁₄ = record { follows = refl; goes = refl };
      e₁₅ = record { follows = tt; goes = refl };
      e₁₆ = record { follows = tt; goes = refl };
      e₁₇ = record { follows = refl; goes = refl };
      logged = refl;
      paired = refl;
      visit = refl;
      done = refl;
      doubt = refl;
      proof = refl;
      gone = refl;
      data_frame_lem = refl;
      response = refl;
      lost_memory = refl;
    }

begun : Reach (made 100) [] m₀
begun = record { keeps = tt; ends = steps.begins }

to_doubtful : Reach (made 100) doubtful m₁
to_doubtful = more (more begun steps.e₁) steps.e₂

to_pairing : Reach (made 100) pairing m₃
to_pairing = more (more to_doubtful steps.e₃) steps.e₄

to_visited : Reach (made 100) visited m₄
to_visited = more (more (more (more to_pairing steps.e₅) steps.e₆) steps.e₇) steps.e₈

to_opened : Reach (made 100) opened m₆
to_opened = more (more to_visited steps.e₉) steps.e₁₀

to_served : Reach (made 100) served m₇
to_served = more to_opened steps.e₁₁

to_answered : Reach (made 100) answered m₅
to_answered = more to_served steps.e₁₂

to_doubted : Reach (made 100) doubted m₈
to_doubted = more to_answered steps.e₁₃

to_proven : Reach (made 100) proven_again m₉
to_proven = more to_doubted steps.e₁₄

to_late : Reach (made 100) late m₈
to_late = more to_proven steps.e₁₅

to_forgotten : Reach (made 100) forgotten m₁₀
to_forgotten = more to_late steps.e₁₆

to_corrected : Reach (made 100) corrected m₁₁
to_corrected = more to_forgotten steps.e₁₇

pub marked : Marked
marked =
    record {
      keeps = to_corrected.keeps;
      unsure_first = at_end to_doubtful in_held steps.logged;
      sure_paired = at_end to_pairing paired_held steps.paired;
      others_nothing = at_end to_visited paired_held steps.visit;
      data_comes = ap (λ (x : Moment). reaches_host (the_drive 0x01 host_name) x (next its_frame true)) to_opened.ends ∙ steps.data_frame_lem;
      response_comes = ap (λ (x : Moment). reaches_host (the_drive 0x01 host_name) x (next its_frame true)) to_served.ends ∙ steps.response;
      read_through = at_end to_answered paired_held steps.done;
      to_verify = at_end to_doubted doubted_held steps.doubt;
      by_pdisc = at_end to_proven paired_held steps.proof;
      a_loss = ap (λ (x : Moment). loss (the_drive 0x01 host_name) x (lapse time_over)) to_late.ends ∙ steps.lost_memory;
      sure_and_wrong = at_end to_forgotten out steps.gone;
      right_again = at_end to_corrected out steps.gone;
    }
