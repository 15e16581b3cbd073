-- Document 01's known numbers that are marked P, at the entries: one theorem, by computation but for the long READ, of which the theorem on a whole READ tells every frame. Assumes nothing.
use mathlib.Core.Path.{◌≡◌, refl, sym, ap, ◌∙◌, subst}
use mathlib.Core.Bool.{true}
use mathlib.Core.List.{List, [], ◌∷◌}
use Prim.Native.Nat.{ℕ, zero, suc, ◌+◌, ◌*◌, ◌<◌}
use native.Mathlib.Omega.{arith}
use lib.ListN.{length, take, drop, get_or}
use Rattle.wire.specs.Bytes.{name_of, onto}
use Rattle.frame.specs.Head.{header_of, header_bytes}
use Rattle.address.specs.Address.{valid_address}
use Rattle.params.specs.Words.{params_of, size_fails, zero_name, verdict_of, setup_passes}
use Rattle.state.specs.Changes.{own_of, login_at, exchange_at, with_login, with_exchange, has_address, has_name, ended_of, host_ended, changed_all}
use Rattle.state.specs.Tables.{has_id, find_login, free_login, find_exchange, free_exchange, login_of, lookup_of}
use Rattle.formed.specs.Formed.{setup_rules, setup_of, blocks_fit, made_fits, wanted_fits, direction_fits, sent_fits, moved_fits, exchange_fine, apart_id, params_fine, flags_fine, address_fine, used_fine, login_fine, apart_login, well_formed}
use Rattle.reply.specs.Payload.{short_bytes, login_bytes, pair_bytes, reject_bytes, status_bytes, code_bytes, sense_bytes}
use Rattle.reply.specs.Reply.{answer_head, data_head, filled, bytes_of}
use Rattle.residual.specs.Residual.{residual_of}
use Rattle.link.specs.Link.{size_of, new_login, outcome_of, plogi_of, page_fine, pair_fine, prli_of, service_of, link_of}
use Rattle.command.specs.Cmnd.{cmnd_of, malformed, task_for, task_of}
use Rattle.command.specs.Cdb.{inquiry_field, capacity_field, range10, operation_of}
use Rattle.command.specs.Tests.{other_unit, attends, protected, beyond, tested_by, asked_of}
use Rattle.command.specs.Command.{refused_with, told_of, bit_for, opened_of, execute_of, commanded_at, command_of}
use Rattle.cover.specs.Cover.{cover_of}
use Rattle.serve.specs.Next.{exchange_of, full_of, has_more, reads_more, place_of, frame_of, next_reply, next_exchange, source_of, window_place, asked_by, open_step, step_of, frame_bytes, moved_on, next_of, next_buffer}
use Rattle.arrival.specs.Arrival.{bad_size, bad_source, known_pair, bad_sequence, unknown_form, spared, unproven_login, form_of}
use Rattle.drive.specs.Drive.{made_from}
use Rattle.drive.specs.Entry.{reply_bytes, frame_in, frame_in_buffer, next_frame, next_frame_buffer}
use Rattle.state.specs.declared.Exchange.{Exchange}
use Rattle.state.specs.Standing.{Open}
use Rattle.state.specs.Kinds.{kind_blocks, to_host, is_write}
use Rattle.drive.specs.declared.Drive.{Drive}
use Rattle.demands.specs.Reading.{Reads, Fresh, data_frame, data_frames, Delivered, read_from, Comes}
use Rattle.demands.specs.Numbers.{long, counted, KnownNumbers}
use Rattle.demands.proofs.Reading.{reads_read, reads_come}

-- of so many data frames from a number on, the one at a place
frames_at : (own a x full : ℕ) (all : List ℕ) (n from m : ℕ) → m < n → get_or (data_frames own a x full all n from) m [] ≡ data_frame own a x full all (from + m)
frames_at own a x full all zero from m h = absurd (omega arith)
frames_at own a x full all (suc n) from zero h = ap (data_frame own a x full all) (omega arith)
frames_at own a x full all (suc n) from (suc m) h = frames_at own a x full all n (from + 1) m (omega arith) ∙ ap (data_frame own a x full all) (omega arith)

-- what the long READ is
record Long : Type 0 where
  formed : well_formed long.unit long.port ≡ true
  stands : lookup_of long.port 0x01 0x0004 ≡ Open 0 0
  is : exchange_of long.port 0 0 ≡ record { start = 0; blocks = 65535; wanted = 33553920; expected = 33553920; sent = 0; count = 0; ox_id = 0x0004; kind = kind_blocks; direction = to_host; awaited = 0 }
  full : full_of long.port 0 ≡ 256
  own : long.port.address ≡ 0xef
  blocks : long.unit.capacity ≡ 65535
  proven : (login_at long.port 0).proven ≡ 1

long_is : Long
unfolding frame_in frame_in_buffer reply_bytes header_of header_bytes bad_size bad_source known_pair bad_sequence unknown_form spared unproven_login form_of valid_address made_from well_formed setup_rules setup_of setup_passes params_of size_fails zero_name verdict_of login_fine used_fine flags_fine address_fine params_fine exchange_fine apart_id apart_login wanted_fits blocks_fit made_fits direction_fits sent_fits moved_fits find_login free_login find_exchange free_exchange login_of has_address has_id login_at exchange_at with_login with_exchange ended_of host_ended has_name name_of changed_all bytes_of filled onto answer_head data_head short_bytes login_bytes pair_bytes reject_bytes status_bytes code_bytes sense_bytes residual_of link_of size_of plogi_of outcome_of new_login service_of prli_of pair_fine page_fine cmnd_of malformed task_for task_of other_unit attends protected inquiry_field capacity_field range10 operation_of beyond tested_by asked_of refused_with told_of bit_for opened_of execute_of commanded_at command_of next_frame next_frame_buffer lookup_of has_more reads_more cover_of place_of frame_of next_reply next_exchange source_of window_place own_of asked_by open_step step_of frame_bytes moved_on next_of next_buffer
long_is = record { formed = refl; stands = refl; is = refl; full = refl; own = refl; blocks = refl; proven = refl }

long_fresh : Fresh long 0x01 0x0004 0 0
long_fresh =
    let e = long_is.is in
    record { stands = long_is.stands; fresh = ap (λ (r : Exchange). r.sent) e; ox = omega arith; expected = subst (λ (r : Exchange). r.expected < 4294967296) (sym e) (omega arith) }

module _ (unit : List ℕ) (size : length unit ≡ 512 * 65535) where
  sized : length unit ≡ 512 * long.unit.capacity
  sized = size ∙ ap (λ (n : ℕ). 512 * n) (sym long_is.blocks)

  pub long_comes : Comes unit 0x01 0x0004 long
  long_comes = reads_come long unit 0x01 0x0004 0 0 long_is.formed sized long_is.stands long_is.proven (ap (λ (r : Exchange). is_write r) long_is.is)

  module _ (frames : List (List ℕ)) (last : List ℕ) (e : Drive) (reads : Reads unit 0x01 0x0004 long frames last e) where
    abbrev r : Exchange
    r = record { start = 0; blocks = 65535; wanted = 33553920; expected = 33553920; sent = 0; count = 0; ox_id = 0x0004; kind = kind_blocks; direction = to_host; awaited = 0 }

    delivered : Delivered (read_from unit r) 0xef 0x01 256 r frames last
    delivered =
        let t = (reads_read long e unit 0x01 0x0004 0 0 frames last long_is.formed sized long_fresh (ap (λ (x : Exchange). x.kind) long_is.is) (ap (λ (x : Exchange). is_write x) long_is.is) reads).0 in
        subst (λ (x : Exchange). Delivered (read_from unit x) 0xef 0x01 256 x frames last) long_is.is
        (subst (λ (full : ℕ). Delivered (read_from unit (exchange_of long.port 0 0)) 0xef 0x01 full (exchange_of long.port 0 0) frames last) long_is.full
        (subst (λ (own : ℕ). Delivered (read_from unit (exchange_of long.port 0 0)) own 0x01 (full_of long.port 0) (exchange_of long.port 0 0) frames last) long_is.own t))

    pub frame_is : (m : ℕ) → m < 131070 → get_or frames m [] ≡ data_frame 0xef 0x01 0x0004 256 (take 33553920 (read_from unit r)) m
    frame_is m h =
        let all = take 33553920 (read_from unit r) in
        let many : length frames ≡ 131070 = delivered.few in
        ap (λ (fs : List (List ℕ)). get_or fs m []) delivered.each ∙ frames_at 0xef 0x01 0x0004 256 all (length frames) 0 m (omega (arith, many)) ∙ ap (data_frame 0xef 0x01 0x0004 256 all) (omega arith)

    pub count_65536 : counted frames 65535 ≡ 0x01 ∷ 0x00 ∷ 0xff ∷ 0xff ∷ 0x00 ∷ 0x04 ∷ 0xff ∷ 0xff ∷ 0x00 ∷ 0xff ∷ 0xff ∷ 0x00 ∷ []
    unfolding header_bytes
    count_65536 = ap (λ (f : List ℕ). take 12 (drop 12 f)) (frame_is 65535 (omega arith))

    pub count_65537 : counted frames 65536 ≡ 0x01 ∷ 0x00 ∷ 0x00 ∷ 0x00 ∷ 0x00 ∷ 0x04 ∷ 0xff ∷ 0xff ∷ 0x01 ∷ 0x00 ∷ 0x00 ∷ 0x00 ∷ []
    unfolding header_bytes
    count_65537 = ap (λ (f : List ℕ). take 12 (drop 12 f)) (frame_is 65536 (omega arith))

pub known_numbers : KnownNumbers
unfolding frame_in frame_in_buffer reply_bytes header_of header_bytes bad_size bad_source known_pair bad_sequence unknown_form spared unproven_login form_of valid_address made_from well_formed setup_rules setup_of setup_passes params_of size_fails zero_name verdict_of login_fine used_fine flags_fine address_fine params_fine exchange_fine apart_id apart_login wanted_fits blocks_fit made_fits direction_fits sent_fits moved_fits find_login free_login find_exchange free_exchange login_of has_address has_id login_at exchange_at with_login with_exchange ended_of host_ended has_name name_of changed_all bytes_of filled onto answer_head data_head short_bytes login_bytes pair_bytes reject_bytes status_bytes code_bytes sense_bytes residual_of link_of size_of plogi_of outcome_of new_login service_of prli_of pair_fine page_fine cmnd_of malformed task_for task_of other_unit attends protected inquiry_field capacity_field range10 operation_of beyond tested_by asked_of refused_with told_of bit_for opened_of execute_of commanded_at command_of next_frame next_frame_buffer lookup_of has_more reads_more cover_of place_of frame_of next_reply next_exchange source_of window_place own_of asked_by open_step step_of frame_bytes moved_on next_of next_buffer
known_numbers =
    record {
      frame_20 = refl;
      frame_24 = refl;
      frame_2136 = refl;
      frame_2140 = refl;
      size_252 = refl;
      size_256 = refl;
      size_258 = refl;
      size_2112 = refl;
      size_2116 = refl;
      ninth = refl;
      read_99_1 = refl;
      served_99_1 = refl;
      read_99_2 = refl;
      read_100_0 = refl;
      over = refl;
      under = refl;
      byte = refl;
      block = refl;
      bytes_there = refl;
      not_zero = refl;
      bytes_zero = refl;
      frame_65536 = λ unit frames last e size reads. count_65536 unit size frames last e reads;
      frame_65537 = λ unit frames last e size reads. count_65537 unit size frames last e reads;
      frames_come = long_comes;
    }
