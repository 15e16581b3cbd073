-- What judges finds of a login record is what the drive answers to a PLOGI of that payload, where it has no logins. Assumes nothing.
use Rattle.std.specs.Prelude.{Some, Ok, Err, Result, ⊤}
use Rattle.params.specs.declared.Fault.{Fault}
use mathlib.Core.Path.{◌≡◌, refl, sym, ap, ◌∙◌}
use mathlib.Core.Bool.{true, false, ◌&&◌}
use mathlib.Core.List.{List}
use Prim.Native.Nat.{ℕ, ◌≤◌, ◌<◌}
use native.Mathlib.Omega.{arith}
use native.Mathlib.Decide.{dec_le}
use lib.Dec.{leb}
use lib.ListN.{length, get_or}
use borrow.Author.Tests.{le-ltb, eq-eqb}
use Rattle.tables.proofs.Firsts.{none_then}
use Rattle.refusal.specs.Refusal.{frame_order}
use Rattle.wire.specs.Bytes.{name_of}
use Rattle.frame.specs.declared.Header.{Header}
use Rattle.frame.specs.Head.{Fits, header_of, header_bytes}
use Rattle.frame.proofs.Trips.{read_write}
use Rattle.tables.proofs.Bools.{and_left, and_right, apart}
use Rattle.address.specs.Address.{valid_address}
use Rattle.address.proofs.Map.{none_above}
use Rattle.params.specs.Words.{params_of, verdict_of, setup_passes}
use Rattle.state.specs.declared.Setup.{Setup}
use Rattle.state.specs.Changes.{has_address, has_name, ended_of, host_ended, changed_all}
use Rattle.state.specs.Tables.{free_login}
use Rattle.formed.specs.Formed.{setup_rules}
use Rattle.calls.specs.Turn.{Decided}
use Rattle.link.specs.Link.{size_of, outcome_after, ends_for, outcome_of, outcome_reply, plogi_of, link_of}
use Rattle.arrival.specs.Arrival.{bad_size, bad_source, known_pair, bad_sequence, unknown_form, spared, form_of}
use Rattle.arrival.proofs.Passes.{Passes}
use Rattle.judging.specs.Judgement.{judged, judgement_of}
use Rattle.drive.specs.declared.Drive.{Drive}
use Rattle.drive.specs.Drive.{made_from, refused}
use Rattle.drive.specs.Entry.{applies, answered, frame_in}
use Rattle.drive.proofs.Ways.{PassesIn, passes_in}
use Rattle.drive.proofs.Made.{made_formed}
use Rattle.drive.proofs.Keeping.{source_valid}
use Rattle.demands.specs.Judges.{plogi_header, plogi_frame, reply_for}

pub small_address : (n : ℕ) → valid_address n ≡ true → n < 256
small_address n v =
    elim (dec_le 256 n) [
      | yes l ↦ apart v (none_above n l)
      | no l ↦ omega arith
    ]

same_reply : (v : Result ⊤ Fault) → outcome_reply (outcome_after v (Some 0)) ≡ reply_for (judged v)
same_reply (Ok tt) = refl
same_reply (Err t) = refl

module _ (t : Setup) (rules : setup_rules t ≡ true) (from ox : ℕ) (other : bad_source t.address from ≡ false) (small : ox < 65536) (s : List ℕ) (size : length s ≡ 116)
    (plogi : get_or s 0 0 ≡ 3) where
  abbrev d : Drive
  d = made_from t

  abbrev h : Header
  h = plogi_header from t.address ox

  abbrev f : List ℕ
  f = plogi_frame from t.address ox s

  long : length f ≡ 140
  unfolding header_bytes
  long = let q = size in omega arith

  code : get_or f 24 0 ≡ 3
  unfolding header_bytes
  code = plogi

  same_words : params_of f 28 ≡ params_of s 4
  unfolding header_bytes params_of
  same_words = refl

  -- an empty table has its lowest place free
  first_free : (v : Result ⊤ Fault) (name : ℕ) → free_login (changed_all (ends_for v from name) d.port) ≡ Some 0
  unfolding made_from changed_all ended_of host_ended has_address has_name free_login
  first_free (Ok tt) name = refl
  first_free (Err t) name = refl

  judged_is : judgement_of s ≡ judged (verdict_of (params_of s 4))
  unfolding judgement_of
  judged_is = rw (size, plogi)

  linked : link_of d.port h f ≡ plogi_of d.port from (params_of f 28)
  unfolding link_of size_of
  linked = rw (code, long)

  reply_is : (link_of d.port h f).reply ≡ reply_for (judgement_of s)
  unfolding plogi_of outcome_of
  reply_is =
      ap (λ (r : Decided). r.reply) linked ∙ rw (first_free (verdict_of (params_of f 28)) (name_of (params_of f 28).port_name), same_words) (same_reply (verdict_of (params_of s 4)) ∙ ap reply_for (sym judged_is))

  own_small : t.address < 256
  unfolding setup_rules
  own_small =
      let a = leb 1 t.capacity in
      let b = leb t.capacity 4294967295 in
      let v = valid_address t.address in
      let w = setup_passes (params_of t.accept 0) in
      small_address t.address (and_right (a && b) v (and_left (a && b && v) w (and_left (a && b && v && w) (leb t.writable 1) rules)))

  fits : Fits h
  fits =
      let a = own_small in
      let b = small_address from (source_valid t.address from other) in
      record { d = omega arith; s = omega arith; f = omega arith; n = omega arith; o = omega arith; r = omega arith; p = omega arith }

  header_is : header_of f ≡ h
  header_is = read_write h s fits

  -- none of 1 to 7 applies to the frame, whatever the buffer of 2,136 bytes or more
  frame_passes : (room : ℕ) → 2136 ≤ room → Passes d.unit d.port h f room
  unfolding made_from bad_size unknown_form known_pair bad_sequence spared
  frame_passes room enough =
      record {
        long = le-ltb room 2136 enough;
        fine = made_formed t rules;
        sized = rw long;
        here = eq-eqb t.address t.address refl;
        from = other;
        known = rw long;
        proven = rw code;
      }

  -- nor do 11 and 10, for it is no data frame
  frame_in_lem : (start len room : ℕ) → 2136 ≤ room → PassesIn d f start len room
  frame_in_lem start len room enough = record { arrived = rw header_is (frame_passes room enough); open_write = rw header_is; covers = rw header_is }

  -- the drive's answer to the record, sent as a PLOGI by any valid address other than its own, is the judgement's
  pub judges_is : (start : ℕ) (W : List ℕ) (room : ℕ) → 2136 ≤ room → frame_in d f start W room ≡ answered d h (record { reply = reply_for (judgement_of s); port = (link_of d.port h f).port })
  unfolding frame_in form_of
  judges_is start W room enough =
      none_then (applies d f start (length W) room) frame_order (λ x. refused x d) _ (passes_in d f start (length W) room (frame_in_lem start (length W) room enough)) ∙ rw (header_is, sym reply_is)
