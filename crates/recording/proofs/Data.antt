-- A frame with a window, over plain values: what a record of D has where it is a call, and what is told of it. Assumes nothing.
use Prim.Native.Nat.{ℕ, ◌+◌, ◌-◌, ◌≤◌}
use mathlib.Core.Path.{◌≡◌, ap, ◌∙◌}
use mathlib.Core.Bool.{true, ◌&&◌}
use mathlib.Core.List.{List, ◌++◌}
use native.Mathlib.Omega.{arith}
use lib.Dec.{eqb, leb}
use lib.ListN.{length, take, drop, length-drop}
use lib.Seq.{take_at, length-take-le}
use borrow.Author.Tests.{leb-true}
use borrow.Rule.Slice.PartMut.{mid_of, put_mid}
use Rattle.tables.proofs.Bools.{and_left, and_right}
use Rattle.wire.specs.Bytes.{num, onto}
use Rattle.wire.proofs.Fronts.{onto_fits}
use Rattle.wire.proofs.Parts.{rest_is, rest_back}
use Rattle.drive.specs.Entry.{frame_in_window}
use Rattle.recording.specs.declared.Session.{Session}
use Rattle.recording.specs.declared.Told.{Told}
use Rattle.recording.specs.Calls.{window_from, is_data_call, record_frame, record_window, handed, data_call, data_after}

-- the window begins in the body, and the room is none that is too large
pub data_fits : (s : Session) (letter : ℕ) (b : List ℕ) → is_data_call s letter b ≡ true → (window_from b ≤ length b) × (num 2 b 0 ≤ 4096)
unfolding is_data_call
data_fits s letter b e =
    let early = eqb letter 0x44 && leb 12 (length b) in
    let window = and_left (early && leb (num 2 b 0) 4096 && leb (window_from b) (length b)) s.made e in
    let room = and_left (early && leb (num 2 b 0) 4096) (leb (window_from b) (length b)) window in
    (leb-true _ _ (and_right (early && leb (num 2 b 0) 4096) (leb (window_from b) (length b)) window), leb-true _ _ (and_right early (leb (num 2 b 0) 4096) room))

-- n bytes of the frame stand before it
pub window_at : (b : List ℕ) (n : ℕ) → n ≡ num 2 b 10 → window_from b ≤ length b → 12 + n ≤ length b
unfolding window_from
window_at b n e h = rw e h

-- the frame, copied to the front of z, and from there
module _ (b z f : List ℕ) (n : ℕ) (e : n ≡ num 2 b 10) (h : window_from b ≤ length b) (room : n ≤ length z) (copied : f ≡ onto (mid_of 12 (12 + n - 12) b) z) where
  frame_back : take n f ≡ record_frame b
  unfolding record_frame
  frame_back =
      let fits = window_at b n e h in
      let less : 12 + n - 12 ≡ n = omega arith in
      let p = take n (drop 12 b) in
      let long : length p ≡ n = length-take-le n (drop 12 b) (simp length-drop (omega arith)) in
      let there : length p ≤ length z = omega arith in
      let front : f ≡ p ++ drop (length p) z = copied ∙ ap (λ (m : ℕ). onto (take m (drop 12 b)) z) less ∙ onto_fits p z there in
      ap (take n) front ∙ take_at p (drop (length p) z) n long ∙ ap (λ (m : ℕ). take m (drop 12 b)) e

  window_is : mid_of (12 + n) (length b - (12 + n)) b ≡ record_window b
  unfolding record_window window_from
  window_is = rest_is (12 + n) b ∙ ap (λ (m : ℕ). drop (12 + m) b) e

  -- what is told of D
  pub data_told : (s : Session) {k start : ℕ} {r : Told} → k ≡ num 2 b 0 → start ≡ num 8 b 2
      → r ≡ handed s k (take n f) start (mid_of (12 + n) (length b - (12 + n)) b) → r ≡ data_call s b
  unfolding data_call
  data_told s {k} {start} {r} p q t = rw (p, q, frame_back, window_is) at t

  -- its body, once its window has come back as y
  pub data_body : (s : Session) {k start : ℕ} {y : List ℕ} → k ≡ num 2 b 0 → start ≡ num 8 b 2
      → y ≡ frame_in_window s.drive (take n f) start (mid_of (12 + n) (length b - (12 + n)) b) k → put_mid (12 + n) (length b - (12 + n)) b y ≡ data_after s b
  unfolding data_after window_from
  data_body s {k} {start} {y} p q t =
      let back : y ≡ frame_in_window s.drive (record_frame b) (num 8 b 2) (record_window b) (num 2 b 0) = rw (p, q, frame_back, window_is) at t in
      rest_back (12 + n) b y ∙ rw (back, e)
