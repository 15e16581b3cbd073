-- A call for a next frame that says it sent one: which frame stands in the buffer, and what drive is left. And where a frame is to be sent, the call says so.
-- Assumes nothing.
use Rattle.std.specs.Prelude.{Ok}
use mathlib.Core.Path.{◌≡◌, refl, ap, ◌∙◌}
use mathlib.Core.Bool.{Bool, true, false, cond, not}
use mathlib.Core.List.{List}
use Prim.Native.Nat.{ℕ, ◌≤◌}
use native.Mathlib.Omega.{arith}
use lib.ListN.{length, take, drop}
use lib.Seq.{take-append_seam}
use borrow.Author.Tests.{ltb-false}
use Rattle.wire.specs.Bytes.{onto}
use Rattle.wire.proofs.Fronts.{onto_fits}
use Rattle.refusal.specs.declared.Refusal.TheVariants.{ShortBuffer, IllFormed}
use Rattle.formed.specs.Formed.{well_formed}
use Rattle.serve.specs.Next.{Step, Refused, Frame, step_of, frame_bytes, next_at, next_of, next_buffer}
use Rattle.arrival.specs.Arrival.{short_buffer}
use Rattle.drive.specs.declared.Drive.{Drive}
use Rattle.drive.specs.Drive.{refused}
use Rattle.drive.specs.Entry.{next_answer, next_frame, next_frame_buffer}
use Rattle.demands.proofs.Decoding.{few_bytes}

module _ (d : Drive) (a x start : ℕ) (W l : List ℕ) where
  -- the frame of the exchange at places i and j was sent, and n is its length
  pub record Gave (n : ℕ) : Type 0 where
    pub i : ℕ
    pub j : ℕ
    pub k : ℕ
    pub room : short_buffer (length l) ≡ false
    pub formed : well_formed d.unit d.port ≡ true
    pub step : step_of d.port a x start (length W) ≡ Frame i j k
    pub is : length (frame_bytes d.unit d.port a x i j k W) ≡ n

  from_step : (n : ℕ) (s : Step) → short_buffer (length l) ≡ false → well_formed d.unit d.port ≡ true → step_of d.port a x start (length W) ≡ s
      → (next_at s d.unit d.port a x W).said ≡ Ok n → Gave n
  from_step n (Frame i j k) r w q e = record { i = i; j = j; k = k; room = r; formed = w; step = q; is = (cc) }
  from_step n (Refused y) r w q e = let z : ◌≡◌ {A = ℕ} 0 1 = cc in absurd (omega arith)

  -- what is said of a frame, is said of the frame of a step
  pub gave : (n : ℕ) → (next_frame d a x start W (length l)).said ≡ Ok n → Gave n
  unfolding next_frame next_of
  gave n = by (short_buffer (length l)) (well_formed d.unit d.port) refl refl
    where
      by : (s w : Bool) → short_buffer (length l) ≡ s → well_formed d.unit d.port ≡ w
          → (cond s (refused ShortBuffer d) (cond (not w) (refused IllFormed d) (next_answer d (next_of d.unit d.port a x start W)))).said ≡ Ok n → Gave n
      by true w r q e = let z : ◌≡◌ {A = ℕ} 0 1 = cc in absurd (omega arith)
      by false false r q e = let z : ◌≡◌ {A = ℕ} 0 1 = cc in absurd (omega arith)
      by false true r q e = from_step n (step_of d.port a x start (length W)) r q refl e

  -- and where there is room and such a step
  module _ (i j k : ℕ) (room : short_buffer (length l) ≡ false) (w : well_formed d.unit d.port ≡ true) (q : step_of d.port a x start (length W) ≡ Frame i j k) where
    abbrev sent : List ℕ
    sent = frame_bytes d.unit d.port a x i j k W

    -- the call says so
    pub says : (next_frame d a x start W (length l)).said ≡ Ok (length sent)
    unfolding next_frame next_of
    says = rw (room, w, q)

    -- the frame stands at the front of the buffer
    buffer_is : next_frame_buffer d a x start W l ≡ onto sent l
    unfolding next_frame_buffer next_buffer
    buffer_is = rw (room, w, q)

    pub front_is : take (length sent) (next_frame_buffer d a x start W l) ≡ sent
    front_is =
        let fits : length sent ≤ length l = let m = few_bytes d.unit d.port a x i j k W in let r = ltb-false (length l) 2136 room in omega arith in
        ap (take (length sent)) (buffer_is ∙ onto_fits sent l fits) ∙ take-append_seam sent (drop (length sent) l)

    -- and the exchange has moved on
    pub drive_is : (next_frame d a x start W (length l)).drive ≡ record { unit = d.unit; port = (next_of d.unit d.port a x start W).port }
    unfolding next_frame
    drive_is = rw (room, w)
