-- Each refusal is given exactly when it is the first of its entry's order that applies; it hands back the drive unchanged and changes no byte of the buffer and of the window. By the one law of the first.
-- Assumes nothing.
use Rattle.std.specs.Prelude.{Ok, Err, Result, ℕ}
use mathlib.Core.Path.{◌≡◌, refl, sym, ap, ◌∙◌}
use mathlib.Core.Bool.{Bool, true, false, cond, not}
use mathlib.Core.List.{List}
use Prim.Native.Nat.{ℕ}
use native.Mathlib.Omega.{arith}
use lib.ListN.{length}
use Rattle.tables.specs.Firsts.{first_of, NoneOf, IsFirst}
use Rattle.tables.proofs.Firsts.{first_then, none_then, then_first, first_over}
use Rattle.wire.specs.Bytes.{onto}
use Rattle.frame.specs.Head.{header_of}
use Rattle.refusal.specs.declared.Refusal.{Refusal}
use Rattle.refusal.specs.declared.Refusal.TheVariants.{ShortBuffer, IllFormed}
use Rattle.refusal.specs.Refusal.{frame_order, next_order}
use Rattle.state.specs.declared.Port.{Port}
use Rattle.formed.specs.Formed.{well_formed}
use Rattle.serve.specs.Next.{next_of, next_buffer}
use Rattle.serve.specs.Refusals.{applies_next, served_order}
use Rattle.serve.specs.Whole.{is_sent}
use Rattle.serve.proofs.Moving.{next_stays, next_untouched}
use Rattle.serve.proofs.Refusals.{next_says}
use Rattle.arrival.specs.Arrival.{short_buffer}
use Rattle.drive.specs.declared.Drive.{Drive}
use Rattle.drive.specs.declared.Answer.{Answer}
use Rattle.drive.specs.Drive.{refused}
use Rattle.drive.specs.Entry.{applies, decided_in, reply_bytes, answered, frame_in, frame_in_buffer, frame_in_window, next_answer, next_frame, next_frame_buffer}
use Rattle.demands.specs.Refusals.{applies_out}

same_refusal : (x y : Refusal) → ◌≡◌ {A = Result ℕ Refusal} (Err x) (Err y) → x ≡ y
same_refusal x y e = cc

not_both : (n : ℕ) (x : Refusal) → ◌≡◌ {A = Result ℕ Refusal} (Err x) (Ok n) → ⊥
not_both n x e = let z : ◌≡◌ {A = ℕ} 0 1 = cc in omega arith

-- a frame in: what is told of it, and drive, buffer and window after it where it is refused
module _ (d : Drive) (f : List ℕ) (start : ℕ) (W l : List ℕ) where
  abbrev applies_in_lem : Refusal → Bool
  applies_in_lem = applies d f start (length W) (length l)

  abbrev reply_long : ℕ
  reply_long = length (reply_bytes d (header_of f) (decided_in d f start (length W)))

  said_first : (frame_in d f start W (length l)).said ≡ first_of applies_in_lem frame_order Err (Ok reply_long)
  unfolding frame_in
  said_first = first_over (λ (a : Answer). a.said) applies_in_lem frame_order (λ x. refused x d) (answered d (header_of f) (decided_in d f start (length W)))

  -- refused: the number is the first that applies, of 1 to 7, 11, 10
  pub frame_first : (x : Refusal) → (frame_in d f start W (length l)).said ≡ Err x → IsFirst applies_in_lem frame_order x
  frame_first x e = then_first applies_in_lem frame_order Err (Ok reply_long) (not_both reply_long) same_refusal x (sym said_first ∙ e)

  -- where one is the first that applies: refused with it, the drive unchanged, and no byte of the buffer and of the window
  pub frame_refuses : (x : Refusal) → IsFirst applies_in_lem frame_order x → (frame_in d f start W (length l) ≡ refused x d) × (frame_in_buffer d f start W l ≡ l) × (frame_in_window d f start W (length l) ≡ W)
  unfolding frame_in frame_in_buffer frame_in_window
  frame_refuses x i = (first_then applies_in_lem frame_order (λ y. refused y d) _ i, first_then applies_in_lem frame_order (λ y. l) _ i, first_then applies_in_lem frame_order (λ y. W) _ i)

  -- where none applies: answered, and the reply stands at the front of the buffer
  pub frame_answers : NoneOf applies_in_lem frame_order → (frame_in d f start W (length l) ≡ answered d (header_of f) (decided_in d f start (length W))) × (frame_in_buffer d f start W l ≡ onto (reply_bytes d (header_of f) (decided_in d f start (length W))) l)
  unfolding frame_in frame_in_buffer
  frame_answers n = (none_then applies_in_lem frame_order (λ y. refused y d) _ n, none_then applies_in_lem frame_order (λ y. l) _ n)

-- a next frame out, in the order 1, 2, 9, 7, 10
module _ (d : Drive) (a x start : ℕ) (W l : List ℕ) where
  abbrev applies_out_lem : Refusal → Bool
  applies_out_lem = applies_out d a x start W l

  abbrev later : ℕ → Result ℕ Refusal
  later n = first_of (applies_next d.port a x start (length W)) served_order Err (Ok n)

  told : (n : ℕ) → (next_of d.unit d.port a x start W).said ≡ later n → (next_frame d a x start W (length l)).said ≡ first_of applies_out_lem next_order Err (Ok n)
  unfolding next_frame
  told n e = by (short_buffer (length l)) (well_formed d.unit d.port)
    where
      by : (s w : Bool) → (cond s (refused ShortBuffer d) (cond (not w) (refused IllFormed d) (next_answer d (next_of d.unit d.port a x start W)))).said
          ≡ cond s (Err ShortBuffer) (cond (not w) (Err IllFormed) (later n))
      by true w = refl
      by false false = refl
      by false true = e

  -- refused: the number is the first that applies, in that order
  pub next_first : (r : Refusal) → (next_frame d a x start W (length l)).said ≡ Err r → IsFirst applies_out_lem next_order r
  next_first r e =
      let s = next_says d.unit d.port a x start W in
      then_first applies_out_lem next_order Err (Ok s.n) (not_both s.n) same_refusal r (sym (told s.n s.is) ∙ e)

  -- where one is the first that applies: refused with it
  pub next_refuses : (r : Refusal) → IsFirst applies_out_lem next_order r → (next_frame d a x start W (length l)).said ≡ Err r
  next_refuses r i = let s = next_says d.unit d.port a x start W in told s.n s.is ∙ first_then applies_out_lem next_order Err (Ok s.n) i

  not_sent : (s : Result ℕ Refusal) (r : Refusal) → s ≡ Err r → is_sent s ≡ false
  not_sent (Ok n) r e = let z : ◌≡◌ {A = ℕ} 0 1 = cc in absurd (omega arith)
  not_sent (Err y) r e = refl

  -- a refusal hands back the drive unchanged, and changes no byte of the buffer
  pub next_unchanged : (r : Refusal) → (next_frame d a x start W (length l)).said ≡ Err r → ((next_frame d a x start W (length l)).drive ≡ d) × (next_frame_buffer d a x start W l ≡ l)
  unfolding next_frame next_frame_buffer
  next_unchanged r = by (short_buffer (length l)) (well_formed d.unit d.port)
    where
      answer : Bool → Bool → Answer
      answer s w = cond s (refused ShortBuffer d) (cond (not w) (refused IllFormed d) (next_answer d (next_of d.unit d.port a x start W)))

      buffer : Bool → Bool → List ℕ
      buffer s w = cond s l (cond (not w) l (next_buffer d.unit d.port a x start W l))

      by : (s w : Bool) → (answer s w).said ≡ Err r → ((answer s w).drive ≡ d) × (buffer s w ≡ l)
      by true w e = (refl, refl)
      by false false e = (refl, refl)
      by false true e =
          let g = not_sent (next_of d.unit d.port a x start W).said r e in
          (ap (λ (q : Port). record { unit = d.unit; port = q }) (next_stays d.unit d.port a x start W g), next_untouched d.unit d.port a x start W l g)
