-- A text put at the end of what a text of N bytes holds: its bytes are as much of both as fits, and zeros follow them. Assumes nothing.
use mathlib.Core.Path.{◌≡◌, sym, ap, ◌∙◌}
use mathlib.Core.List.{List, [], ◌++◌}
use Prim.Native.Nat.{ℕ, ◌+◌, ◌-◌, ◌≤◌, min}
use native.Mathlib.Omega.{arith}
use native.Mathlib.Decide.{dec_le}
use lib.ListN.{length, take, drop, replicate, length-append}
use lib.Seq.{take_all, take_at, take-append-add, length-take-le}
use Rattle.std.proofs.lemmas.List.{length-replicate, take_min}
use Rattle.wire.specs.Bytes.{onto, over}
use Rattle.wire.proofs.Fronts.{onto_fits, length_onto}
use Rattle.wire.proofs.Parts.{onto_over}

-- a bytes stand at the front of b, and n bytes of q, as many as fit, are put after them
module _ (N a n : ℕ) (q b b₁ : List ℕ) (h : (a ≤ length b) × (onto (take a b) (replicate N 0) ≡ b)) (e : n ≡ min (length q) (N - a)) (w : b₁ ≡ over b a (take n q)) where
  abbrev zeros : List ℕ
  zeros = replicate N 0

  room : length zeros ≡ N
  room = length-replicate N 0

  has : length (take a b) ≡ a
  has = length-take-le a b h.0

  held : a ≤ N
  held = let l : length b ≡ N = sym (ap length h.1) ∙ length_onto (take a b) zeros ∙ room in let f = h.0 in omega (arith, l, f)

  fits : a + n ≤ N
  fits = let f = held in omega (arith, e, f)

  long : length (take a b ++ take n q) ≡ a + n
  long =
      let n₁ = length-take-le n q (omega (arith, e)) in
      let a₁ = has in
      length-append (take a b) (take n q) ∙ omega (arith, n₁, a₁)

  after : b₁ ≡ onto (take a b ++ take n q) zeros
  after = onto_over zeros b b₁ (take a b) (take n q) a (sym h.1) w has

  front : take (a + n) b₁ ≡ take a b ++ take n q
  front =
      let both = take a b ++ take n q in
      let there : length both ≤ length zeros = let l = long in let r = room in let f = fits in omega (arith, l, r, f) in
      ap (take (a + n)) (after ∙ onto_fits both zeros there) ∙ take_at both (drop (length both) zeros) (a + n) long

  -- the bytes after it are those of a text
  pub put_within : a + n ≤ length b₁
  put_within = let l : length b₁ ≡ N = ap length after ∙ length_onto (take a b ++ take n q) zeros ∙ room in let f = fits in omega (arith, l, f)

  pub put_zeros : onto (take (a + n) b₁) (replicate N 0) ≡ b₁
  put_zeros = ap (λ t. onto t zeros) front ∙ sym after

  -- it holds what it held and what was put, as much of both as fits
  pub put_items : {old : List ℕ} → take a b ≡ old → take (a + n) b₁ ≡ take N (old ++ q)
  put_items {old} v =
      let f = held in
      let a₁ = has in
      let split : N ≡ length (take a b) + (N - a) = omega (arith, a₁, f) in
      let most : take n q ≡ take (N - a) q =
      elim (dec_le (length q) (N - a)) [
        | yes l ↦ take_all n q (omega (arith, e, l)) ∙ sym (take_all (N - a) q l)
        | no l ↦ (let m : n ≡ N - a = omega (arith, e, l) in ap (λ m. take m q) m)
      ] in
      front ∙ ap (λ t. take a b ++ t) most ∙ sym (take-append-add (take a b) q (N - a)) ∙ ap (λ m. take m (take a b ++ q)) (sym split) ∙ ap (λ t. take N (t ++ q)) v

  pub put_whole : {old : List ℕ} → take a b ≡ old → length old + length q ≤ N → take (a + n) b₁ ≡ old ++ q
  put_whole {old} v l = put_items v ∙ take_all N (old ++ q) (rw (length-append old q) l)

-- k elements at the most of a list, and then a word, put at the end of a text that is empty and has room for both
pub put_two : (N k n : ℕ) (name word : List ℕ) {o o₁ o₂ : List ℕ} → o ≡ [] → n ≡ min k (length name) → (length o + length (take n name) ≤ N → o₁ ≡ o ++ take n name) → (length o₁ + length word ≤ N → o₂ ≡ o₁ ++ word)
    → k + length word ≤ N → o₂ ≡ take k name ++ word
put_two N k n name word z e f g fits =
    let l : length (take n name) ≡ n = length-take-le n name (omega (arith, e)) in
    let p = f (rw z (omega (arith, l, e, fits))) ∙ ap (λ x. x ++ take n name) z in
    let short : length (take n name) + length word ≤ N = omega (arith, l, e, fits) in
    g (rw p short) ∙ ap (λ x. x ++ word) (p ∙ ap (λ m. take m name) e ∙ take_min k name)
