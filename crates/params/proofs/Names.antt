-- What `==` says of a name and eight zeros, and that a name that is not zero has a number that is not 0. Assumes nothing.
use mathlib.Core.Path.{◌≡◌, refl, sym, ap, ◌∙◌}
use mathlib.Core.Bool.{false, ◌&&◌}
use mathlib.Core.List.{List, [], ◌∷◌}
use Prim.Native.Nat.{ℕ}
use lib.Dec.{eqb}
use lib.ListN.{length, replicate}
use lib.Pointwise.{pointwise}
use borrow.Author.Tests.{eq-eqb, ne_eqb}
use Rattle.tables.proofs.Bools.{apart}
use Rattle.tables.proofs.Keeping.{all_places}
use Rattle.wire.specs.Bytes.{name_of}
use Rattle.wire.proofs.Digits.{name_zero}
use Rattle.params.specs.Words.{zero_name}

pub name_number : (name : List ℕ) → zero_name name ≡ false → eqb (name_of name) 0 ≡ false
unfolding zero_name
name_number name h = ne_eqb (name_of name) 0 (λ z. apart (all_places (λ (b : ℕ). eqb b 0) 0 name (λ j l. eq-eqb _ 0 (name_zero name z j l))) h)

-- `==` of a list and as many zeros
eq_zeros : (xs : List ℕ) → pointwise eqb xs (replicate (length xs) 0) ≡ zero_name xs
unfolding zero_name
eq_zeros [] = refl
eq_zeros (x ∷ xs) = ap (λ r. eqb x 0 && r) (eq_zeros xs)

pub zeros : (name : List ℕ) → length name ≡ 8 → pointwise eqb name (0 ∷ 0 ∷ 0 ∷ 0 ∷ 0 ∷ 0 ∷ 0 ∷ 0 ∷ []) ≡ zero_name name
zeros name e = ap (λ n. pointwise eqb name (replicate n 0)) (sym e) ∙ eq_zeros name
