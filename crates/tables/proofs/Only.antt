-- Where one element alone passes, it is the one that a search finds. Assumes nothing.
use Rattle.std.specs.Prelude.{Some}
use Prim.Native.Nat.{ℕ, zero, suc, ◌+◌, ◌<◌}
use mathlib.Core.Path.{◌≡◌, refl, ap, ◌∙◌}
use mathlib.Core.List.{List, [], ◌∷◌}
use mathlib.Core.Bool.{Bool, true, false, cond}
use native.Mathlib.Omega.{arith}
use lib.ListN.{length, get_or}
use Rattle.tables.specs.Lists.{first_from, first, all, pairs}
use Rattle.tables.proofs.Bools.{and_left, and_right, apart}
use Rattle.tables.proofs.Keeping.{all_at}

-- an element that passes, in a list of which no two do, is the one that is found
module _ {A : Type 0} (z : A) (p : A → Bool) (r : A → A → Bool) (none : p z ≡ false) (two : (y w : A) → r y w ≡ true → p y ≡ true → (b : Bool) → p w ≡ b → b ≡ false) where
  pub inside : (xs : List A) (i : ℕ) → p (get_or xs i z) ≡ true → i < length xs
  inside [] i h = apart h none
  inside (x ∷ xs) zero h = omega arith
  inside (x ∷ xs) (suc i) h = let l = inside xs i h in omega arith

  only_step : (x : A) (xs : List A) (i k : ℕ) (b : Bool) → p x ≡ b → all (r x) xs ≡ true → p (get_or xs i z) ≡ true → first_from p (suc k) xs ≡ Some (suc k + i) → cond b (Some k) (first_from p (suc k) xs) ≡ Some (k + suc i)
  only_step x xs i k true e d h rest = apart h (two x (get_or xs i z) (all_at (r x) z xs i (inside xs i h) d) e (p (get_or xs i z)) refl)
  only_step x xs i k false e d h rest = rest ∙ ap Some (omega arith)

  only_from : (xs : List A) (i k : ℕ) → pairs r xs ≡ true → p (get_or xs i z) ≡ true → first_from p k xs ≡ Some (k + i)
  only_from [] i k d h = apart h none
  only_from (x ∷ xs) zero k d h = rw h (ap Some (omega arith))
  only_from (x ∷ xs) (suc i) k d h =
      only_step x xs i k (p x) refl (and_left (all (r x) xs) (pairs r xs) d) h (only_from xs i (suc k) (and_right (all (r x) xs) (pairs r xs) d) h)

  pub only_found : (xs : List A) (i : ℕ) → pairs r xs ≡ true → p (get_or xs i z) ≡ true → first p xs ≡ Some i
  only_found xs i d h = only_from xs i 0 d h ∙ ap Some (omega arith)
