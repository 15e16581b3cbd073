-- What a change at one place, or at every place, of a list keeps of a test. Any element type. Assumes nothing.
use Prim.Native.Nat.{ℕ, zero, suc, ◌<◌}
use mathlib.Core.Path.{◌≡◌, refl}
use mathlib.Core.List.{List, [], ◌∷◌, map}
use mathlib.Core.Bool.{Bool, true}
use native.Mathlib.Omega.{arith}
use lib.ListN.{length, get_or, set}
use Rattle.tables.specs.Lists.{all, pairs}
use Rattle.tables.proofs.Bools.{and_left, and_right, and_both}

module _ {A : Type 0} where
  -- a test that always passes
  pub all_always : (p : A → Bool) → ((x : A) → p x ≡ true) → (xs : List A) → all p xs ≡ true
  all_always p h [] = refl
  all_always p h (x ∷ xs) = and_both (h x) (all_always p h xs)

  -- from one test to another, and from each element x to f x
  pub all_map : (p q : A → Bool) (f : A → A) → ((x : A) → p x ≡ true → q (f x) ≡ true) → (xs : List A) → all p xs ≡ true → all q (map f xs) ≡ true
  all_map p q f h [] e = refl
  all_map p q f h (x ∷ xs) e = and_both (h x (and_left (p x) (all p xs) e)) (all_map p q f h xs (and_right (p x) (all p xs) e))

  pub all_than : (p q : A → Bool) → ((x : A) → p x ≡ true → q x ≡ true) → (xs : List A) → all p xs ≡ true → all q xs ≡ true
  all_than p q h [] e = refl
  all_than p q h (x ∷ xs) e = and_both (h x (and_left (p x) (all p xs) e)) (all_than p q h xs (and_right (p x) (all p xs) e))

  -- a test that passes at each place
  pub all_places : (p : A → Bool) (z : A) (xs : List A) → ((j : ℕ) → j < length xs → p (get_or xs j z) ≡ true) → all p xs ≡ true
  all_places p z [] h = refl
  all_places p z (x ∷ xs) h = and_both (h 0 (omega arith)) (all_places p z xs (λ j l. h (suc j) (omega arith)))

  -- an element of a list that passes the test
  pub all_at : (p : A → Bool) (z : A) (xs : List A) (i : ℕ) → i < length xs → all p xs ≡ true → p (get_or xs i z) ≡ true
  all_at p z [] i h e = absurd (omega arith)
  all_at p z (x ∷ xs) zero h e = and_left (p x) (all p xs) e
  all_at p z (x ∷ xs) (suc i) h e = all_at p z xs i (omega arith) (and_right (p x) (all p xs) e)

  -- a change at one place that keeps what the test says of that place
  pub all_update : (p : A → Bool) (z : A) (xs : List A) (i : ℕ) (x : A) → (p (get_or xs i z) ≡ true → p x ≡ true) → all p xs ≡ true → all p (set xs i x) ≡ true
  all_update p z [] i x h e = refl
  all_update p z (y ∷ ys) zero x h e = and_both (h (and_left (p y) (all p ys) e)) (and_right (p y) (all p ys) e)
  all_update p z (y ∷ ys) (suc i) x h e = and_both (and_left (p y) (all p ys) e) (all_update p z ys i x h (and_right (p y) (all p ys) e))

  -- an element that passes, at any place
  pub all_set : (p : A → Bool) (xs : List A) (i : ℕ) (x : A) → p x ≡ true → all p xs ≡ true → all p (set xs i x) ≡ true
  all_set p xs i x h e = all_update p x xs i x (λ _. h) e

  pub pairs_map : (r : A → A → Bool) (f : A → A) → ((x y : A) → r x y ≡ true → r (f x) (f y) ≡ true) → (xs : List A) → pairs r xs ≡ true → pairs r (map f xs) ≡ true
  pairs_map r f h [] e = refl
  pairs_map r f h (x ∷ xs) e =
      and_both (all_map (r x) (r (f x)) f (h x) xs (and_left (all (r x) xs) (pairs r xs) e)) (pairs_map r f h xs (and_right (all (r x) xs) (pairs r xs) e))

  -- an element that is apart from every element, at any place
  pub pairs_set : (r : A → A → Bool) (xs : List A) (i : ℕ) (x : A) → all (r x) xs ≡ true → all (λ y. r y x) xs ≡ true → pairs r xs ≡ true → pairs r (set xs i x) ≡ true
  pairs_set r [] i x a b e = refl
  pairs_set r (y ∷ ys) zero x a b e = and_both (and_right (r x y) (all (r x) ys) a) (and_right (all (r y) ys) (pairs r ys) e)
  pairs_set r (y ∷ ys) (suc i) x a b e =
      and_both (all_set (r y) ys i x (and_left (r y x) (all (λ y'. r y' x) ys) b) (and_left (all (r y) ys) (pairs r ys) e))
      (pairs_set r ys i x (and_right (r x y) (all (r x) ys) a) (and_right (r y x) (all (λ y'. r y' x) ys) b) (and_right (all (r y) ys) (pairs r ys) e))

  -- a change at one place to what is apart from all that the old element is apart from
  pub pairs_update : (r : A → A → Bool) (z : A) (xs : List A) (i : ℕ) (x : A) → ((y : A) → r (get_or xs i z) y ≡ true → r x y ≡ true)
      → ((y : A) → r y (get_or xs i z) ≡ true → r y x ≡ true) → pairs r xs ≡ true → pairs r (set xs i x) ≡ true
  pairs_update r z [] i x a b e = refl
  pairs_update r z (y ∷ ys) zero x a b e = and_both (all_than (r y) (r x) a ys (and_left (all (r y) ys) (pairs r ys) e)) (and_right (all (r y) ys) (pairs r ys) e)
  pairs_update r z (y ∷ ys) (suc i) x a b e =
      and_both (all_update (r y) z ys i x (b y) (and_left (all (r y) ys) (pairs r ys) e)) (pairs_update r z ys i x a b (and_right (all (r y) ys) (pairs r ys) e))

  -- what `get_or` gives inside the list does not depend on the default
  pub get_d_inside : (xs : List A) (i : ℕ) (a b : A) → i < length xs → get_or xs i a ≡ get_or xs i b
  get_d_inside [] i a b h = absurd (omega arith)
  get_d_inside (x ∷ xs) zero a b h = refl
  get_d_inside (x ∷ xs) (suc i) a b h = get_d_inside xs i a b (omega arith)
