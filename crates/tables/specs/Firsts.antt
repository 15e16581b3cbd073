-- The first of a list of tests that finds something (document 01: "Tests in word order", refusals "in order"). The order is the list's.
use Rattle.std.specs.Prelude.{◌≡◌, Bool, true, false, cond, List, [], ◌∷◌, ◌++◌}

-- f of the first element of which p is true, else b
abbrev pub first_of : {A B : Type 0} → (A → Bool) → List A → (A → B) → B → B
first_of p [] f b = b
first_of p (x ∷ xs) f b = cond (p x) (f x) (first_of p xs f b)

-- p is true of none of them
abbrev pub NoneOf : {A : Type 0} → (A → Bool) → List A → Type 0
NoneOf p [] = Unit {0}
NoneOf p (x ∷ xs) = (p x ≡ false) × NoneOf p xs

-- p is true of x, which stands in the list, and of none before it
pub record IsFirst {A : Type 0} (p : A → Bool) (xs : List A) (x : A) : Type 0 where
  pub before : List A
  pub after : List A
  pub is : xs ≡ before ++ (x ∷ after)
  pub this : p x ≡ true
  pub none : NoneOf p before
