-- What a chain's `all` answers is the test of each element. Assumes nothing.
use mathlib.Core.Path.{◌≡◌, refl}
use mathlib.Core.Bool.{Bool}
use mathlib.Core.List.{List, [], ◌∷◌}
use Rattle.std.specs.List.{list_all}
use Rattle.tables.specs.Lists.{all}

pub all_listed : {A : Type 0} (p : A → Bool) (xs : List A) → list_all p xs ≡ all p xs
all_listed p [] = refl
all_listed p (x ∷ xs) = rw (all_listed p xs) refl
