-- What `==` says of two names. Assumes nothing.
use mathlib.Core.Path.{◌≡◌, refl, ap}
use mathlib.Core.Bool.{◌&&◌}
use mathlib.Core.List.{List, [], ◌∷◌}
use Prim.Native.Nat.{ℕ}
use lib.Dec.{eqb}
use lib.Pointwise.{pointwise}
use Rattle.tables.specs.Lists.{same}

pub same_names : (a b : List ℕ) → pointwise eqb a b ≡ same a b
same_names [] [] = refl
same_names [] (y ∷ b) = refl
same_names (x ∷ a) [] = refl
same_names (x ∷ a) (y ∷ b) = ap (λ r. eqb x y && r) (same_names a b)
