-- What std's `all` and `position` over a table give, in the words of this crate. Assumes nothing.
use Rattle.std.specs.Prelude.{Option, Some, None}
use Rattle.std.specs.List.{list_all, FoldsTo}
use Rattle.std.specs.Option.{MatchOption}
use Rattle.std.specs.Fn.{Called}
use Rattle.std.specs.Iterator.{YieldsThen}
use Rattle.std.proofs.lemmas.Iterator.{YieldsList}
use Rattle.std.proofs.lemmas.Iterator.Search.{all_from_yields_List, position_from_yields_List}
use denote.Param.Members.{Mut}
use Prim.Native.Nat.{ℕ}
use mathlib.Core.Path.{◌≡◌, refl, ap, sym, ◌∙◌}
use mathlib.Core.List.{List, [], ◌∷◌}
use mathlib.Core.Bool.{Bool, true, false, ◌&&◌}
use lib.ListN.{length}
use Rattle.tables.specs.Lists.{first, all, Within}
use Rattle.tables.proofs.Searches.{first_is_position, within}

-- `all` is std's `list_all`
pub all_is_list_all : {A : Type 0} (p : A → Bool) (xs : List A) → all p xs ≡ list_all p xs
all_is_list_all p [] = refl
all_is_list_all p (x ∷ xs) = ap (λ b. p x && b) (all_is_list_all p xs)

module _ {S A B F : Type 0} {steps : S → Option A → S → Type 0} {v : A → B} {g : Mut F (A × Unit {0}) Bool} {s : S} {xs : List B} (p : B → Bool) (u : S) {f : F} where
  -- the answer of `all` over a chain whose items are xs, where the closure computes p: the call's clause `ran`, the proof of the chain,
  -- and `λ x b q k. (search (rules, tests), cc)`
  pub all_by_chain : {r : Bool}
      → (ys : List A) × (o : Option A) × (j : F) × YieldsThen steps s ys o u × FoldsTo (λ f x q. Called g f (x, tt) true q) f ys j × MatchOption o (r ≡ true) (λ x. (r ≡ false) × ((h : F) × Called g j (x, tt) false h))
      → YieldsList steps v s xs → ((x : A) (b : Bool) (q : F) → Called g f (x, tt) b q → (q ≡ f) × (b ≡ p (v x))) → r ≡ all p xs
  all_by_chain {r} d e k = all_from_yields_List p u f r d e k ∙ sym (all_is_list_all p xs)

  -- the answer of `position`
  pub first_by_chain : {r : Option ℕ}
      → (ys : List A) × (o : Option A) × (j : F) × YieldsThen steps s ys o u × FoldsTo (λ f x q. Called g f (x, tt) false q) f ys j × MatchOption o (r ≡ None) (λ x. (r ≡ Some (length ys)) × ((h : F) × Called g j (x, tt) true h))
      → YieldsList steps v s xs → ((x : A) (b : Bool) (q : F) → Called g f (x, tt) b q → (q ≡ f) × (b ≡ p (v x))) → r ≡ first p xs
  first_by_chain {r} d e k = position_from_yields_List p u f r d e k ∙ sym (first_is_position p xs)

  -- and that the place is one of the n of the table; z is any element
  pub within_by_chain : (z : B) (n : ℕ) {r : Option ℕ}
      → length xs ≡ n → (ys : List A) × (o : Option A) × (j : F) × YieldsThen steps s ys o u × FoldsTo (λ f x q. Called g f (x, tt) false q) f ys j × MatchOption o (r ≡ None) (λ x. (r ≡ Some (length ys)) × ((h : F) × Called g j (x, tt) true h))
      → YieldsList steps v s xs → ((x : A) (b : Bool) (q : F) → Called g f (x, tt) b q → (q ≡ f) × (b ≡ p (v x))) → Within (first p xs) n r
  within_by_chain z n {r} l d e k = within z p xs n l (first_by_chain d e k)
