-- `first_of` gives f x exactly when x is the first of which p is true, and b exactly when p is true of none; once for every test and list.
-- Assumes nothing.
use mathlib.Core.Path.{◌≡◌, refl, sym, ap, ◌∙◌, subst}
use mathlib.Core.Bool.{Bool, true, false, cond}
use mathlib.Core.List.{List, [], ◌∷◌, ◌++◌}
use Rattle.tables.specs.Firsts.{first_of, NoneOf, IsFirst}

-- a test that is true of nothing
pub none_always : {A : Type 0} (p : A → Bool) → ((x : A) → p x ≡ false) → (xs : List A) → NoneOf p xs
none_always p h [] = tt
none_always p h (x ∷ xs) = (h x, none_always p h xs)

-- what an answer y says of the list
pub data FirstSays {A B : Type 0} (p : A → Bool) (xs : List A) (f : A → B) (b y : B) : Type 0 where
  at_first : (x : A) → IsFirst p xs x → y ≡ f x → FirstSays p xs f b y
  at_none : NoneOf p xs → y ≡ b → FirstSays p xs f b y

module _ {A B : Type 0} (p : A → Bool) (f : A → B) (b : B) where
  past : (before after : List A) (x : A) → p x ≡ true → NoneOf p before → first_of p (before ++ (x ∷ after)) f b ≡ f x
  past [] after x t n = rw t
  past (y ∷ ys) after x t n = rw n.0 (past ys after x t n.1)

  none_step : (xs : List A) → NoneOf p xs → first_of p xs f b ≡ b
  none_step [] n = refl
  none_step (x ∷ xs) n = rw n.0 (none_step xs n.1)

  says_step : (x : A) (xs : List A) (t : Bool) → p x ≡ t → FirstSays p xs f b (first_of p xs f b) → FirstSays p (x ∷ xs) f b (cond t (f x) (first_of p xs f b))
  says_step x xs true e r = at_first x (record { before = []; after = xs; is = refl; this = e; none = tt }) refl
  says_step x xs false e (at_first y i q) =
      at_first y (record { before = x ∷ i.before; after = i.after; is = ap (λ l. x ∷ l) i.is; this = i.this; none = (e, i.none) }) q
  says_step x xs false e (at_none n q) = at_none (e, n) q

  says : (xs : List A) → FirstSays p xs f b (first_of p xs f b)
  says [] = at_none tt refl
  says (x ∷ xs) = says_step x xs (p x) refl (says xs)

module _ {A B : Type 0} (p : A → Bool) (xs : List A) (f : A → B) (b : B) where
  -- x is the first: f x
  pub first_then : {x : A} → IsFirst p xs x → first_of p xs f b ≡ f x
  first_then {x} i = ap (λ (l : List A). first_of p l f b) i.is ∙ past p f b i.before i.after x i.this i.none

  -- there is none: b
  pub none_then : NoneOf p xs → first_of p xs f b ≡ b
  none_then n = none_step p f b xs n

  -- an answer is f of the first, or there is none and it is b
  pub first_says : {y : B} → first_of p xs f b ≡ y → FirstSays p xs f b y
  first_says e = subst (FirstSays p xs f b) e (says p f b xs)

  -- where no f x is b
  module _ (other : (x : A) → f x ≡ b → ⊥) where
    -- b: there is none
    pub then_none : first_of p xs f b ≡ b → NoneOf p xs
    then_none e = by (first_says e)
      where
        by : FirstSays p xs f b b → NoneOf p xs
        by (at_first x i q) = absurd (other x (sym q))
        by (at_none n q) = n

    -- f x, and f tells any two apart: x is the first
    pub then_first : ((x y : A) → f x ≡ f y → x ≡ y) → (x : A) → first_of p xs f b ≡ f x → IsFirst p xs x
    then_first same x e = by (first_says e)
      where
        by : FirstSays p xs f b (f x) → IsFirst p xs x
        by (at_first y i q) = subst (IsFirst p xs) (sym (same x y q)) i
        by (at_none n q) = absurd (other x q)

-- what is made of the answer is made of each
pub first_over : {A B C : Type 0} (k : B → C) (p : A → Bool) (xs : List A) (f : A → B) (b : B) → k (first_of p xs f b) ≡ first_of p xs (λ x. k (f x)) (k b)
first_over k p [] f b = refl
first_over {A} {B} {C} k p (x ∷ xs) f b = step (p x) (first_over k p xs f b)
  where
    step : (t : Bool) {y : B} {z : C} → k y ≡ z → k (cond t (f x) y) ≡ cond t (k (f x)) z
    step true e = refl
    step false e = e
