-- A window that was cut from the unit and is put back: what the unit is then. Assumes nothing.
use mathlib.Core.Path.{◌≡◌, refl, sym, ap, ◌∙◌}
use mathlib.Core.List.{List, [], ◌∷◌, ◌++◌}
use Prim.Native.Nat.{ℕ, zero, suc, ◌+◌, ◌≤◌, ◌<◌}
use native.Mathlib.Omega.{arith}
use lib.ListN.{length, take, drop, get_or, length-append, length-take, length-drop}
use lib.Seq.{take_at, take-append-add, length-take-le}
use Rattle.wire.specs.Bytes.{onto, over}
use Rattle.wire.proofs.Fronts.{onto_fits, onto_nil, length_onto}

-- lists laid over others, element by element
over_cons : (y : ℕ) (l : List ℕ) (i : ℕ) (p : List ℕ) → over (y ∷ l) (suc i) p ≡ y ∷ over l i p
unfolding over
over_cons y l i p = refl

over_zero : (l p : List ℕ) → over l 0 p ≡ onto p l
unfolding over
over_zero l p = refl

over_none : (i : ℕ) (p : List ℕ) → over [] i p ≡ []
unfolding over onto
over_none zero [] = refl
over_none zero (x ∷ p) = refl
over_none (suc i) [] = refl
over_none (suc i) (x ∷ p) = refl

onto_cons : (x y : ℕ) (p l : List ℕ) → onto (x ∷ p) (y ∷ l) ≡ x ∷ onto p l
unfolding onto
onto_cons x y p l = refl

onto_none : (p : List ℕ) → onto p [] ≡ []
unfolding onto
onto_none [] = refl
onto_none (x ∷ p) = refl

-- a list laid over another leaves its length
pub length_over : (l : List ℕ) (i : ℕ) (p : List ℕ) → length (over l i p) ≡ length l
unfolding over
length_over l i p =
    let a = length-append (take i l) (onto p (drop i l)) in
    let b = length_onto p (drop i l) in
    let c = length-take i l in
    let d = length-drop i l in
    omega arith

-- what stands past it, and before it
onto_past : (p l : List ℕ) (b : ℕ) → length p ≤ b → get_or (onto p l) b 0 ≡ get_or l b 0
onto_past [] l b h = rw (onto_nil l)
onto_past (x ∷ p) [] b h = rw (onto_none (x ∷ p))
onto_past (x ∷ p) (y ∷ l) zero h = absurd (omega arith)
onto_past (x ∷ p) (y ∷ l) (suc b) h = rw (onto_cons x y p l) (onto_past p l b (omega arith))

pub over_past : (l : List ℕ) (i : ℕ) (p : List ℕ) (b : ℕ) → i + length p ≤ b → get_or (over l i p) b 0 ≡ get_or l b 0
over_past l zero p b h = rw (over_zero l p) (onto_past p l b (omega arith))
over_past [] (suc i) p b h = rw (over_none (suc i) p)
over_past (y ∷ l) (suc i) p zero h = absurd (omega arith)
over_past (y ∷ l) (suc i) p (suc b) h = rw (over_cons y l i p) (over_past l i p b (omega arith))

pub over_before : (l : List ℕ) (i : ℕ) (p : List ℕ) (b : ℕ) → b < i → get_or (over l i p) b 0 ≡ get_or l b 0
over_before l zero p b h = absurd (omega arith)
over_before [] (suc i) p b h = rw (over_none (suc i) p)
over_before (y ∷ l) (suc i) p zero h = rw (over_cons y l i p)
over_before (y ∷ l) (suc i) p (suc b) h = rw (over_cons y l i p) (over_before l i p b (omega arith))

-- a front of a list laid over it
onto_front : (len : ℕ) (l : List ℕ) → onto (take len l) l ≡ l
onto_front zero l = onto_nil l
onto_front (suc len) [] = onto_none (take (suc len) [])
onto_front (suc len) (y ∷ l) = rw (onto_cons y y (take len l) l) (ap {B = List ℕ} (λ r. y ∷ r) (onto_front len l))

-- a window that was not changed leaves the unit when it is put back
pub back_same : (l : List ℕ) (i len : ℕ) → over l i (take len (drop i l)) ≡ l
back_same l zero len = rw (over_zero l (take len l)) (onto_front len l)
back_same [] (suc i) len = over_none (suc i) (take len (drop (suc i) []))
back_same (y ∷ l) (suc i) len = rw (over_cons y l i (take len (drop i l))) (ap {B = List ℕ} (λ r. y ∷ r) (back_same l i len))

-- a front that was changed, laid over it
onto_twice : (len : ℕ) (p l : List ℕ) → length p ≤ length (take len l) → onto (onto p (take len l)) l ≡ onto p l
onto_twice len [] l h = rw (onto_nil (take len l), onto_nil l) (onto_front len l)
onto_twice zero (x ∷ p) l h = absurd (omega arith)
onto_twice (suc len) (x ∷ p) [] h = absurd (omega arith)
onto_twice (suc len) (x ∷ p) (y ∷ l) h = rw (onto_cons x y p (take len l), onto_cons x y (onto p (take len l)) l, onto_cons x y p l) (ap {B = List ℕ} (λ r. x ∷ r) (onto_twice len p l (omega arith)))

onto_over : (len k : ℕ) (p l : List ℕ) → k + length p ≤ length (take len l) → onto (over (take len l) k p) l ≡ over l k p
onto_over len zero p l h = rw (over_zero (take len l) p, over_zero l p) (onto_twice len p l (omega arith))
onto_over zero (suc k) p l h = absurd (omega arith)
onto_over (suc len) (suc k) p [] h = absurd (omega arith)
onto_over (suc len) (suc k) p (y ∷ l) h = rw (over_cons y (take len l) k p, onto_cons y y (over (take len l) k p) l, over_cons y l k p) (ap {B = List ℕ} (λ r. y ∷ r) (onto_over len k p l (omega arith)))

-- a window with p laid over it from k on, put back, is p laid over the unit, where all of p is in the window
pub back_over : (l : List ℕ) (i len k : ℕ) (p : List ℕ) → k + length p ≤ length (take len (drop i l)) → over l i (over (take len (drop i l)) k p) ≡ over l (i + k) p
back_over l zero len k p h = rw (over_zero l (over (take len l) k p)) (onto_over len k p l h ∙ ap (λ (m : ℕ). over l m p) (omega arith))
back_over [] (suc i) len k p h = over_none (suc i) (over (take len (drop (suc i) [])) k p) ∙ sym (over_none (suc i + k) p)
back_over (y ∷ l) (suc i) len k p h =
    let s : suc i + k ≡ suc (i + k) = omega arith in
    over_cons y l i (over (take len (drop i l)) k p) ∙ ap {B = List ℕ} (λ r. y ∷ r) (back_over l i len k p h) ∙ sym (over_cons y l (i + k) p) ∙ ap (λ (m : ℕ). over (y ∷ l) m p) (sym s)

drop_over : (l : List ℕ) (from m : ℕ) (p : List ℕ) → drop from (over l (from + m) p) ≡ over (drop from l) m p
drop_over l zero m p = ap (λ (k : ℕ). over l k p) (omega arith)
drop_over [] (suc from) m p = ap (drop (suc from)) (over_none (suc from + m) p) ∙ sym (over_none m p)
drop_over (y ∷ l) (suc from) m p =
    let s : suc from + m ≡ suc (from + m) = omega arith in
    ap (λ (k : ℕ). drop (suc from) (over (y ∷ l) k p)) s ∙ ap (drop (suc from)) (over_cons y l (from + m) p) ∙ drop_over l from m p

take_over : (l : List ℕ) (m n : ℕ) (p : List ℕ) → length p ≡ n → m + n ≤ length l → take (m + n) (over l m p) ≡ take m l ++ p
unfolding over
take_over l m n p long inside =
    let front : length (take m l) ≡ m = length-take-le m l (omega arith) in
    let fits : length p ≤ length (drop m l) = let d = length-drop m l in omega arith in
    ap (λ (k : ℕ). take (k + n) (take m l ++ onto p (drop m l))) (sym front)
    ∙ take-append-add (take m l) (onto p (drop m l)) n
    ∙ ap (λ (r : List ℕ). take m l ++ take n r) (onto_fits p (drop m l) fits)
    ∙ ap (λ (r : List ℕ). take m l ++ r) (take_at p (drop (length p) (drop m l)) n long)

-- n bytes p laid over the unit after the first m from a byte on: the m + n from it on are those m and then p
pub stored_next : (l : List ℕ) (from m n : ℕ) (p : List ℕ) → length p ≡ n → from + m + n ≤ length l → take (m + n) (drop from (over l (from + m) p)) ≡ take m (drop from l) ++ p
stored_next l from m n p long inside =
    ap (take (m + n)) (drop_over l from m p) ∙ take_over (drop from l) m n p long (let d = length-drop from l in omega arith)
