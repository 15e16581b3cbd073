-- A part of a slice that was lent from a place to the end: what it is, and what the whole is once it is back. Assumes nothing.
use mathlib.Core.Path.{◌≡◌, refl, sym, ap, ◌∙◌}
use mathlib.Core.List.{List, [], ◌∷◌, ◌++◌, append_assoc, append-nil}
use Prim.Native.Nat.{ℕ, zero, suc, ◌+◌, ◌-◌, ◌≤◌}
use native.Mathlib.Numerals.{add-one}
use native.Mathlib.Omega.{arith}
use lib.ListN.{length, take, drop, get_or, replicate, length-drop, drop_of_length-le, length-append}
use Rattle.std.proofs.lemmas.List.{length-replicate, get_or_past}
use lib.Seq.{drop-nil, take-nil, take_all, take_at, drop_at, drop-cons, drop-drop, take-append-le, take-append-add, length-take-le}
use native.Mathlib.Decide.{dec_le}
use borrow.Rule.Slice.PartMut.{mid_of, put_mid}
use Rattle.std.proofs.Common.{Bor, Option, Some, None, unwrap_or, inl, inr, le_of_lt}
use Rattle.std.specs.Slice.{IsGetRangeResult}
use Rattle.wire.specs.Bytes.{part, onto, over, Wrote}
use Rattle.wire.proofs.Fronts.{onto_fits, onto_covers, length_onto, over_past}

-- the part from a to the end
pub rest_is : (a : ℕ) (l : List ℕ) → mid_of a (length l - a) l ≡ drop a l
rest_is a l = take_all (length l - a) (drop a l) (simp length-drop (omega arith))

-- what is taken from a place on, and nothing where the list ends before it
pub rest_of : (s : List ℕ) (a : ℕ) (o : Option (Bor (List ℕ))) (d : Bor (List ℕ)) → d.now ≡ [] → IsGetRangeResult s a (length s) o → (unwrap_or o d).now ≡ drop a s
rest_of s a None d e h = e ∙ sym (drop_of_length-le s (elim h.0 [ inl l ↦ le_of_lt l | inr l ↦ absurd (omega arith) ]))
rest_of s a (Some x) d e h = h.0.2 ∙ rest_is a s

-- what is there of k bytes, over k zeros
pub part_onto : (k : ℕ) (s : List ℕ) (i : ℕ) → part k s i ≡ onto (drop i s) (replicate k 0)
unfolding onto
part_onto k s i = sym (rw (length-replicate {A = ℕ} k 0) (padded k s i))
  where
    padded : (k : ℕ) (s : List ℕ) (i : ℕ) → take k (drop i s) ++ drop (length (drop i s)) (replicate k 0) ≡ part k s i
    padded zero s i = drop-nil (length (drop i s))
    padded (suc k) s i =
        elim (dec_le (i + 1) (length s)) [
          | yes h ↦ (let e : drop i s ≡ get_or s i 0 ∷ drop (i + 1) s = rw add-one (drop-cons s i 0 (omega arith)) in
              ap (λ (l : List ℕ). take (suc k) l ++ drop (length l) (0 ∷ replicate k 0)) e ∙ ap (λ (l : List ℕ). get_or s i 0 ∷ l) (padded k s (i + 1)))
          | no h ↦ (let past : length s ≤ i = omega arith in
              let next : length s ≤ i + 1 = omega arith in
              rw (drop_of_length-le s past, get_or_past s i 0 past) (ap (λ (l : List ℕ). 0 ∷ l) (rw (drop_of_length-le s next, take-nil k) at (padded k s (i + 1)))))
        ]

-- k bytes that are all there
pub part_whole : (k : ℕ) (s : List ℕ) (i : ℕ) → k ≤ length (drop i s) → take k (drop i s) ≡ part k s i
part_whole k s i h =
    let n : length (replicate {A = ℕ} k 0) ≡ k = length-replicate k 0 in
    ap (λ (m : ℕ). take m (drop i s)) (sym n) ∙ sym (onto_covers (drop i s) (replicate k 0) (omega (arith, n))) ∙ sym (part_onto k s i)

pub part_is : (k : ℕ) (s : List ℕ) (i : ℕ) → i + k ≤ length s → part k s i ≡ take k (drop i s)
part_is k s i h = sym (part_whole k s i (simp length-drop (omega arith)))

-- the whole, once that part has come back as ys
pub rest_back : (a : ℕ) (l ys : List ℕ) → put_mid a (length l - a) l ys ≡ take a l ++ ys
rest_back a l ys = rw (drop_of_length-le (drop a l) {i = length l - a} (simp length-drop (omega arith)), append-nil)

-- p over the front of the part from a on is p over the whole from a on
pub over_part : (l l₂ p : List ℕ) (a : ℕ) → l₂ ≡ onto p (mid_of a (length l - a) l) → put_mid a (length l - a) l l₂ ≡ over l a p
unfolding over
over_part l l₂ p a e = rest_back a l l₂ ∙ rw (e, rest_is a l)

-- p, and then q over the front of what p leaves of l
joined : (l p q : List ℕ) (a : ℕ) → length p ≡ a → a ≤ length l → p ++ onto q (drop a l) ≡ onto (p ++ q) l
unfolding onto
joined l p q a lp room =
    let n : length l ≡ length p + (length l - a) = omega arith in
    let t : take (length l) (p ++ q) ≡ p ++ take (length l - a) q = ap (λ (m : ℕ). take m (p ++ q)) n ∙ take-append-add p q (length l - a) in
    rw (t, length-drop a l, drop-drop (length q) a l, length-append p q, lp, append_assoc p)

-- p at the front of l, and then q at the front of the part after p, are p ++ q at the front of l
pub onto_part : (l l₁ l₂ p q : List ℕ) (a : ℕ) → length p ≡ a → a ≤ length l → l₁ ≡ onto p l → l₂ ≡ onto q (mid_of a (length l₁ - a) l₁)
    → put_mid a (length l₁ - a) l₁ l₂ ≡ onto (p ++ q) l
onto_part l l₁ l₂ p q a lp room e₁ e₂ =
    let h : length p ≤ length l = omega arith in
    let f : l₁ ≡ p ++ drop a l = e₁ ∙ onto_fits p l h ∙ rw lp in
    rest_back a l₁ l₂
    ∙ rw (e₂, rest_is a l₁, f, take_at p (drop a l) a lp, drop_at p (drop a l) a lp) (joined l p q a lp room)

-- p at the front of l, and then q from the end of p on, are p ++ q at the front of l, as much of it as fits
pub onto_over : (l l₁ l₂ p q : List ℕ) (a : ℕ) → l₁ ≡ onto p l → l₂ ≡ over l₁ a q → length p ≡ a → l₂ ≡ onto (p ++ q) l
onto_over l l₁ l₂ p q a e₁ e₂ lp =
    e₂
    ∙ elim (dec_le a (length l)) [
      | yes h ↦ sym (over_part l₁ _ q a refl) ∙ onto_part l l₁ _ p q a lp h e₁ refl
      | no h ↦ (let f : length l ≤ length p = omega arith in
          let g : length l ≤ length (p ++ q) = simp length-append (omega arith) in
          over_past l₁ a q (rw (e₁, length_onto p l) (omega arith)) ∙ e₁ ∙ rw (onto_covers p l f, onto_covers (p ++ q) l g, take-append-le (length l) p q f))
    ]

-- two writers, the second lent the part of the k bytes after what the first wrote, are one
pub wrote_then : {l l₁ l₂ p q : List ℕ} {n m a b : ℕ} (k : ℕ) → length l ≡ k → n ≤ k → Wrote p l l₁ n a → Wrote q (mid_of n (k - n) l₁) l₂ m b
    → Wrote (p ++ q) l (put_mid n (k - n) l₁ l₂) (n + m) (a + b)
wrote_then {l} {l₁} {l₂} {p} {q} {n} {m} k len room u v =
    let e : length l₁ ≡ k = ap length u.is ∙ length_onto p l ∙ len in
    let f : l₂ ≡ onto q (mid_of n (length l₁ - n) l₁) = rw e v.is in
    record {
      long = rw (length-append p q, sym u.long, sym v.long);
      fits = let x = u.fits in let y = v.fits in omega arith;
      is = ap (λ (j : ℕ). put_mid n (j - n) l₁ l₂) (sym e) ∙ onto_part l l₁ l₂ p q n (sym u.long) (rw len room) u.is f;
    }

-- a larger bound serves too
pub wrote_within : {p l l₁ : List ℕ} {n a : ℕ} (b : ℕ) → a ≤ b → Wrote p l l₁ n a → Wrote p l l₁ n b
wrote_within b h w = record { long = w.long; fits = let x = w.fits in omega arith; is = w.is }

-- q over l from a on, and then p at the front up to a, are p ++ q at the front of l
pub onto_after : (l p q : List ℕ) (a : ℕ) → length p ≡ a → a ≤ length l → onto p (over l a q) ≡ onto (p ++ q) l
unfolding over
onto_after l p q a lp room =
    let front : length (take a l) ≡ a = length-take-le a l room in
    let long : length p ≤ length (take a l ++ onto q (drop a l)) = simp length-append (omega arith) in
    onto_fits p (take a l ++ onto q (drop a l)) long ∙ rw (lp, drop_at (take a l) (onto q (drop a l)) a front) (joined l p q a lp room)
