-- Laws of `onto` and `over`. Assumes nothing.
use mathlib.Core.Path.{◌≡◌, ◌∙◌}
use mathlib.Core.List.{List, [], ◌++◌, append-nil}
use Prim.Native.Nat.{ℕ, ◌≤◌, min}
use native.Mathlib.Omega.{arith}
use native.Mathlib.Decide.{dec_le}
use lib.ListN.{length, take, drop, length-append, length-take, length-drop, drop_of_length-le}
use lib.Seq.{take_all, take-nil, drop-nil}
use Rattle.wire.specs.Bytes.{onto, over}

-- where p fits, all of it stands at the front
pub onto_fits : (p l : List ℕ) → length p ≤ length l → onto p l ≡ p ++ drop (length p) l
unfolding onto
onto_fits p l h = rw (take_all (length l) p h)

-- where l is the shorter, as much of p as it holds stands there
pub onto_covers : (p l : List ℕ) → length l ≤ length p → onto p l ≡ take (length l) p
unfolding onto
onto_covers p l h = rw (drop_of_length-le l h, append-nil)

-- a list laid over one of its length covers it
pub onto_whole : (p l : List ℕ) → length p ≡ length l → onto p l ≡ p
onto_whole p l e =
    let f : length p ≤ length l = omega arith in
    let g : length l ≤ length p = omega arith in
    onto_covers p l g ∙ take_all (length l) p f

-- nothing laid over a list leaves it
pub onto_nil : (l : List ℕ) → onto [] l ≡ l
unfolding onto
onto_nil l = rw (take-nil (length l))

pub length_onto : (p l : List ℕ) → length (onto p l) ≡ length l
unfolding onto
length_onto p l = simp (length-append, length-take, length-drop) (omega arith)

-- past the end nothing is written
pub over_past : (l : List ℕ) (i : ℕ) (p : List ℕ) → length l ≤ i → over l i p ≡ l
unfolding over onto
over_past l i p h = rw (take_all i l h, drop_of_length-le l h, drop-nil (length p), append-nil)

-- as many elements copied as the shorter list has are the whole of it
pub front_all : (s d : List ℕ) (n : ℕ) → n ≡ min (length s) (length d) → take n s ++ drop n d ≡ onto s d
unfolding onto
front_all s d n e =
    elim (dec_le (length s) (length d)) [
      | yes h ↦ (let a : length s ≤ n = omega arith in
          let b : n ≡ length s = omega arith in
          rw (take_all n s a, take_all (length d) s h, b))
      | no h ↦ (let b : n ≡ length d = omega arith in
          let c : length d ≤ length s = omega arith in
          let f : length d ≤ n = omega arith in
          rw (drop_of_length-le d f, drop_of_length-le d c, b))
    ]
