-- Big-endian numbers as bytes, bytes laid over a list, and the fill.
use Rattle.std.specs.Prelude.{ℕ, zero, suc, ◌+◌, ◌-◌, ◌*◌, ◌/◌, ◌%◌, ◌≤◌, ◌≡◌, List, [], ◌∷◌, ◌++◌, get_or, take, drop, length, replicate}

-- "Numbers are big-endian": the k bytes of n, the most significant first
abbrev pub bytes : ℕ → ℕ → List ℕ
bytes zero n = []
bytes (suc k) n = bytes k (n / 256) ++ (n % 256 ∷ [])

-- the number a, followed by the k bytes of s from place i
abbrev pub more : ℕ → ℕ → List ℕ → ℕ → ℕ
more a zero s i = a
more a (suc k) s i = more (a * 256 + get_or s i 0) k s (i + 1)

-- the number that the k bytes of s from place i are, where a byte past the end is 0
abbrev pub num : ℕ → List ℕ → ℕ → ℕ
num zero s i = 0
num (suc k) s i = more (get_or s i 0) k s (i + 1)

-- the k bytes of s from place i, 0 past the end
abbrev pub part : ℕ → List ℕ → ℕ → List ℕ
part zero s i = []
part (suc k) s i = get_or s i 0 ∷ part k s (i + 1)

-- the number that a name's bytes are, all of them
unfoldable pub name_of : List ℕ → ℕ
name_of name = num (length name) name 0

-- l with p over its front; what does not fit is left out, so the length stays
unfoldable pub onto : List ℕ → List ℕ → List ℕ
onto p l = take (length l) p ++ drop (length p) l

-- l with p over it from place i on; what does not fit is left out
unfoldable pub over : List ℕ → ℕ → List ℕ → List ℕ
over l i p = take i l ++ onto p (drop i l)

-- "Payloads are filled with zeros to a multiple of 4": how many a payload of this size takes
abbrev pub fill_count : ℕ → ℕ
fill_count size = (4 - size % 4) % 4

-- those zeros
abbrev pub fill_of : ℕ → List ℕ
fill_of size = replicate (fill_count size) 0

-- a writer's answer: n, at most `most`, bytes p were laid over the front of l, which gives l₁
pub record Wrote (p l l₁ : List ℕ) (n most : ℕ) : Type 0 where
  pub long : n ≡ length p
  pub fits : n ≤ most
  pub is : l₁ ≡ onto p l
