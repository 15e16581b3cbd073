-- A window cut from the unit: what it covers stands in it as on the unit, and which windows cover. Assumes nothing.
use Rattle.std.specs.Prelude.{Some, None}
use mathlib.Core.Path.{◌≡◌, refl, ap, ◌∙◌}
use mathlib.Core.Bool.{Bool, true, false, cond, ◌&&◌}
use mathlib.Core.List.{List, [], ◌∷◌}
use Prim.Native.Nat.{ℕ, zero, suc, ◌+◌, ◌-◌, ◌*◌, ◌/◌, ◌%◌, ◌≤◌, min}
use native.Mathlib.Omega.{arith}
use lib.Dec.{leb}
use lib.ListN.{length, take, drop, length-take, length-drop}
use lib.Seq.{take-take, drop-drop}
use borrow.Author.Tests.{le-leb, leb-true}
use Rattle.cover.specs.Cover.{position_of, cut, cover_of}

-- a window that covers
pub record Covers (at n start len k : ℕ) : Type 0 where
  pub after : 512 * start ≤ at
  pub before : at + n ≤ 512 * start + len
  pub is : k ≡ at - 512 * start

cover_case : (b c : Bool) (m k : ℕ) → cond (b && c) (Some m) None ≡ Some k → (b ≡ true) × (c ≡ true) × (k ≡ m)
cover_case true true m k e = (refl, refl, (cc))
cover_case true false m k e = let z : ◌≡◌ {A = ℕ} 0 1 = cc in absurd (omega arith)
cover_case false c m k e = let z : ◌≡◌ {A = ℕ} 0 1 = cc in absurd (omega arith)

pub covers : (at n start len k : ℕ) → cover_of at n start len ≡ Some k → Covers at n start len k
unfolding cover_of
covers at n start len k e =
    let t = cover_case (leb (512 * start) at) (leb (at + n) (512 * start + len)) (at - 512 * start) k e in
    record { after = leb-true (512 * start) at t.0; before = leb-true (at + n) (512 * start + len) t.1; is = t.2 }

-- a part of a front is a part of the whole
part_of : (k n len : ℕ) (l : List ℕ) → k + n ≤ len → take n (drop k (take len l)) ≡ take n (drop k l)
part_of zero n len l h = take-take n len l (omega arith)
part_of (suc k) n zero l h = absurd (omega arith)
part_of (suc k) n (suc len) [] h = refl
part_of (suc k) n (suc len) (y ∷ l) h = part_of k n len l (omega arith)

-- the bytes that a window covers are the unit's
pub cut_holds : (unit : List ℕ) (at n start len k : ℕ) → cover_of at n start (length (cut unit start len)) ≡ Some k → take n (drop k (cut unit start len)) ≡ take n (drop at unit)
cut_holds unit at n start len k c =
    let v = covers at n start (length (cut unit start len)) k c in
    let m = length-take len (drop (512 * start) unit) in
    let fit : k + n ≤ len = let x = v.after in let y = v.before in let z = v.is in omega arith in
    let is : 512 * start + k ≡ at = let x = v.after in let z = v.is in omega arith in
    part_of k n len (drop (512 * start) unit) fit ∙ ap (take n) (drop-drop k (512 * start) unit ∙ ap (λ (s : ℕ). drop s unit) is)

-- the window that starts at the first byte's block covers n bytes of the unit, if it is lent a block more than these
pub cut_covers : (unit : List ℕ) (block offset n len : ℕ) → n + 512 ≤ len → position_of block offset + n ≤ length unit
    → cover_of (position_of block offset) n (block + offset / 512) (length (cut unit (block + offset / 512) len)) ≡ Some (offset % 512)
unfolding cover_of
cut_covers unit block offset n len long inside =
    let start = block + offset / 512 in
    let l : length (cut unit start len) ≡ min len (length unit - 512 * start) = length-take len (drop (512 * start) unit) ∙ ap (min len) (length-drop (512 * start) unit) in
    let k : position_of block offset - 512 * start ≡ offset % 512 = omega arith in
    rw (l, le-leb (512 * start) (position_of block offset) (omega arith), le-leb (position_of block offset + n) (512 * start + min len (length unit - 512 * start)) (omega arith), k)
