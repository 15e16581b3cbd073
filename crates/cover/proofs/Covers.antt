-- When a window holds bytes of the unit, by differences of blocks, so that no number wraps. Assumes nothing.
use Rattle.std.specs.Prelude.{Option, Some, None}
use mathlib.Core.Path.{◌≡◌}
use mathlib.Core.Bool.{true, false, cond}
use Prim.Native.Nat.{ℕ, ◌+◌, ◌-◌, ◌*◌, ◌≤◌, ◌<◌}
use native.Mathlib.Decide.{dec_le}
use native.Mathlib.Omega.{arith}
use lib.Dec.{leb}
use borrow.Author.Tests.{ltb-true, ltb-false, le-leb, lt-leb}
use Rattle.cover.specs.Cover.{position_of, fits_at, cover_of, too_long, lent_place}

pub fits : (k n len : ℕ) → k + n ≤ len → Some k ≡ fits_at k n len
unfolding fits_at
fits k n len h = rw (le-leb (k + n) len h)

pub fits_not : (k n len : ℕ) → len < k + n → None ≡ fits_at k n len
unfolding fits_at
fits_not k n len h = rw (lt-leb (k + n) len h)

module _ (block offset n start len : ℕ) where
  -- the block is the window's first or after it
  pub cover_after : start ≤ block → fits_at (position_of (block - start) offset) n len ≡ cover_of (position_of block offset) n start len
  unfolding fits_at cover_of
  cover_after h =
      let k : position_of block offset - 512 * start ≡ position_of (block - start) offset = omega arith in
      elim (dec_le (position_of (block - start) offset + n) len) [
        | yes l ↦ rw (le-leb (position_of (block - start) offset + n) len l, le-leb (512 * start) (position_of block offset) (omega arith), le-leb (position_of block offset + n) (512 * start + len) (omega arith), k)
        | no l ↦ rw (lt-leb (position_of (block - start) offset + n) len (omega arith), le-leb (512 * start) (position_of block offset) (omega arith), lt-leb (position_of block offset + n) (512 * start + len) (omega arith))
      ]

  -- the block is before the window's first
  pub cover_before : block < start
      → cond (leb (512 * (start - block)) offset) (fits_at (offset - 512 * (start - block)) n len) None ≡ cover_of (position_of block offset) n start len
  unfolding fits_at cover_of
  cover_before h =
      let k : position_of block offset - 512 * start ≡ offset - 512 * (start - block) = omega arith in
      elim (dec_le (512 * (start - block)) offset) [
        | yes m ↦ elim (dec_le (offset - 512 * (start - block) + n) len) [
          | yes l ↦ rw (le-leb (512 * (start - block)) offset m, le-leb (offset - 512 * (start - block) + n) len l, le-leb (512 * start) (position_of block offset) (omega arith), le-leb (position_of block offset + n) (512 * start + len) (omega arith), k)
          | no l ↦ rw (le-leb (512 * (start - block)) offset m, lt-leb (offset - 512 * (start - block) + n) len (omega arith), le-leb (512 * start) (position_of block offset) (omega arith), lt-leb (position_of block offset + n) (512 * start + len) (omega arith))
        ]
        | no m ↦ rw (lt-leb (512 * (start - block)) offset (omega arith), lt-leb (512 * start) (position_of block offset) (omega arith))
      ]

-- the window's first block is so many blocks past the block
module _ (blocks offset n len : ℕ) {r : Option ℕ} where
  pub before_not : offset < 512 * blocks → r ≡ None → r ≡ cond (leb (512 * blocks) offset) (fits_at (offset - 512 * blocks) n len) None
  before_not h e = rw (lt-leb (512 * blocks) offset h) e

  pub before_fits : 512 * blocks ≤ offset → r ≡ fits_at (offset - 512 * blocks) n len → r ≡ cond (leb (512 * blocks) offset) (fits_at (offset - 512 * blocks) n len) None
  before_fits h e = rw (le-leb (512 * blocks) offset h) e

-- a lent window
module _ (at n start len : ℕ) where
  pub lent_too_long : too_long len ≡ true → None ≡ lent_place at n start len
  unfolding lent_place
  lent_too_long t = rw t

  -- more bytes than a window may have are in none
  pub lent_too_many : too_long len ≡ false → too_long n ≡ true → None ≡ lent_place at n start len
  unfolding lent_place cover_of
  lent_too_many t m =
      let few = ltb-false 65536 len t in
      let many = ltb-true 65536 n m in
      elim (dec_le (512 * start) at) [
        | yes l ↦ rw (t, le-leb (512 * start) at l, lt-leb (at + n) (512 * start + len) (omega (arith, few, many, l)))
        | no l ↦ rw (t, lt-leb (512 * start) at (omega (arith, l)))
      ]

  pub lent_is : {r : Option ℕ} → too_long len ≡ false → r ≡ cover_of at n start len → r ≡ lent_place at n start len
  unfolding lent_place
  lent_is t e = rw t e
