-- Document 01's known number of positions, computed. Assumes nothing.
use Rattle.std.specs.Prelude.{Some, None}
use Prim.Native.Nat.{ℕ}
use mathlib.Core.Path.{◌≡◌, refl}
use Rattle.cover.specs.Cover.{position_of, cover_of}

-- "block 8,388,608 is byte 4,294,967,296": a window that starts there covers it, and one that starts at block 0 does not; so it is with the second block of two from the block before it on
pub position_64 :
    (◌≡◌ {A = ℕ} (position_of 8388608 0) 4294967296)
    × (cover_of (position_of 8388608 0) 512 8388608 512 ≡ Some 0)
    × (cover_of (position_of 8388608 0) 512 0 512 ≡ None)
    × (cover_of (position_of 8388607 512) 512 8388608 512 ≡ Some 0)
    × (cover_of (position_of 8388607 512) 512 8388607 1024 ≡ Some 512)
    × (cover_of (position_of 8388607 512) 512 8388607 1023 ≡ None)
    × (cover_of (position_of 8388607 512) 512 0 512 ≡ None)
unfolding cover_of
position_64 = (refl, refl, refl, refl, refl, refl, refl)
