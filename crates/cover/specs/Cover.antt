-- Where bytes of the unit stand in a lent window (document 01, "Commands").
use Rattle.std.specs.Prelude.{ℕ, ◌+◌, ◌-◌, ◌*◌, Bool, cond, ◌&&◌, List, leb, ltb, take, drop, Option, Some, None}

-- the unit's byte at an offset past the start of a block: "block 8,388,608 is byte 4,294,967,296", so blocks have 512 bytes
abbrev pub position_of : ℕ → ℕ → ℕ
position_of block offset = 512 * block + offset

-- "a window": so many of the unit's bytes from a block on, or as many as there are
abbrev pub cut : List ℕ → ℕ → ℕ → List ℕ
cut unit start len = take len (drop (512 * start) unit)

-- place k, if the n bytes from it on are among len
unfoldable pub fits_at : ℕ → ℕ → ℕ → Option ℕ
fits_at k n len = cond (leb (k + n) len) (Some k) None

-- "a window: a starting block and at most 65,536 bytes holding that frame's bytes": whether one of len bytes has the n bytes from this one of the unit on
abbrev pub holds : ℕ → ℕ → ℕ → ℕ → Bool
holds at n start len = leb (512 * start) at && leb (at + n) (512 * start + len)

-- where they begin in it, or that it does not hold them: "not covering"
unfoldable pub cover_of : ℕ → ℕ → ℕ → ℕ → Option ℕ
cover_of at n start len = cond (holds at n start len) (Some (at - 512 * start)) None

-- "a window: .. at most 65,536 bytes"
abbrev pub too_long : ℕ → Bool
too_long len = ltb 65536 len

-- where they begin in it, in a window that is too long nowhere
unfoldable pub lent_place : ℕ → ℕ → ℕ → ℕ → Option ℕ
lent_place at n start len = cond (too_long len) None (cover_of at n start len)
