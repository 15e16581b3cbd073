-- The data that the drive makes itself (document 01, "Commands", "Wanted").
use Rattle.std.specs.Prelude.{ℕ, ◌-◌, cond, List, [], ◌∷◌, ◌++◌, eqb, leb}
use Rattle.wire.specs.Bytes.{bytes}
use Rattle.state.specs.declared.Unit.{Unit}
use Rattle.state.specs.Kinds.{kind_inquiry_other, kind_capacity, kind_sense_reset, kind_sense_cleared, kind_sense_other}
use Rattle.reply.specs.declared.Sense.{Sense}
use Rattle.reply.specs.Payload.{sense_with, sense_bytes}

-- INQUIRY: "7Fh first for another LUN"
unfoldable pub inquiry_first : ℕ → ℕ
inquiry_first kind = cond (eqb kind kind_inquiry_other) 0x7f 0x00

-- "00 00 02 02 1F 00 00 02 and identity, 7Fh first for another LUN"
unfoldable pub inquiry_bytes : List ℕ → ℕ → List ℕ
inquiry_bytes identity kind = (inquiry_first kind ∷ 0x00 ∷ 0x02 ∷ 0x02 ∷ 0x1f ∷ 0x00 ∷ 0x00 ∷ 0x02 ∷ []) ++ identity

-- READ CAPACITY: "8 (last address, 512)"
unfoldable pub capacity_bytes : ℕ → List ℕ
capacity_bytes capacity = bytes 4 (capacity - 1) ++ bytes 4 512

-- REQUEST SENSE: "00/00/00, the attention, .. or 05/25/00 for another LUN"; the attention is 06/29/00 or 06/2F/00
unfoldable pub sense_of : ℕ → Sense
sense_of kind = cond (eqb kind kind_sense_reset) (sense_with 0x06 0x29) (cond (eqb kind kind_sense_cleared) (sense_with 0x06 0x2f) (cond (eqb kind kind_sense_other) (sense_with 0x05 0x25) (sense_with 0x00 0x00)))

-- the made data of a kind: INQUIRY, READ CAPACITY, REQUEST SENSE
unfoldable pub made_bytes : Unit → ℕ → List ℕ
made_bytes u kind = cond (leb kind kind_inquiry_other) (inquiry_bytes u.identity kind) (cond (eqb kind kind_capacity) (capacity_bytes u.capacity) (sense_bytes (sense_of kind)))
