-- Tests 2 to 7 of a command, and what it wants (document 01, "Tests for the rest" and "Wanted").
use Rattle.std.specs.Prelude.{ℕ, ◌+◌, ◌*◌, min, Bool, true, false, cond, not, ◌&&◌, ◌||◌, eqb, leb, ltb, Ok, Err, Result}
use Rattle.state.specs.declared.Exchange.{Exchange}
use Rattle.state.specs.declared.Unit.{Unit}
use Rattle.state.specs.Kinds.{kind_free, kind_blocks, kind_inquiry, kind_inquiry_other, kind_capacity, kind_sense_none, kind_sense_reset, kind_sense_cleared, kind_sense_other, to_host, from_host}
use Rattle.command.specs.declared.Cmnd.{Cmnd}
use Rattle.command.specs.declared.Range.{Range}
use Rattle.command.specs.declared.Operation.{Operation}
use Rattle.command.specs.declared.Operation.TheVariants.{TestUnitReady, RequestSense, Inquiry, ReadCapacity, Read, Write, Unknown}
use Rattle.command.specs.declared.Check.{Check}
use Rattle.command.specs.declared.Check.TheVariants.{OtherUnit, Attention, UnknownCode, Protected, WrongField, Outside}
use Rattle.command.specs.Cdb.{operation_of, wrong_field}

-- "INQUIRY and REQUEST SENSE skip 2 and 3"
abbrev pub skips : Operation → Bool
skips (RequestSense most) = true
skips (Inquiry most) = true
skips o = false

-- "(2) LUN not 0"
unfoldable pub other_unit : Operation → ℕ → Bool
other_unit o lun = not (skips o) && not (eqb lun 0)

-- "(3) attention"
unfoldable pub attends : Operation → ℕ → Bool
attends o attention = not (skips o) && not (eqb attention 0)

-- "(4) code not 00h, 03h, 12h, 25h, 28h, 2Ah"
abbrev pub unknown : Operation → Bool
unknown Unknown = true
unknown o = false

-- "2Ah"
abbrev pub writes : Operation → Bool
writes (Write r) = true
writes o = false

-- "(5) 2Ah"; "read-only units still give 07/27/00 at test 5" (02, 2)
unfoldable pub protected : Unit → Operation → Bool
protected u o = writes o && not (eqb u.writable 1)

-- "address not below capacity, or address plus count above it"
unfoldable pub beyond : Unit → Range → Bool
beyond u r = leb u.capacity r.start || ltb u.capacity (r.start + r.blocks)

-- "(7) READ(10)", and WRITE(10) (02, 2)
abbrev pub outside : Unit → Operation → Bool
outside u (Read r) = beyond u r
outside u (Write r) = beyond u r
outside u o = false

-- "00/00/00, the attention, .. or 05/25/00 for another LUN", as the kind of the exchange that reports it
unfoldable pub sense_kind : ℕ → ℕ → ℕ
sense_kind lun attention = cond (not (eqb lun 0)) kind_sense_other (cond (eqb attention 0) kind_sense_none (cond (eqb attention 0x29) kind_sense_reset kind_sense_cleared))

-- "7Fh first for another LUN", as the kind of the exchange that sends it
unfoldable pub inquiry_kind : ℕ → ℕ
inquiry_kind lun = cond (eqb lun 0) kind_inquiry kind_inquiry_other

-- an exchange of which nothing is sent
abbrev pub fresh : ℕ → ℕ → ℕ → ℕ → ℕ → ℕ → ℕ → Exchange
fresh ox expected direction kind wanted start blocks =
    record {
      start = start;
      blocks = blocks;
      wanted = wanted;
      expected = expected;
      sent = 0;
      ox_id = ox;
      count = 0;
      kind = kind;
      direction = direction;
      awaited = 0;
    }

-- "Wanted: 0; 18 or byte 4 if smaller (..); 36 or byte 4 if smaller (..); 8 (..); count × 512": of TEST UNIT READY, REQUEST SENSE, INQUIRY, READ CAPACITY, READ(10) and WRITE(10)
abbrev pub exchange_for : Operation → ℕ → ℕ → ℕ → ℕ → Exchange
exchange_for TestUnitReady attention ox lun expected = fresh ox expected to_host kind_free 0 0 0
exchange_for (RequestSense most) attention ox lun expected = fresh ox expected to_host (sense_kind lun attention) (min 18 most) 0 0
exchange_for (Inquiry most) attention ox lun expected = fresh ox expected to_host (inquiry_kind lun) (min 36 most) 0 0
exchange_for ReadCapacity attention ox lun expected = fresh ox expected to_host kind_capacity 8 0 0
exchange_for (Read r) attention ox lun expected = fresh ox expected to_host kind_blocks (512 * r.blocks) r.start r.blocks
exchange_for (Write r) attention ox lun expected = fresh ox expected from_host kind_blocks (512 * r.blocks) r.start r.blocks
exchange_for Unknown attention ox lun expected = fresh ox expected to_host kind_free 0 0 0

-- the first of tests 2 to 7 that fails, else the exchange that is wanted
unfoldable pub tested_by : Unit → ℕ → ℕ → Cmnd → Operation → Result Exchange Check
tested_by u attention ox c o =
    cond (other_unit o c.lun) (Err OtherUnit)
    (cond (attends o attention) (Err (Attention attention))
    (cond (unknown o) (Err UnknownCode)
    (cond (protected u o) (Err Protected)
    (cond (wrong_field o c.cdb) (Err WrongField)
    (cond (outside u o) (Err Outside)
    (Ok (exchange_for o attention ox c.lun c.expected)))))))

unfoldable pub asked_of : Unit → ℕ → ℕ → Cmnd → Result Exchange Check
asked_of u attention ox c = tested_by u attention ox c (operation_of c.cdb)
