-- A CDB, decoded: what it asks for, by its operation code, and whether a field that must be zero is not (document 01, "Tests for the rest", (4) to (7)).
use Rattle.std.specs.Prelude.{ℕ, Bool, false, cond, not, ◌||◌, List, eqb, get_or}
use Rattle.wire.specs.Bytes.{num}
use Rattle.command.specs.declared.Range.{Range}
use Rattle.command.specs.declared.Operation.{Operation}
use Rattle.command.specs.declared.Operation.TheVariants.{TestUnitReady, RequestSense, Inquiry, ReadCapacity, Read, Write, Unknown}
use Rattle.command.specs.Cmnd.{low_bit}

-- "(6) INQUIRY byte 1 bit 0 or byte 2"
unfoldable pub inquiry_field : List ℕ → Bool
inquiry_field cdb = low_bit (get_or cdb 1 0) || not (eqb (get_or cdb 2 0) 0)

-- "READ CAPACITY bytes 2-5 or byte 8 bit 0"
unfoldable pub capacity_field : List ℕ → Bool
capacity_field cdb = not (eqb (num 4 cdb 2) 0) || low_bit (get_or cdb 8 0)

-- READ(10) and WRITE(10): address CDB bytes 2-5, count 7-8
unfoldable pub range10 : List ℕ → Range
range10 cdb = record { start = num 4 cdb 2; blocks = num 2 cdb 7 }

-- "(4) code not 00h, 03h, 12h, 25h, 28h, 2Ah": TEST UNIT READY, REQUEST SENSE, INQUIRY, READ CAPACITY, READ(10), WRITE(10)
unfoldable pub operation_of : List ℕ → Operation
operation_of cdb =
    let code = get_or cdb 0 0 in
    cond (eqb code 0x00) TestUnitReady
    (cond (eqb code 0x03) (RequestSense (get_or cdb 4 0))
    (cond (eqb code 0x12) (Inquiry (get_or cdb 4 0))
    (cond (eqb code 0x25) ReadCapacity
    (cond (eqb code 0x28) (Read (range10 cdb))
    (cond (eqb code 0x2a) (Write (range10 cdb))
    Unknown)))))

-- "(6) INQUIRY ..; READ CAPACITY ..; READ(10) byte 1 bit 0 set"; WRITE(10), which "tests 6 and 7 treat .. as READ(10)" (02, 2)
abbrev pub wrong_field : Operation → List ℕ → Bool
wrong_field (Inquiry most) cdb = inquiry_field cdb
wrong_field ReadCapacity cdb = capacity_field cdb
wrong_field (Read r) cdb = low_bit (get_or cdb 1 0)
wrong_field (Write r) cdb = low_bit (get_or cdb 1 0)
wrong_field o cdb = false
