-- An FCP_CMND's fields, and what its task flags ask for (document 01, "Commands").
use Rattle.std.specs.Prelude.{ℕ, ◌/◌, ◌%◌, Bool, cond, not, ◌&&◌, ◌||◌, List, eqb, get_or, Ok, Err, Result}
use Rattle.wire.specs.Bytes.{num, part}
use Rattle.state.specs.declared.Change.{Change}
use Rattle.state.specs.declared.Change.TheVariants.{EndExchangesOf, Reset, Clear}
use Rattle.command.specs.declared.Cmnd.{Cmnd}
use Rattle.command.specs.declared.Task.{Task}
use Rattle.command.specs.declared.Task.TheVariants.{Apply, Execute}
use Rattle.command.specs.declared.CmndFault.{CmndFault}
use Rattle.command.specs.declared.CmndFault.TheVariants.{Fields, Unsupported, OtherUnit}

-- bit 0 of a byte
abbrev pub low_bit : ℕ → Bool
low_bit byte = eqb (byte % 2) 1

-- "11 bit 1 read"
abbrev pub read_bit : ℕ → Bool
read_bit bits = eqb (bits / 2 % 2) 1

-- "FCP_CMND: LUN 8, byte 9 attribute (ignored), 10 task flags, 11 bit 1 read and bit 0 write, CDB 16, FCP_DL 4"; the payload starts at byte 24 of the frame
unfoldable pub cmnd_of : List ℕ → Cmnd
cmnd_of f =
    record {
      lun = num 8 f 24;
      task = get_or f 34 0;
      read = read_bit (get_or f 35 0);
      write = low_bit (get_or f 35 0);
      cdb = part 16 f 36;
      expected = num 4 f 52;
    }

-- "RSP_CODE 02 for a size other than 32, both data bits"; the frame is 24 bytes longer
unfoldable pub malformed : ℕ → Bool → Bool → Bool
malformed length read write = not (eqb length 56) || read && write

-- the RSP_CODE of a fault: "02 for a size other than 32, both data bits, a task flag of 01h, 08h, 10h, or two flags"; "80h, 40h: 04"; "with a nonzero LUN 05"
abbrev pub code_of : CmndFault → ℕ
code_of Fields = 0x02
code_of Unsupported = 0x04
code_of OtherUnit = 0x05

-- "04h clear task set .., 02h abort task set ..; with a nonzero LUN 05"
abbrev pub on_unit : ℕ → Change → Result Task CmndFault
on_unit lun e = cond (eqb lun 0) (Ok (Apply e)) (Err OtherUnit)

-- "80h, 40h: 04. 20h target reset .. 04h clear task set ends all, 02h abort task set the sender's"; no flag: the command of the CDB;
-- every other byte is "a task flag of 01h, 08h, 10h, or two flags": 02
unfoldable pub task_for : ℕ → ℕ → ℕ → Result Task CmndFault
task_for task lun from =
    cond (eqb task 0x00) (Ok Execute)
    (cond (eqb task 0x80) (Err Unsupported)
    (cond (eqb task 0x40) (Err Unsupported)
    (cond (eqb task 0x20) (Ok (Apply Reset))
    (cond (eqb task 0x04) (on_unit lun (Clear from))
    (cond (eqb task 0x02) (on_unit lun (EndExchangesOf from))
    (Err Fields))))))

unfoldable pub task_of : Cmnd → ℕ → ℕ → Result Task CmndFault
task_of c length from = cond (malformed length c.read c.write) (Err Fields) (task_for c.task c.lun from)
