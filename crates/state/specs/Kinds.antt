-- What the data of an exchange are, by its kind, and where they go, by its direction.
use Rattle.std.specs.Prelude.{ℕ, Bool, ◌==◌}
use Rattle.state.specs.declared.Exchange.{Exchange}

-- nothing: its place is free
abbrev pub kind_free : ℕ
kind_free = 0

-- READ(10) and WRITE(10): blocks of the unit
abbrev pub kind_blocks : ℕ
kind_blocks = 1

-- INQUIRY data, and those for another LUN, with 7Fh first
abbrev pub kind_inquiry : ℕ
kind_inquiry = 2

abbrev pub kind_inquiry_other : ℕ
kind_inquiry_other = 3

-- READ CAPACITY: the last address and 512
abbrev pub kind_capacity : ℕ
kind_capacity = 4

-- REQUEST SENSE: 00/00/00, 06/29/00, 06/2F/00, and 05/25/00 for another LUN
abbrev pub kind_sense_none : ℕ
kind_sense_none = 5

abbrev pub kind_sense_reset : ℕ
kind_sense_reset = 6

abbrev pub kind_sense_cleared : ℕ
kind_sense_cleared = 7

abbrev pub kind_sense_other : ℕ
kind_sense_other = 8

-- "The exchange record gains a direction" (02, 2): data go to the host, or come from it
abbrev pub to_host : ℕ
to_host = 0

abbrev pub from_host : ℕ
from_host = 1

-- a WRITE
abbrev pub is_write : Exchange → Bool
is_write e = e.direction == from_host
