-- The C boundary: what its functions answer, and the lent drive after them.
use Rattle.std.specs.Prelude.{ℕ, ◌+◌, ◌≡◌, Bool, true, false, Ok, Err, Result}
use Rattle.refusal.specs.declared.Refusal.{Refusal}
use Rattle.refusal.specs.Refusal.{number_of}
use Rattle.state.specs.declared.Setup.{Setup}
use Rattle.arrival.specs.declared.Form.{Form}
use Rattle.arrival.specs.declared.Form.TheVariants.{Link, Done, Abort, Command, Data}
use Rattle.drive.specs.declared.Answer.{Answer}
use Rattle.drive.specs.declared.Drive.{Drive}
use Rattle.drive.specs.Drive.{refused, new_answer}

-- the reply's length, or 65,536 plus the refusal's number
abbrev pub code_of : Result ℕ Refusal → ℕ
code_of (Ok n) = n
code_of (Err x) = 65536 + number_of x

-- what an entry answers, and the lent drive after it
abbrev pub Gives : Answer → Result ℕ Refusal → Drive → Type 0
Gives a said after = (said ≡ a.said) × (after ≡ a.drive)

-- the same told in one number
abbrev pub Tells : Answer → ℕ → Drive → Type 0
Tells a n after = (n ≡ code_of a.said) × (after ≡ a.drive)

-- "returns its number and the state unchanged": the drive that stood there before
abbrev pub or_still : Drive → Result ℕ Refusal → Answer → Answer
or_still d (Ok n) a = a
or_still d (Err x) a = refused x d

-- "Making a drive: 8"
unfoldable pub make_answer : Drive → Setup → Answer
make_answer d s = or_still d (new_answer s).said (new_answer s)

-- of the forms that arrive well, a data frame's
abbrev pub is_data_form : Form → Bool
is_data_form Link = false
is_data_form Done = false
is_data_form Abort = false
is_data_form Command = false
is_data_form Data = true
