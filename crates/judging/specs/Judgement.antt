-- What judges finds of a record, and the line that it writes (document 01, "Known numbers and slips").
use Rattle.std.specs.Prelude.{ℕ, cond, not, List, ◌++◌, eqb, ltb, length, get_or, Ok, Err, Result, ⊤}
use Rattle.params.specs.declared.Fault.{Fault}
use Rattle.params.specs.Words.{params_of, verdict_of}
use Rattle.judging.specs.declared.Judgement.{Judgement}
use Rattle.judging.specs.declared.Judgement.TheVariants.{Accept, Reject, NotPlogi, Short}
use Rattle.saying.specs.Text.{decimal}
use Rattle.judging.specs.Text.{text_of}

-- the verdict of the word tests; an empty drive has a free place
abbrev pub judged : Result ⊤ Fault → Judgement
judged (Ok tt) = Accept
judged (Err f) = Reject f

-- "reads 116-byte login records without header, each against an empty drive; a record not starting 03h prints its number and NOT PLOGI"; a cut end is SHORT
unfoldable pub judgement_of : List ℕ → Judgement
judgement_of s = cond (ltb (length s) 116) (Short (length s)) (cond (not (eqb (get_or s 0 0) 3)) NotPlogi (judged (verdict_of (params_of s 4))))

-- the record's number, and what is said of it
unfoldable pub line_of : ℕ → Judgement → List ℕ
line_of number j = decimal number ++ text_of j
