-- What judges says, as ASCII text (document 01, "Known numbers and slips").
use Rattle.std.specs.Prelude.{ℕ, ◌+◌, ◌/◌, ◌%◌, cond, List, [], ◌∷◌, ◌++◌, ltb}
use Rattle.saying.specs.Text.{decimal}
use Rattle.params.specs.Words.{reason_of}
use Rattle.judging.specs.declared.Judgement.{Judgement}
use Rattle.judging.specs.declared.Judgement.TheVariants.{Accept, Reject, NotPlogi, Short}

-- a digit below 16, in upper case
unfoldable pub hex_digit : ℕ → ℕ
hex_digit d = cond (ltb d 10) (48 + d) (55 + d)

-- a byte as two digits
abbrev pub hex_byte : ℕ → List ℕ
hex_byte n = hex_digit (n / 16) ∷ hex_digit (n % 16) ∷ []

-- " ACC" and a line feed
abbrev pub accept_text : List ℕ
accept_text = 0x20 ∷ 0x41 ∷ 0x43 ∷ 0x43 ∷ 0x0a ∷ []

-- " LS_RJT ", the reason, a blank, the explanation and a line feed
unfoldable pub reject_text : ℕ → ℕ → List ℕ
reject_text reason explanation = 0x20 ∷ 0x4c ∷ 0x53 ∷ 0x5f ∷ 0x52 ∷ 0x4a ∷ 0x54 ∷ 0x20 ∷ hex_byte reason ++ (0x20 ∷ hex_byte explanation) ++ (0x0a ∷ [])

-- " NOT PLOGI" and a line feed
abbrev pub not_plogi_text : List ℕ
not_plogi_text = 0x20 ∷ 0x4e ∷ 0x4f ∷ 0x54 ∷ 0x20 ∷ 0x50 ∷ 0x4c ∷ 0x4f ∷ 0x47 ∷ 0x49 ∷ 0x0a ∷ []

-- " SHORT "
abbrev pub short_word : List ℕ
short_word = 0x20 ∷ 0x53 ∷ 0x48 ∷ 0x4f ∷ 0x52 ∷ 0x54 ∷ 0x20 ∷ []

-- " SHORT ", the bytes that are there, and a line feed
unfoldable pub short_text : ℕ → List ℕ
short_text n = (short_word ++ decimal n) ++ (0x0a ∷ [])

-- what is said of a judgement
abbrev pub text_of : Judgement → List ℕ
text_of Accept = accept_text
text_of (Reject f) = reject_text (reason_of f).reason (reason_of f).explanation
text_of NotPlogi = not_plogi_text
text_of (Short n) = short_text n
