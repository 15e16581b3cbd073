-- The bytes of an answer.
use Rattle.std.specs.Prelude.{ℕ, Bool, cond, List, [], ◌∷◌, ◌++◌, eqb, length, take, drop, Ok, Err, Result}
use Rattle.refusal.specs.declared.Refusal.{Refusal}
use Rattle.tables.specs.Lists.{all}
use Rattle.wire.specs.Bytes.{bytes}
use Rattle.refusal.specs.Refusal.{number_of}

-- "still holds the fill 5Ah it was lent with": every byte does
unfoldable pub all_fill : List ℕ → Bool
all_fill l = all (λ b. eqb b 0x5a) l

abbrev pub flag_of : Bool → ℕ
flag_of still = cond still 1 0

-- "refusal number u8 (0 answered), reply length u16, the reply's bytes, then one byte"
unfoldable pub answer : ℕ → List ℕ → Bool → List ℕ
answer number reply still = ((number ∷ bytes 2 (length reply)) ++ reply) ++ (flag_of still ∷ [])

-- the answer to a call that left l in the buffer that it was lent: "1 if every byte of the lent buffer after the reply (after a refusal: every byte) still holds the fill"
abbrev pub answer_of : Result ℕ Refusal → List ℕ → List ℕ
answer_of (Ok n) l = answer 0 (take n l) (all_fill (drop n l))
answer_of (Err x) l = answer (number_of x) [] (all_fill l)
