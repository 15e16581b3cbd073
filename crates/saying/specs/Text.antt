-- A number in decimal, as ASCII text.
use Rattle.std.specs.Prelude.{ℕ, zero, suc, ◌/◌, ◌%◌, cond, List, [], ◌∷◌, ◌++◌, ltb}
use Rattle.io.specs.Digits.{hex_digit_ascii}

-- n in decimal with no zeros in front, where it has at most m digits
abbrev pub spell : ℕ → ℕ → List ℕ
spell zero n = []
spell (suc m) n = cond (ltb n 10) (hex_digit_ascii n ∷ []) (spell m (n / 10) ++ (hex_digit_ascii (n % 10) ∷ []))

-- n in decimal; 20 digits hold every number of 64 bits
unfoldable pub decimal : ℕ → List ℕ
decimal n = spell 20 n
