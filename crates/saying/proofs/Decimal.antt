-- The fewest digits of a number, as `io::decimal` gives them, are the number in decimal. Assumes nothing.
use mathlib.Core.Path.{◌≡◌, refl, sym, ap, ◌∙◌}
use mathlib.Core.List.{List, [], ◌∷◌}
use Prim.Native.Nat.{ℕ, zero, suc, ◌*◌, ◌-◌, ◌/◌, ◌%◌, ◌^◌, ◌≤◌, ◌<◌}
use native.Mathlib.Nat.{pow-suc, div-lt_iff_lt-mul, le-div_iff_mul-le, mod-eq_of_lt, one-le-pow, pow-le-pow_right, le_trans}
use native.Mathlib.Decide.{dec_le}
use native.Mathlib.Numerals.{add-one}
use native.Mathlib.Omega.{arith}
use lib.ListN.{length, take, drop, length-append}
use lib.Seq.{take_at}
use borrow.Author.Tests.{lt-ltb, le-ltb}
use Rattle.io.specs.Digits.{hex_digit_ascii, last_digits, IsDigitCount}
use Rattle.wire.specs.Bytes.{Wrote}
use Rattle.wire.proofs.Fronts.{onto_fits}
use Rattle.saying.specs.Text.{spell, decimal}

pub length_digits : (k n : ℕ) → length (last_digits 10 k n) ≡ k
length_digits zero n = refl
length_digits (suc k) n = length-append (last_digits 10 k (n / 10)) (hex_digit_ascii (n % 10) ∷ []) ∙ rw (length_digits k (n / 10), add-one)

spelled : (k m n : ℕ) → k ≤ m → IsDigitCount 10 1 n k → last_digits 10 k n ≡ spell m n
spelled zero m n h f = let l : 1 ≤ 0 = f.0 in absurd (omega arith)
spelled (suc k) zero n h f = absurd (omega arith)
spelled (suc zero) (suc m) n h f =
    let l : n < 10 = f.1 in
    rw (mod-eq_of_lt l, lt-ltb n 10 l)
spelled (suc (suc k)) (suc m) n h f =
    let s : suc (suc k) - 1 ≡ suc k = omega arith in
    let s₁ : suc k - 1 ≡ k = omega arith in
    let low : 10 ^ suc k ≤ n = rw s at (f.2 (omega arith)) in
    let one : 0 < 10 ^ k = one-le-pow k 10 (omega arith) in
    let ten : 10 ≤ n = let e : 10 ^ k * 10 ≤ n = rw pow-suc at low in omega arith in
    let up : n / 10 < 10 ^ suc k = (div-lt_iff_lt-mul {k = 10} {x = n} {y = 10 ^ suc k} (omega arith)).1 (rw pow-suc at f.1) in
    let down : 1 < suc k → 10 ^ (suc k - 1) ≤ n / 10 = λ l. rw s₁ ((le-div_iff_mul-le {k = 10} {x = 10 ^ k} {y = n} (omega arith)).1 (rw pow-suc at low)) in
    rw (le-ltb n 10 ten, spelled (suc k) m (n / 10) (omega arith) (omega arith, up, down))

-- a number of 64 bits has at most 20 digits
pub at_most_20 : (k n : ℕ) → n < 2 ^ 64 → IsDigitCount 10 1 n k → k ≤ 20
at_most_20 k n h f =
    elim (dec_le k 20) [
      | yes l ↦ l
      | no l ↦ (let a : 10 ^ 20 ≤ 10 ^ (k - 1) = pow-le-pow_right {n = 10} (omega arith) {i = 20} {j = k - 1} (omega arith) in
          let b : 10 ^ (k - 1) ≤ n = f.2 (omega arith) in
          let c : 100000000000000000000 ≤ n = le_trans a b in
          let d : n < 18446744073709551616 = h in
          absurd (omega arith))
    ]

pub decimal_is : (k n : ℕ) → k ≤ 20 → IsDigitCount 10 1 n k → last_digits 10 k n ≡ decimal n
unfolding decimal
decimal_is k n h f = spelled k 20 n h f

-- what `put_decimal` wrote into twenty bytes, taken out again
module _ (n : ℕ) {z d : List ℕ} {k : ℕ} (w : Wrote (decimal n) z d k 20) where
  pub digits_few : length (decimal n) ≤ 20
  digits_few = let l = w.long in let f = w.fits in omega (arith, l, f)

  pub digits_taken : length z ≡ 20 → take k d ≡ decimal n
  digits_taken long =
      let few = digits_few in
      let there : length (decimal n) ≤ length z = omega (arith, few, long) in
      ap (take k) (w.is ∙ onto_fits (decimal n) z there) ∙ take_at (decimal n) (drop (length (decimal n)) z) k (sym w.long)
