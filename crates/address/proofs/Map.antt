-- The map of bits has the valid addresses, and there are exactly 126 of them. Assumes nothing.
use mathlib.Core.Path.{◌≡◌, refl, ap, ◌∙◌}
use mathlib.Core.Bool.{Bool, false}
use mathlib.Core.List.{[], ◌∷◌}
use Prim.Native.Nat.{ℕ, ◌+◌, ◌-◌, ◌≤◌, ◌<◌, ◌/◌, ◌%◌, ◌^◌}
use native.Mathlib.Omega.{arith}
use lib.Dec.{eqb}
use lib.ListN.{length, get_or}
use borrow.Author.Tests.{ne_eqb}
use Rattle.tables.specs.Lists.{count_below}
use Rattle.tables.proofs.Below.{agree, count_from}
use Rattle.address.specs.Address.{loop_addresses, valid_address}

-- the bit of the map that stands for n
abbrev pub bit : ℕ → Bool
bit n = eqb (get_or (0x167e7ee8e9818116 ∷ 0x167e7ee8167e7ee8 ∷ 0x167e7ee8e9818117 ∷ 0x00008117167e7ee8 ∷ []) (n / 64) 0 / 2 ^ (n % 64) % 2) 1

-- the map is right at each byte: one test of all 256
pub map_right : (n : ℕ) → n < 256 → bit n ≡ valid_address n
unfolding valid_address
map_right = agree bit valid_address 256 refl

-- no number of more than a byte is an address
pub none_above : (n : ℕ) → 256 ≤ n → valid_address n ≡ false
unfolding valid_address
none_above n h = let e : n / 256 ≡ 0 → ⊥ = λ z. omega arith in rw (ne_eqb (n / 256) 0 e)

at_256 : count_below valid_address 256 ≡ 126
unfolding valid_address
at_256 = refl

-- below every bound from 256 on there are exactly 126 valid addresses
pub exactly_126 : (m : ℕ) → 256 ≤ m → count_below valid_address m ≡ 126
exactly_126 m h =
    let e : m ≡ 256 + (m - 256) = omega arith in
    ap (count_below valid_address) e ∙ count_from valid_address 256 none_above (m - 256) ∙ at_256

-- the list has 127 addresses, 00h among them
pub listed : length loop_addresses ≡ 127
listed = refl
