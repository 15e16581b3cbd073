-- A table's test by the numbers or the keys of its places: each place fine, and no two that are in use known by the same number, or the same name.
use Rattle.std.specs.Prelude.{ℕ, ◌+◌, Bool, cond, not, ◌&&◌, ◌||◌, List, map, eqb}
use Rattle.tables.specs.Lists.{every, all}
use Rattle.wire.specs.Bytes.{name_of}
use Rattle.state.specs.declared.Exchange.{Exchange}
use Rattle.state.specs.declared.Login.{Login}
use Rattle.state.specs.declared.Own.{Own}
use Rattle.state.specs.declared.Port.{Port}
use Rattle.state.specs.declared.Unit.{Unit}
use Rattle.state.specs.Changes.{is_closed}
use Rattle.state.specs.Tables.{is_free}
use Rattle.formed.specs.declared.Key.{Key}
use Rattle.formed.specs.Formed.{setup_rules, setup_of, exchange_fine, login_fine}

-- the number of a place: 0 where it is not fine, 1 where it is free, and from 2 on the number that it is known by
abbrev pub number_of : Bool → Bool → ℕ → ℕ
number_of fine free n = cond fine (cond free 1 (2 + n)) 0

-- the key of a place: its number, and the name of one that is fine and in use, else 0
unfoldable pub key_of : Bool → Bool → ℕ → ℕ → Key
key_of fine free n name = record { id = number_of fine free n; name = cond fine (cond free 0 name) 0 }

-- by what a place is known it is fine, and free or apart from those that stand behind it
abbrev pub place_fine : {K : Type 0} → (K → ℕ) → (K → K → Bool) → K → List K → Bool
place_fine number apart k rest = not (eqb (number k) 0) && (eqb (number k) 1 || all (apart k) rest)

-- each place of a table is so
abbrev pub places_fine : {K : Type 0} → (K → ℕ) → (K → K → Bool) → List K → Bool
places_fine number apart ks = every (place_fine number apart) ks

-- a number is another than the number m
abbrev pub apart_number : ℕ → ℕ → Bool
apart_number n m = not (eqb n m)

-- each place of a table is fine by its number, and no two in use have the same
abbrev pub numbers_fine : List ℕ → Bool
numbers_fine ns = places_fine (λ n. n) apart_number ns

-- a key has this name, and 0 is the number of none
unfoldable pub key_named : ℕ → Key → Bool
key_named n k = not (eqb n 0) && eqb k.name n

-- a key is another than the key n, with another name
unfoldable pub apart_key : Key → Key → Bool
apart_key k n = not (eqb k.id n.id) && not (eqb k.name n.name)

-- each place of a table is fine by its key, and no two in use have the same number or the same name
abbrev pub keys_fine : List Key → Bool
keys_fine ks = places_fine (λ k. k.id) apart_key ks

-- an exchange is known by its OX_ID alone
unfoldable pub exchange_number : Unit → ℕ → ℕ → Exchange → ℕ
exchange_number u full paired e = number_of (exchange_fine u full paired e) (is_closed e) e.ox_id

-- a login is known by its address and its port name
unfoldable pub login_key : Unit → ℕ → Login → Key
login_key u own l = key_of (login_fine u own l) (is_free l) l.address (name_of l.port_name)

-- the keys of a port's logins
unfoldable pub keys_of : Unit → Port → List Key
keys_of u p = map (login_key u p.address) p.logins

-- well formed, by the keys of the logins; that this is `well_formed` is `fine_by_lem`
unfoldable pub fine_by : Unit → Own → List Key → Bool
fine_by u o keys = setup_rules (setup_of u o) && keys_fine keys
