-- What a call sees of a unit and a port. Places are found by the keys of the logins: 1 is a free place's, 2 and the address on a login's, with its port name (`formed/specs/Keys.antt`).
use Rattle.std.specs.Prelude.{ℕ, ◌+◌, Bool, ◌||◌, List, eqb, Option}
use Rattle.tables.specs.Lists.{first, on_found}
use Rattle.state.specs.declared.Login.{Login}
use Rattle.state.specs.declared.Own.{Own}
use Rattle.state.specs.declared.Port.{Port}
use Rattle.state.specs.declared.Unit.{Unit}
use Rattle.state.specs.Changes.{empty_login, own_of}
use Rattle.state.specs.Tables.{login_in}
use Rattle.formed.specs.declared.Key.{Key}
use Rattle.formed.specs.Keys.{key_named, keys_of, fine_by}
use Rattle.calls.specs.declared.Sight.{Sight}
use Rattle.calls.specs.declared.View.{View}

abbrev pub is_any : ℕ → ℕ → ℕ → Key → Bool
is_any a b name k = eqb k.id a || eqb k.id b || key_named name k

-- the lowest place whose key is a or b, or has the name
unfoldable pub find_any : List Key → ℕ → ℕ → ℕ → Option ℕ
find_any keys a b name = first (is_any a b name) keys

-- the place of the login of an address
unfoldable pub seat_of : List Key → ℕ → Option ℕ
seat_of keys address = find_any keys (2 + address) (2 + address) 0

-- the lowest place that is free once the logins of an address and of a port name have ended
unfoldable pub place_for : List Key → ℕ → ℕ → Option ℕ
place_for keys address name = find_any keys 1 (2 + address) name

-- what every call sees of logins with these keys, and of a unit and a port
abbrev pub sight_from : Unit → Own → List Key → Sight
sight_from u o keys = record { keys = keys; fine = fine_by u o keys }

abbrev pub sight_of : Unit → Port → Sight
sight_of u p = sight_from u (own_of p) (keys_of u p)

-- what is seen, where l is the login at the seat, if there is one
unfoldable pub view_from : Unit → Own → Sight → Option ℕ → Login → View
view_from u o s seat l = record { unit = u; own = o; keys = s.keys; seat = seat; login = on_found seat (λ _. l) empty_login; fine = s.fine }

-- what a call of the port at an address sees
unfoldable pub view_of : Unit → Port → ℕ → View
view_of u p address = view_from u (own_of p) (sight_of u p) (seat_of (keys_of u p) address) (login_in p (seat_of (keys_of u p) address))
