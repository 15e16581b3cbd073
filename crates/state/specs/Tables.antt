-- What is found in the tables of a port, the lowest place first.
use Rattle.std.specs.Prelude.{ℕ, Bool, not, ◌&&◌, ◌==◌, Option, Some, None}
use Rattle.tables.specs.Lists.{first, on_found}
use Rattle.state.specs.declared.Exchange.{Exchange}
use Rattle.state.specs.declared.Login.{Login}
use Rattle.state.specs.declared.Port.{Port}
use Rattle.state.specs.Standing.{Standing, Open, NoExchange, NoLogin}
use Rattle.state.specs.Changes.{empty_login, is_used, is_closed, has_address, login_at}

-- a place for a login is free
abbrev pub is_free : Login → Bool
is_free l = not (is_used l)

-- an exchange is open and has this OX_ID
unfoldable pub has_id : ℕ → Exchange → Bool
has_id x e = not (is_closed e) && e.ox_id == x

-- the login of an address
unfoldable pub find_login : Port → ℕ → Option ℕ
find_login p a = first (has_address a) p.logins

-- the lowest free place for a login
unfoldable pub free_login : Port → Option ℕ
free_login p = first is_free p.logins

-- a login's exchange of this OX_ID
unfoldable pub find_exchange : Login → ℕ → Option ℕ
find_exchange l x = first (has_id x) l.places

-- the lowest free place of a login for an exchange
unfoldable pub free_exchange : Login → Option ℕ
free_exchange l = first is_closed l.places

-- the login at a seat, an empty one where there is none
abbrev pub login_in : Port → Option ℕ → Login
login_in p seat = on_found seat (login_at p) empty_login

-- the login of an address, an empty one where it has none
unfoldable pub login_of : Port → ℕ → Login
login_of p a = login_in p (find_login p a)

-- where an exchange stands: the seat of its login, if there is one, and its place there, if it is found
abbrev pub standing_in : Option ℕ → Option ℕ → Standing
standing_in seat place = on_found seat (λ i. on_found place (λ j. Open i j) (NoExchange i)) NoLogin

-- the exchange of an address and an OX_ID
unfoldable pub lookup_of : Port → ℕ → ℕ → Standing
lookup_of p a x = standing_in (find_login p a) (find_exchange (login_of p a) x)

-- the place of that exchange at its login
abbrev pub place_in : Standing → Option ℕ
place_in (Open i j) = Some j
place_in (NoExchange i) = None
place_in NoLogin = None

-- that of an address and an OX_ID
abbrev pub sought_in : Port → ℕ → ℕ → Option ℕ
sought_in p a x = place_in (lookup_of p a x)
