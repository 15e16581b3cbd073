-- In a well-formed port an exchange stands where its login and it are: no other login has the address, and no other exchange of the login the OX_ID. Assumes nothing.
use Rattle.std.specs.Prelude.{Some}
use Prim.Native.Nat.{ℕ, ◌<◌}
use mathlib.Core.Path.{◌≡◌, refl, sym, ◌∙◌}
use mathlib.Core.Bool.{Bool, true, false, not}
use lib.Dec.{eqb}
use lib.ListN.{length}
use borrow.Author.Tests.{eqb-true, eq-eqb, not-true}
use Rattle.tables.proofs.Bools.{and_left, and_right, apart}
use Rattle.tables.proofs.Keeping.{all_at}
use Rattle.tables.proofs.Only.{inside, only_found}
use Rattle.state.specs.declared.Exchange.{Exchange}
use Rattle.state.specs.declared.Port.{Port}
use Rattle.state.specs.declared.Unit.{Unit}
use Rattle.state.specs.Standing.{Open}
use Rattle.state.specs.Changes.{empty_exchange, empty_login, is_used, is_closed, has_address, login_at, exchange_at}
use Rattle.state.specs.Tables.{has_id, find_login, find_exchange, login_of, lookup_of}
use Rattle.formed.specs.Formed.{apart_id, apart_login, login_fine, well_formed}
use Rattle.formed.proofs.Parts.{fine_used, formed_parts}
use Rattle.calls.proofs.Others.{empty_has, apart_has}

-- of two exchanges that are apart one at most has an OX_ID
ids_apart : (x : ℕ) (e f : Exchange) → apart_id e f ≡ true → has_id x e ≡ true → (b : Bool) → has_id x f ≡ b → b ≡ false
unfolding apart_id has_id
ids_apart x e f d h true k =
    let open-e = not-true (is_closed e) (and_left (not (is_closed e)) (eqb e.ox_id x) h) in
    let open-f = not-true (is_closed f) (and_left (not (is_closed f)) (eqb f.ox_id x) k) in
    let id-e = eqb-true e.ox_id x (and_right (not (is_closed e)) (eqb e.ox_id x) h) in
    let id-f = eqb-true f.ox_id x (and_right (not (is_closed f)) (eqb f.ox_id x) k) in
    apart d (rw (open-e, open-f, eq-eqb e.ox_id f.ox_id (id-e ∙ sym id-f)))
ids_apart x e f d h false k = refl

empty_id : (x : ℕ) → has_id x empty_exchange ≡ false
unfolding has_id
empty_id x = refl

-- the login of an address stands where a login has it
pub seat_found : (u : Unit) (p : Port) → well_formed u p ≡ true → (a i : ℕ) → has_address a (login_at p i) ≡ true → find_login p a ≡ Some i
unfolding find_login login_at
seat_found u p w a i has = only_found empty_login (has_address a) apart_login (empty_has a) (apart_has a) p.logins i (formed_parts w).distinct has

module _ (u : Unit) (p : Port) (w : well_formed u p ≡ true) (a x i j : ℕ) (has : has_address a (login_at p i) ≡ true) (id : has_id x (exchange_at (login_at p i) j) ≡ true) where
  login_in_lem : i < length p.logins
  unfolding login_at
  login_in_lem = inside empty_login (has_address a) apart_login (empty_has a) (apart_has a) p.logins i has

  login_used : is_used (login_at p i) ≡ true
  unfolding has_address
  login_used = and_left (is_used (login_at p i)) (eqb (login_at p i).address a) has

  login_fine_lem : login_fine u p.address (login_at p i) ≡ true
  unfolding login_at
  login_fine_lem = all_at (login_fine u p.address) empty_login p.logins i login_in_lem (formed_parts w).logins

  place_found : find_exchange (login_at p i) x ≡ Some j
  unfolding find_exchange exchange_at
  place_found = only_found empty_exchange (has_id x) apart_id (empty_id x) (ids_apart x) (login_at p i).places j (fine_used login_used login_fine_lem).ids id

  pub stands_there : lookup_of p a x ≡ Open i j
  unfolding lookup_of login_of
  stands_there = rw (seat_found u p w a i has, place_found)
