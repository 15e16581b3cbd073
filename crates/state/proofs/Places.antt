-- What the places of an open exchange tell of the tables, and what a change at these places leaves. Assumes nothing.
use Rattle.std.proofs.Common.{◌≡◌, ℕ, ◌<◌, true, false, not, eqb, length, get_or, sym, refl, ap, ◌∙◌, get_or-set_other, get_or-set_same, set-set, Option, Some, None}
use borrow.Author.Tests.{not-true}
use Rattle.tables.specs.Lists.{on_found}
use Rattle.tables.proofs.Bools.{and_left}
use Rattle.tables.proofs.Searches.{found_below, found_passes, same_found}
use Rattle.state.specs.declared.Exchange.{Exchange}
use Rattle.state.specs.declared.Login.{Login}
use Rattle.state.specs.declared.Port.{Port}
use Rattle.state.specs.Standing.{Open, NoExchange}
use Rattle.state.specs.Changes.{empty_exchange, empty_login, is_used, has_address, login_at, exchange_at, with_login, with_exchange, is_closed}
use Rattle.state.specs.Tables.{has_id, find_login, find_exchange, login_in, login_of, standing_in, lookup_of}

inner_place : (k i j : ℕ) (g : Option ℕ) → on_found g (λ n. Open k n) (NoExchange k) ≡ Open i j → (k ≡ i) × (g ≡ Some j)
inner_place k i j (Some n) e = ((cc), ap Some (cc))
inner_place k i j None e = absurd (cc)

outer_place : (p : Port) (x i j : ℕ) (g : Option ℕ) → standing_in g (find_exchange (login_in p g) x) ≡ Open i j → (g ≡ Some i) × (find_exchange (login_at p i) x ≡ Some j)
outer_place p x i j (Some k) e =
    let h = inner_place k i j (find_exchange (login_at p k) x) e in
    (ap Some h.0, ap (λ (m : ℕ). find_exchange (login_at p m) x) (sym h.0) ∙ h.1)
outer_place p x i j None e = absurd (cc)

-- the login that is found is used and has the address
pub found_has : (p : Port) (a i : ℕ) → find_login p a ≡ Some i → has_address a (login_at p i) ≡ true
unfolding find_login login_at
found_has p a i e = found_passes empty_login (has_address a) p.logins e

pub found_used : (p : Port) (a i : ℕ) → find_login p a ≡ Some i → is_used (login_at p i) ≡ true
unfolding has_address
found_used p a i e = and_left (is_used (login_at p i)) (eqb (login_at p i).address a) (found_has p a i e)

-- a login stored at a place of the table stands there
pub stored_at : (p : Port) (i : ℕ) (m : Login) → i < length p.logins → login_at (with_login p i m) i ≡ m
unfolding login_at with_login
stored_at p i m below = get_or-set_same p.logins i m empty_login below

module _ (p : Port) (a x i j : ℕ) (e : lookup_of p a x ≡ Open i j) where
  -- an open exchange stands at the login of its address
  pub open_place : find_login p a ≡ Some i
  unfolding lookup_of login_of
  open_place = (outer_place p x i j (find_login p a) e).0

  pub open_exchange : find_exchange (login_at p i) x ≡ Some j
  unfolding lookup_of login_of
  open_exchange = (outer_place p x i j (find_login p a) e).1

  -- both places are of their tables
  pub login_inside : i < length p.logins
  unfolding find_login
  login_inside = found_below empty_login (has_address a) p.logins open_place

  pub exchange_inside : j < length (login_at p i).places
  unfolding find_exchange
  exchange_inside = found_below empty_exchange (has_id x) (login_at p i).places open_exchange

  pub open_used : is_used (login_at p i) ≡ true
  open_used = found_used p a i open_place

  -- it has the OX_ID
  pub open_has : has_id x (exchange_at (login_at p i) j) ≡ true
  unfolding find_exchange exchange_at
  open_has = found_passes empty_exchange (has_id x) (login_at p i).places open_exchange

  -- and is open
  pub open_open : is_closed (exchange_at (login_at p i) j) ≡ false
  unfolding has_id
  open_open =
      let f = exchange_at (login_at p i) j in
      not-true (is_closed f) (and_left (not (is_closed f)) (eqb f.ox_id x) open_has)

  -- after a change of the exchange it stands at its place
  pub exchange_stored : (f : Exchange) → exchange_at (login_at (with_login p i (with_exchange (login_at p i) j f)) i) j ≡ f
  unfolding exchange_at with_exchange
  exchange_stored f =
      ap (λ m. get_or m.places j empty_exchange) (stored_at p i (with_exchange (login_at p i) j f) login_inside) ∙ get_or-set_same (login_at p i).places j f empty_exchange exchange_inside

  pub login_stored : (m : Login) → login_at (with_login p i m) i ≡ m
  login_stored m = stored_at p i m login_inside

  found_again : (f : Exchange) → find_login (with_login p i (with_exchange (login_at p i) j f)) a ≡ Some i
  unfolding find_login with_login with_exchange login_at has_address
  found_again f = same_found empty_login (has_address a) p.logins i (with_exchange (login_at p i) j f) refl ∙ open_place

  exchange_again : (f : Exchange) → has_id x f ≡ true → find_exchange (with_exchange (login_at p i) j f) x ≡ Some j
  unfolding find_exchange with_exchange exchange_at
  exchange_again f h = same_found empty_exchange (has_id x) (login_at p i).places j f (h ∙ sym open_has) ∙ open_exchange

  -- an exchange of the same OX_ID, open too, is found at the same places
  pub lookup_same : (f : Exchange) → has_id x f ≡ true → lookup_of (with_login p i (with_exchange (login_at p i) j f)) a x ≡ Open i j
  unfolding lookup_of login_of
  lookup_same f h = rw (found_again f, login_stored (with_exchange (login_at p i) j f), exchange_again f h)

-- of two changes at a place the later stands
pub login_twice : (p : Port) (i : ℕ) (l m : Login) → with_login (with_login p i l) i m ≡ with_login p i m
unfolding with_login
login_twice p i l m = rw (set-set p.logins i l m)

pub exchange_twice : (l : Login) (j : ℕ) (e f : Exchange) → with_exchange (with_exchange l j e) j f ≡ with_exchange l j f
unfolding with_exchange
exchange_twice l j e f = rw (set-set l.places j e f)

-- a change at a place leaves the others
pub login_other : (p : Port) (i m : ℕ) (l : Login) → (m ≡ i → ⊥) → login_at (with_login p i l) m ≡ login_at p m
unfolding login_at with_login
login_other p i m l h = get_or-set_other p.logins i m l empty_login h

pub exchange_other : (l : Login) (j m : ℕ) (e : Exchange) → (m ≡ j → ⊥) → exchange_at (with_exchange l j e) m ≡ exchange_at l m
unfolding exchange_at with_exchange
exchange_other l j m e h = get_or-set_other l.places j m e empty_exchange h
