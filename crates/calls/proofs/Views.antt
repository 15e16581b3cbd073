-- What a call sees of a unit and a port, where the port's logins are fine, is what is found in the port's tables. Assumes nothing.
use Rattle.std.specs.Prelude.{Option, Some, None}
use Prim.Native.Nat.{ℕ, ◌<◌}
use mathlib.Core.Path.{◌≡◌, refl, ap, ◌∙◌}
use mathlib.Core.Bool.{true}
use Rattle.tables.specs.Lists.{all, on_found}
use Rattle.state.specs.declared.Port.{Port}
use Rattle.state.specs.declared.Unit.{Unit}
use Rattle.state.specs.declared.Change.TheVariants.{EndHost}
use Rattle.state.specs.Standing.{Open, NoExchange}
use Rattle.state.specs.Changes.{empty_login, own_of, login_at, changed_all}
use Rattle.state.specs.Tables.{has_id, find_login, free_login, find_exchange, login_in, login_of, standing_in, lookup_of, place_in, sought_in}
use Rattle.formed.specs.Formed.{login_fine, well_formed}
use Rattle.formed.specs.Keys.{keys_of}
use Rattle.formed.proofs.Keys.{fine_by_lem}
use Rattle.calls.specs.View.{seat_of, place_for, view_from, view_of}
use Rattle.calls.specs.Turn.{AtBelow}
use Rattle.calls.proofs.Seats.{seat_is, place_is}

-- a place that is told, by its equation
pub below_from : (f : Option ℕ) → ((i : ℕ) → f ≡ Some i → i < 8) → AtBelow f
below_from (Some i) h = h i refl
below_from None h = tt

-- the one lookup finds an exchange where it stands at the login of the address, an empty one where it has none
pub sought_is : (p : Port) (a x : ℕ) → sought_in p a x ≡ find_exchange (login_of p a) x
unfolding lookup_of login_of find_exchange has_id
sought_is p a x = step (find_login p a)
  where
    placed : (i : ℕ) (f : Option ℕ) → place_in (on_found f (λ j. Open i j) (NoExchange i)) ≡ f
    placed i (Some j) = refl
    placed i None = refl

    step : (f : Option ℕ) → place_in (standing_in f (find_exchange (login_in p f) x)) ≡ find_exchange (login_in p f) x
    step (Some i) = placed i (find_exchange (login_at p i) x)
    step None = refl

module _ (u : Unit) (p : Port) (a : ℕ) where
  pub view_unit : (view_of u p a).unit ≡ u
  unfolding view_of view_from
  view_unit = refl

  pub view_own : (view_of u p a).own ≡ own_of p
  unfolding view_of view_from
  view_own = refl

  pub view_keys : (view_of u p a).keys ≡ keys_of u p
  unfolding view_of view_from
  view_keys = refl

  -- what is seen is well formed exactly when the state is
  pub view_fine : (view_of u p a).fine ≡ well_formed u p
  unfolding view_of view_from
  view_fine = fine_by_lem u p

  module _ (fine : all (login_fine u p.address) p.logins ≡ true) where
    -- the seat is the place of the caller's login
    pub view_seat : (view_of u p a).seat ≡ find_login p a
    unfolding view_of view_from keys_of find_login
    view_seat = seat_is u p.address p.logins fine a

    -- the login is the caller's, an empty one where it has none
    pub view_is : (view_of u p a).login ≡ login_of p a
    unfolding view_of view_from login_of
    view_is = step (seat_of (keys_of u p) a) ∙ ap (login_in p) view_seat
      where
        step : (f : Option ℕ) → on_found f (λ _. login_in p f) empty_login ≡ login_in p f
        step (Some i) = refl
        step None = refl

    pub view_login : (i : ℕ) → find_login p a ≡ Some i → (view_of u p a).login ≡ login_at p i
    unfolding login_of
    view_login i e = view_is ∙ ap (login_in p) e

    -- the lowest place for a new login of the caller is the lowest that is free once its old one has ended, and that of its port name
    pub view_place : (n : ℕ) → place_for (view_of u p a).keys a n ≡ free_login (changed_all (EndHost a n) p)
    unfolding view_of view_from keys_of free_login changed_all
    view_place n = place_is u p.address p.logins fine a n

    -- the standing of an exchange is told by the seat and by what is found at the login that is seen
    pub lookup_seen : (x : ℕ) → lookup_of p a x ≡ standing_in (view_of u p a).seat (find_exchange (view_of u p a).login x)
    unfolding lookup_of
    lookup_seen x = rw (view_seat, view_is)

    -- and so is its place there
    pub sought_seen : (x : ℕ) → sought_in p a x ≡ find_exchange (view_of u p a).login x
    sought_seen x = rw view_is (sought_is p a x)
