-- What is found by the keys of logins that are fine is what is found in the table. Assumes nothing.
use Rattle.std.specs.Prelude.{Option, Some}
use Rattle.std.proofs.lemmas.List.{get_or_default, get_or_past}
use Prim.Native.Nat.{ℕ, suc, ◌+◌, ◌<◌, ◌≤◌}
use mathlib.Core.Path.{◌≡◌, refl, sym, ◌∙◌}
use mathlib.Core.List.{List, [], ◌∷◌, map}
use mathlib.Core.Bool.{Bool, true, false, cond, ◌&&◌, ◌||◌}
use lib.Dec.{eqb}
use lib.ListN.{length, get_or}
use Rattle.tables.specs.Lists.{first_from, first, all}
use Rattle.tables.proofs.Bools.{and_left, and_right}
use Rattle.state.specs.declared.Login.{Login}
use Rattle.state.specs.declared.Port.{Port}
use Rattle.state.specs.declared.Unit.{Unit}
use Rattle.state.specs.Changes.{no_login, empty_login, is_used, has_address, has_name, login_at, host_ended}
use Rattle.state.specs.Tables.{is_free, login_in}
use Rattle.formed.specs.Formed.{login_fine}
use Rattle.formed.specs.Keys.{key_of, key_named, login_key}
use Rattle.formed.proofs.Keys.{two_more, used_free, free_used, key_name}
use Rattle.calls.specs.View.{is_any, find_any, seat_of, place_for}

-- a search in what f makes of a list whose elements are all fine
module _ {A B : Type 0} (fine q : A → Bool) (p : B → Bool) (f : A → B) (same : (x : A) → fine x ≡ true → p (f x) ≡ q x) where
  mapped_from : (i : ℕ) (xs : List A) → all fine xs ≡ true → first_from p i (map f xs) ≡ first_from q i xs
  mapped_from i [] e = refl
  mapped_from i (x ∷ xs) e = rw (same x (and_left (fine x) (all fine xs) e), mapped_from (suc i) xs (and_right (fine x) (all fine xs) e))

  pub first_map : (xs : List A) → all fine xs ≡ true → first p (map f xs) ≡ first q xs
  first_map xs e = mapped_from 0 xs e

module _ (u : Unit) (own a : ℕ) (l : Login) (fine : login_fine u own l ≡ true) where
  -- a key's number is that of an address exactly when its login has it
  pub key_address : eqb (login_key u own l).id (2 + a) ≡ has_address a l
  unfolding login_key key_of has_address
  key_address = by (is_used l) refl
    where
      by : (b : Bool) → is_used l ≡ b → eqb (cond (login_fine u own l) (cond (is_free l) 1 (2 + l.address)) 0) (2 + a) ≡ (is_used l && eqb l.address a)
      by true h = rw (fine, h, two_more l.address a)
      by false h = rw (fine, h, free_used a)

  -- and that of a free place exactly when it is free
  key_free : eqb (login_key u own l).id 1 ≡ is_free l
  unfolding login_key key_of
  key_free = by (is_used l) refl
    where
      by : (b : Bool) → is_used l ≡ b → eqb (cond (login_fine u own l) (cond (is_free l) 1 (2 + l.address)) 0) 1 ≡ is_free l
      by true h = rw (fine, h, used_free l.address)
      by false h = rw (fine, h)

  -- the key of the address is that of its login
  key_seat : is_any (2 + a) (2 + a) 0 (login_key u own l) ≡ has_address a l
  unfolding key_named
  key_seat = rw key_address (twice (has_address a l))
    where
      twice : (b : Bool) → (b || b || false) ≡ b
      twice true = refl
      twice false = refl

  -- that key, that of the port name, or a free place's is that of a place that is free once both logins have ended
  key_place : (n : ℕ) → is_any 1 (2 + a) n (login_key u own l) ≡ is_free (host_ended a n l)
  unfolding host_ended
  key_place n = rw (key_free, key_address, key_name u own n l fine) (gone (is_free l) (has_address a l) (has_name n l) refl)
    where
      gone : (f b c : Bool) → is_free l ≡ f → (f || b || c) ≡ is_free (cond (b || c) empty_login l)
      gone true true c h = refl
      gone true false true h = refl
      gone true false false h = sym h
      gone false true c h = refl
      gone false false true h = refl
      gone false false false h = sym h

module _ (u : Unit) (own : ℕ) (ls : List Login) (fine : all (login_fine u own) ls ≡ true) (a : ℕ) where
  -- the login of an address is found by the keys
  pub seat_is : seat_of (map (login_key u own) ls) a ≡ first (has_address a) ls
  unfolding seat_of find_any
  seat_is = first_map (login_fine u own) (has_address a) (is_any (2 + a) (2 + a) 0) (login_key u own) (λ l e. key_seat u own a l e) ls fine

  -- and so is the lowest place that is free once the logins of the address and of a port name have ended
  pub place_is : (n : ℕ) → place_for (map (login_key u own) ls) a n ≡ first is_free (map (host_ended a n) ls)
  unfolding place_for find_any
  place_is n =
      first_map (login_fine u own) (λ l. is_free (host_ended a n l)) (is_any 1 (2 + a) n) (login_key u own) (λ l e. key_place u own a l e n) ls fine
      ∙ sym (first_map (login_fine u own) (λ l. is_free (host_ended a n l)) is_free (host_ended a n) (λ l e. refl) ls fine)

-- the login at a seat, by whether its place is one of the table
module _ (p : Port) (seat : Option ℕ) {i : ℕ} (e : seat ≡ Some i) where
  pub login_here : i < length p.logins → get_or p.logins i no_login ≡ login_in p seat
  unfolding login_at
  login_here h = rw e (get_or_default p.logins i no_login empty_login h)

  pub login_past : length p.logins ≤ i → empty_login ≡ login_in p seat
  unfolding login_at
  login_past h = rw e (sym (get_or_past p.logins i empty_login h))
