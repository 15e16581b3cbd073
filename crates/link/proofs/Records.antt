-- What each change of the table of logins makes of the record of an address. Assumes nothing.
use Rattle.std.specs.Prelude.{Option, Some, None}
use Prim.Native.Nat.{ℕ, zero, suc, ◌+◌, ◌<◌}
use mathlib.Core.Path.{◌≡◌, refl, sym, ap, ◌∙◌}
use mathlib.Core.Bool.{Bool, true, false, cond, not, ◌||◌}
use mathlib.Core.List.{List, [], ◌∷◌}
use native.Mathlib.Omega.{arith}
use native.Mathlib.Nat.{add-zero}
use lib.Dec.{eqb}
use lib.ListN.{length, get_or, set}
use borrow.Author.Tests.{not-true}
use Rattle.tables.specs.Lists.{first_from, on_found, all, pairs}
use Rattle.tables.proofs.Bools.{and_left, and_right, or_left}
use Rattle.tables.proofs.Searches.{found_below, found_passes, found_lowest, missed}
use Rattle.tables.proofs.Keeping.{all_at}
use Rattle.state.specs.declared.Login.{Login}
use Rattle.state.specs.declared.Port.{Port}
use Rattle.state.specs.declared.Change.{Change}
use Rattle.state.specs.declared.Change.TheVariants.{Keep, EndAll, EndLogin, EndHost, Unprove, EndUnproven, EndExchangesOf, Reset, Clear}
use Rattle.state.specs.Changes.{empty_login, is_used, has_address, has_name, is_host, login_at, with_login, with_proven, without_exchanges, freed_of, ended_of, host_ended, unproven, verified, aborted_of, reset_of, loses_to, cleared_by, changed_of, changed_all}
use Rattle.state.specs.Tables.{is_free, find_login, free_login, login_in, login_of}
use Rattle.state.proofs.Places.{found_has, found_used, stored_at}
use Rattle.formed.specs.Formed.{apart_login}
use Rattle.calls.specs.declared.Turn.{Turn}
use Rattle.calls.specs.Turn.{port_after}
use Rattle.calls.specs.Others.{Another, Leaves}
use Rattle.calls.proofs.Others.{empty_has, other_has, apart_has, changed_sees, others_see}
use Rattle.link.specs.Record.{Record, out, held, record_at, record_of, doubted}

-- what "verification time over ends the unproven ones" makes of a record
abbrev pub expired : Record → Record
expired out = out
expired (held p true k) = held p true k
expired (held p false k) = out

-- the record that a login is, `out` where it is none
abbrev pub record_in : Login → Record
record_in l = cond (is_used l) (record_at l) out

-- no login of an address: exactly when its record is `out`
pub out_missing : (p : Port) (a : ℕ) → record_of p a ≡ out → find_login p a ≡ None
unfolding record_of
out_missing p a e = step (find_login p a) e
  where
    step : (x : Option ℕ) → on_found x (λ i. record_at (login_at p i)) out ≡ out → x ≡ None
    step (Some i) h = let z : ◌≡◌ {A = ℕ} 0 1 = cc in absurd (omega arith)
    step None h = refl

pub missing_out : (p : Port) (a : ℕ) → find_login p a ≡ None → record_of p a ≡ out
unfolding record_of
missing_out p a e = rw e

-- the record of a login that is found is what the login says
pub found_record : (p : Port) (a i : ℕ) → find_login p a ≡ Some i → record_of p a ≡ record_at (login_at p i)
unfolding record_of
found_record p a i e = rw e

-- the record of an address is that of its login, which has the address or is none
module _ (p : Port) (a : ℕ) where
  pub record_is : record_of p a ≡ record_in (login_of p a)
  unfolding record_of login_of
  record_is = by (find_login p a) refl
    where
      by : (f : Option ℕ) → find_login p a ≡ f → on_found f (λ i. record_at (login_at p i)) out ≡ record_in (login_in p f)
      by (Some i) e = rw (found_used p a i e)
      by None e = refl

  pub login_has : has_address a (login_of p a) ≡ is_used (login_of p a)
  unfolding login_of
  login_has = by (find_login p a) refl
    where
      by : (f : Option ℕ) → find_login p a ≡ f → has_address a (login_in p f) ≡ is_used (login_in p f)
      by (Some i) e = found_has p a i e ∙ sym (found_used p a i e)
      by None e = empty_has a

-- one passes, and it is not the second
or_other : (a b : Bool) → (a || b) ≡ true → b ≡ false → a ≡ true
or_other true b e f = refl
or_other false b e f = sym f ∙ e

-- what each change makes of the record of a login
module _ (l : Login) where
  freed_in : record_in (freed_of l) ≡ out
  unfolding freed_of
  freed_in = by (is_used l) refl
    where
      by : (b : Bool) → is_used l ≡ b → record_in (cond b empty_login l) ≡ out
      by true e = refl
      by false e = rw e

  unproven_in_lem : record_in (unproven l) ≡ doubted (record_in l)
  unfolding unproven
  unproven_in_lem = by (is_used l) refl
    where
      by : (b : Bool) → is_used l ≡ b → record_in (cond b (with_proven l 0) l) ≡ doubted (record_in l)
      by true e = rw e
      by false e = rw e

  verified_in : record_in (verified l) ≡ expired (record_in l)
  unfolding verified
  verified_in = by (is_used l) (eqb l.proven 1) refl refl
    where
      by : (b v : Bool) → is_used l ≡ b → eqb l.proven 1 ≡ v → record_in (cond b (cond v l empty_login) l) ≡ expired (record_in l)
      by true true e h = rw (e, h)
      by true false e h = rw (e, h)
      by false v e h = rw e

  either_in : (b : Bool) (m k : Login) → record_in m ≡ record_in l → record_in k ≡ record_in l → record_in (cond b m k) ≡ record_in l
  either_in true m k x y = x
  either_in false m k x y = y

  -- a login that ends where it is one, and where it is none
  gone_in : (b : Bool) → (b ≡ false → is_used l ≡ false) → record_in (cond b empty_login l) ≡ out
  gone_in true h = refl
  gone_in false h = rw (h refl)

  left_alone : (b : Bool) → (b ≡ true → is_used l ≡ false) → record_in (cond b empty_login l) ≡ record_in l
  left_alone true h = rw (h refl)
  left_alone false h = refl

  module _ (a : ℕ) (own : has_address a l ≡ is_used l) where
    ended_in : record_in (ended_of a l) ≡ out
    unfolding ended_of
    ended_in = gone_in (has_address a l) (λ e. sym own ∙ e)

    host_in : (n : ℕ) → record_in (host_ended a n l) ≡ out
    unfolding host_ended
    host_in n = gone_in (is_host a n l) (λ e. sym own ∙ or_left (has_address a l) (has_name n l) e)

    -- another's address is not this login's
    other_free : (b : ℕ) → (a ≡ b → ⊥) → has_address b l ≡ true → is_used l ≡ false
    other_free b n e = sym own ∙ other_has a b l n e

    ended_other : (b : ℕ) → (a ≡ b → ⊥) → record_in (ended_of b l) ≡ record_in l
    unfolding ended_of
    ended_other b n = left_alone (has_address b l) (other_free b n)

    host_other : (b m : ℕ) → (a ≡ b → ⊥) × (has_name m l ≡ false) → record_in (host_ended b m l) ≡ record_in l
    unfolding host_ended
    host_other b m (n, k) = left_alone (is_host b m l) (λ e. other_free b n (or_other (has_address b l) (has_name m l) e k))

-- a change that leaves a login leaves its record: exchanges and attention are no part of it
left_in : (a : ℕ) (l : Login) → has_address a l ≡ is_used l → (c : Change) → Leaves a l c → record_in (changed_of c l) ≡ record_in l
unfolding aborted_of reset_of cleared_by without_exchanges
left_in a l own Keep h = refl
left_in a l own EndAll h = absurd h
left_in a l own (EndLogin b) h = ended_other l a own b h
left_in a l own (EndHost b n) h = host_other l a own b n h
left_in a l own Unprove h = absurd h
left_in a l own EndUnproven h = absurd h
left_in a l own (EndExchangesOf b) h = either_in l (has_address b l) _ _ refl refl
left_in a l own Reset h = either_in l (is_used l) _ _ refl refl
left_in a l own (Clear b) h = either_in l (is_used l) _ _ (either_in l (loses_to b l) _ _ refl refl) refl

-- changes of every login, where the addresses are distinct
module _ (p : Port) (d : pairs apart_login p.logins ≡ true) where
  changed_record : (c : Change) (a : ℕ) → record_of (changed_all c p) a ≡ record_in (changed_of c (login_of p a))
  changed_record c a = record_is (changed_all c p) a ∙ ap record_in (changed_sees p d c a)

  -- "power on ends all": every record is `out`
  pub power_record : (a : ℕ) → record_of (changed_all EndAll p) a ≡ out
  power_record a = changed_record EndAll a ∙ freed_in (login_of p a)

  -- the login of an address ends: its record is `out`
  pub end_record : (a : ℕ) → record_of (changed_all (EndLogin a) p) a ≡ out
  end_record a = changed_record (EndLogin a) a ∙ ended_in (login_of p a) a (login_has p a)

  -- the logins of an address and of a port name end: the record of the address is `out`
  pub host_record : (a n : ℕ) → record_of (changed_all (EndHost a n) p) a ≡ out
  host_record a n = changed_record (EndHost a n) a ∙ host_in (login_of p a) a (login_has p a) n

  -- loop reset: every record is the old one, unproven
  pub reset_record : (a : ℕ) → record_of (changed_all Unprove p) a ≡ doubted (record_of p a)
  reset_record a = changed_record Unprove a ∙ unproven_in_lem (login_of p a) ∙ ap doubted (sym (record_is p a))

  -- verification time over: a proven record stays, any other is `out`
  pub over_record : (a : ℕ) → record_of (changed_all EndUnproven p) a ≡ expired (record_of p a)
  over_record a = changed_record EndUnproven a ∙ verified_in (login_of p a) ∙ ap expired (sym (record_is p a))

  -- after any turn of another sender whose change leaves it: the record is the old one
  pub others_record : (t : Turn) (a : ℕ) → Another (changed_all t.change p) a t.at t.login → Leaves a (login_of p a) t.change → record_of (port_after p t) a ≡ record_of p a
  others_record t a o h = record_is (port_after p t) a ∙ ap record_in (others_see p d t a o) ∙ left_in a (login_of p a) (login_has p a) t.change h ∙ sym (record_is p a)

-- a login of an address, stored where none before it has the address, is the first that has it
first_set : (a : ℕ) (ls : List Login) (k i : ℕ) (l : Login) → i < length ls → ((j : ℕ) → j < i → has_address a (get_or ls j empty_login) ≡ false) → has_address a l ≡ true
    → first_from (has_address a) k (set ls i l) ≡ Some (k + i)
first_set a [] k i l h none t = absurd (omega arith)
first_set a (m ∷ ls) k zero l h none t = rw t (ap Some (sym (add-zero k)))
first_set a (m ∷ ls) k (suc i) l h none t =
    rw (none 0 (omega arith)) (first_set a ls (suc k) i l (omega arith) (λ j q. none (suc j) (omega arith)) t ∙ ap Some (let e : suc k + i ≡ k + suc i = omega arith in e))

module _ (p : Port) (a i : ℕ) (l : Login) (below : i < length p.logins) (none : (j : ℕ) → j < i → has_address a (get_or p.logins j empty_login) ≡ false) (h : has_address a l ≡ true) where
  found_put : find_login (with_login p i l) a ≡ Some i
  unfolding find_login with_login
  found_put = first_set a p.logins 0 i l below none h ∙ ap Some (let e : 0 + i ≡ i = omega arith in e)

  put_record : record_of (with_login p i l) a ≡ record_at l
  put_record = found_record (with_login p i l) a i found_put ∙ ap record_at (stored_at p i l below)

-- no login behind one of an address has it, where the addresses are distinct; so none has it once that one ends
none_behind : (a : ℕ) (l : Login) (ls : List Login) (k : ℕ) → has_address a l ≡ true → all (apart_login l) ls ≡ true → first_from (has_address a) k ls ≡ None
none_behind a l [] k h d = refl
none_behind a l (m ∷ ls) k h d =
    rw (apart_has a l m (and_left (apart_login l m) (all (apart_login l) ls) d) h (has_address a m) refl)
    (none_behind a l ls (suc k) h (and_right (apart_login l m) (all (apart_login l) ls) d))

first_gone : (a : ℕ) (ls : List Login) (k i : ℕ) → pairs apart_login ls ≡ true → i < length ls → has_address a (get_or ls i empty_login) ≡ true
    → first_from (has_address a) k (set ls i empty_login) ≡ None
first_gone a [] k i d h t = refl
first_gone a (m ∷ ls) k zero d h t = rw (empty_has a) (none_behind a m ls (suc k) t (and_left (all (apart_login m) ls) (pairs apart_login ls) d))
first_gone a (m ∷ ls) k (suc i) d h t =
    rw (only (has_address a m) refl) (first_gone a ls (suc k) i (and_right (all (apart_login m) ls) (pairs apart_login ls) d) (omega arith) t)
  where
    only : (b : Bool) → has_address a m ≡ b → b ≡ false
    only true e =
        sym t
        ∙ apart_has a m (get_or ls i empty_login) (all_at (apart_login m) empty_login ls i (omega arith) (and_left (all (apart_login m) ls) (pairs apart_login ls) d)) e (has_address a (get_or ls i empty_login)) refl
    only false e = refl

-- what is stored where the login of address a stood
module _ (p : Port) (a i : ℕ) (at : find_login p a ≡ Some i) where
  inside : i < length p.logins
  unfolding find_login
  inside = found_below empty_login (has_address a) p.logins at

  -- a login of that address: the record of a is what it says
  pub store_record : (l : Login) → has_address a l ≡ true → record_of (with_login p i l) a ≡ record_at l
  unfolding find_login
  store_record l h = put_record p a i l inside (found_lowest empty_login (has_address a) p.logins at) h

  -- none: the record of a is `out`
  pub drop_record : pairs apart_login p.logins ≡ true → record_of (with_login p i empty_login) a ≡ out
  unfolding find_login with_login
  drop_record d = missing_out (with_login p i empty_login) a (first_gone a p.logins 0 i d inside (found_passes empty_login (has_address a) p.logins at))

-- a login of address a, stored in the lowest free place where no login has that address: the record of a is what it says
pub place_record : (p : Port) (a i : ℕ) (l : Login) → free_login p ≡ Some i → has_address a l ≡ true → record_of p a ≡ out → record_of (with_login p i l) a ≡ record_at l
unfolding find_login free_login
place_record p a i l at h none =
    let below : i < length p.logins = found_below empty_login is_free p.logins at in
    put_record p a i l below (λ j k. absent j (omega arith)) h
  where
    absent : (j : ℕ) → j < length p.logins → has_address a (get_or p.logins j empty_login) ≡ false
    absent j k = not-true (has_address a (get_or p.logins j empty_login)) (all_at (λ m. not (has_address a m)) empty_login p.logins j k (missed (has_address a) p.logins (out_missing p a none)))
