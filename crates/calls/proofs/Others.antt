-- After any turn of another sender the login of an address is what the turn's change of every login makes of it. Assumes nothing.
use Rattle.std.specs.Prelude.{Option, Some, None}
use Prim.Native.Nat.{ℕ, zero, suc, ◌+◌}
use mathlib.Core.Path.{◌≡◌, refl, sym, ap, ◌∙◌}
use mathlib.Core.Bool.{Bool, true, false, cond, ◌&&◌}
use mathlib.Core.List.{List, [], ◌∷◌, map}
use native.Mathlib.Omega.{arith}
use native.Mathlib.Nat.{add-zero}
use lib.Dec.{eqb}
use lib.ListN.{get_or, set, get_or-map}
use borrow.Author.Tests.{eqb-true, eq-eqb, ne_eqb, not-true}
use Rattle.tables.specs.Lists.{first_from, on_found, all, pairs}
use Rattle.tables.proofs.Bools.{and_left, and_right, apart}
use Rattle.tables.proofs.Searches.{found_passes}
use Rattle.state.specs.declared.Login.{Login}
use Rattle.state.specs.declared.Port.{Port}
use Rattle.state.specs.declared.Change.{Change}
use Rattle.state.specs.declared.Change.TheVariants.{Keep, EndAll, EndLogin, EndHost, Unprove, EndUnproven, EndExchangesOf, Reset, Clear}
use Rattle.state.specs.Changes.{empty_login, is_used, has_address, has_name, login_at, with_login, freed_of, ended_of, host_ended, unproven, verified, aborted_of, reset_of, cleared_by, changed_of, changed_all}
use Rattle.state.specs.Tables.{is_free, find_login, free_login, login_of}
use Rattle.state.proofs.Places.{found_has}
use Rattle.formed.specs.Formed.{apart_login}
use Rattle.formed.proofs.Keeping.{Like, same, gone, like}
use Rattle.calls.specs.declared.Turn.{Turn}
use Rattle.calls.specs.Turn.{stored_at, port_after}
use Rattle.calls.specs.Others.{Another}

-- the login of an address, down the list: the first that has it, an empty one where none has
abbrev seen : ℕ → List Login → Login
seen a [] = empty_login
seen a (l ∷ ls) = cond (has_address a l) l (seen a ls)

seen_step : (a : ℕ) (l : Login) (ls : List Login) (k : ℕ) (g : ℕ → Login) (b : Bool) → g k ≡ l → on_found (first_from (has_address a) (suc k) ls) g empty_login ≡ seen a ls
    → on_found (cond b (Some k) (first_from (has_address a) (suc k) ls)) g empty_login ≡ cond b l (seen a ls)
seen_step a l ls k g true e more = e
seen_step a l ls k g false e more = more

seen_from : (a : ℕ) (ls : List Login) (k : ℕ) (g : ℕ → Login) → ((j : ℕ) → g (k + j) ≡ get_or ls j empty_login) → on_found (first_from (has_address a) k ls) g empty_login ≡ seen a ls
seen_from a [] k g h = refl
seen_from a (l ∷ ls) k g h =
    seen_step a l ls k g (has_address a l) (ap g (sym (add-zero k)) ∙ h 0)
    (seen_from a ls (suc k) g (λ j. ap g (let e : suc k + j ≡ k + suc j = omega arith in e) ∙ h (suc j)))

is_seen : (p : Port) (a : ℕ) → login_of p a ≡ seen a p.logins
unfolding login_of find_login login_at
is_seen p a = seen_from a p.logins 0 (λ i. get_or p.logins i empty_login) (λ j. ap (λ k. get_or p.logins k empty_login) (let e : 0 + j ≡ j = omega arith in e))

-- no free login has an address, and no login has two
pub free_has : (a : ℕ) (l : Login) → is_used l ≡ false → has_address a l ≡ false
unfolding has_address
free_has a l u = rw u

pub empty_has : (a : ℕ) → has_address a empty_login ≡ false
unfolding has_address
empty_has a = refl

has_used : (a : ℕ) (l : Login) → has_address a l ≡ true → is_used l ≡ true
unfolding has_address
has_used a l h = and_left (is_used l) (eqb l.address a) h

has_its : (a : ℕ) (l : Login) → has_address a l ≡ true → l.address ≡ a
unfolding has_address
has_its a l h = eqb-true l.address a (and_right (is_used l) (eqb l.address a) h)

pub other_has : (a b : ℕ) (l : Login) → (a ≡ b → ⊥) → has_address b l ≡ true → has_address a l ≡ false
unfolding has_address
other_has a b l n h = rw (ne_eqb l.address a (λ e. n (sym e ∙ has_its b l h))) (never (is_used l))
  where
    never : (x : Bool) → (x && false) ≡ false
    never true = refl
    never false = refl

same_has : (a : ℕ) (l m : Login) → is_used m ≡ is_used l → m.address ≡ l.address → has_address a m ≡ has_address a l
unfolding has_address
same_has a l m u d = rw (u, d)

like_has : (a : ℕ) {l m : Login} → Like l m → has_address a l ≡ false → has_address a m ≡ false
like_has a {l} {m} (same u d n) h = same_has a l m u d ∙ h
like_has a gone h = empty_has a

-- of two logins that are apart one at most has an address
pub apart_has : (a : ℕ) (l m : Login) → apart_login l m ≡ true → has_address a l ≡ true → (b : Bool) → has_address a m ≡ b → b ≡ false
unfolding apart_login
apart_has a l m d h true k = apart d (rw (has_used a l h, has_used a m k, eq-eqb l.address m.address (has_its a l h ∙ sym (has_its a m k))))
apart_has a l m d h false k = refl

-- no login behind one of this address has it
alone : (a : ℕ) (l : Login) (ls : List Login) → has_address a l ≡ true → all (apart_login l) ls ≡ true → seen a ls ≡ empty_login
alone a l [] h d = refl
alone a l (m ∷ ls) h d =
    rw (apart_has a l m (and_left (apart_login l m) (all (apart_login l) ls) d) h (has_address a m) refl)
    (alone a l ls h (and_right (apart_login l m) (all (apart_login l) ls) d))

-- no change makes a login of a free place
pub empty_changed : (c : Change) → changed_of c empty_login ≡ empty_login
unfolding freed_of ended_of host_ended unproven verified aborted_of reset_of cleared_by has_address has_name
empty_changed Keep = refl
empty_changed EndAll = refl
empty_changed (EndLogin a) = refl
empty_changed (EndHost a n) = refl
empty_changed Unprove = refl
empty_changed EndUnproven = refl
empty_changed (EndExchangesOf a) = refl
empty_changed Reset = refl
empty_changed (Clear a) = refl

changed_step : (c : Change) (a : ℕ) (l m rest next : Login) (b : Bool) → Like l m → m ≡ changed_of c l → has_address a l ≡ b → next ≡ changed_of c rest → (b ≡ true → rest ≡ empty_login)
    → cond (has_address a m) m next ≡ changed_of c (cond b l rest)
changed_step c a l m rest next true (same u d k) e h n o = rw (same_has a l m u d ∙ h) e
changed_step c a l m rest next true gone e h n o = rw (empty_has a) (n ∙ ap (changed_of c) (o refl) ∙ empty_changed c ∙ e)
changed_step c a l m rest next false (same u d k) e h n o = rw (same_has a l m u d ∙ h) n
changed_step c a l m rest next false gone e h n o = rw (empty_has a) n

changed_seen : (c : Change) (a : ℕ) (ls : List Login) → pairs apart_login ls ≡ true → seen a (map (changed_of c) ls) ≡ changed_of c (seen a ls)
changed_seen c a [] d = sym (empty_changed c)
changed_seen c a (l ∷ ls) d =
    changed_step c a l (changed_of c l) (seen a ls) (seen a (map (changed_of c) ls)) (has_address a l) (like c l) refl refl
    (changed_seen c a ls (and_right (all (apart_login l) ls) (pairs apart_login ls) d))
    (λ h. alone a l ls h (and_left (all (apart_login l) ls) (pairs apart_login ls) d))

set_seen : (a : ℕ) (ls : List Login) (i : ℕ) (l : Login) → has_address a (get_or ls i empty_login) ≡ false → has_address a l ≡ false → seen a (set ls i l) ≡ seen a ls
set_seen a [] i l o n = refl
set_seen a (m ∷ ls) zero l o n = rw (n, o)
set_seen a (m ∷ ls) (suc i) l o n = ap (cond (has_address a m) m) (set_seen a ls i l o n)

-- a change of every login: the login of an address is what the change makes of it
pub changed_sees : (p : Port) → pairs apart_login p.logins ≡ true → (c : Change) (a : ℕ) → login_of (changed_all c p) a ≡ changed_of c (login_of p a)
unfolding changed_all
changed_sees p d c a = is_seen (changed_all c p) a ∙ changed_seen c a p.logins d ∙ ap (changed_of c) (sym (is_seen p a))

-- a login stored, none of which is the address's: its login stays
pub stored_sees : (p : Port) (a : ℕ) (at : Option ℕ) (l : Login) → Another p a at l → login_of (stored_at at l p) a ≡ login_of p a
unfolding with_login login_at
stored_sees p a (Some i) l o = is_seen (with_login p i l) a ∙ set_seen a p.logins i l o.0 o.1 ∙ sym (is_seen p a)
stored_sees p a None l o = refl

-- the login at a place after a change of every login
pub at_changed : (p : Port) (k : ℕ) (c : Change) → login_at (changed_all c p) k ≡ changed_of c (login_at p k)
unfolding login_at changed_all
at_changed p k c = ap (get_or (map (changed_of c) p.logins) k) (sym (empty_changed c)) ∙ get_or-map (changed_of c) p.logins k empty_login

-- after any turn that stores nothing of an address once its change was made, its login is what that change makes of what it was, and so are its exchanges
pub others_see : (p : Port) → pairs apart_login p.logins ≡ true → (t : Turn) (a : ℕ) → Another (changed_all t.change p) a t.at t.login → login_of (port_after p t) a ≡ changed_of t.change (login_of p a)
others_see p d t a o = stored_sees (changed_all t.change p) a t.at t.login o ∙ changed_sees p d t.change a

-- the places where a sender's login is stored: its seat, which is not another's, whatever is changed
pub seat_another : (p : Port) (a b i : ℕ) (c : Change) → (a ≡ b → ⊥) → find_login p b ≡ Some i → has_address a (login_at (changed_all c p) i) ≡ false
seat_another p a b i c n e = ap (has_address a) (at_changed p i c) ∙ like_has a (like c (login_at p i)) (other_has a b (login_at p i) n (found_has p b i e))

-- and the lowest that is free, which is nobody's
pub place_another : (p : Port) (a i : ℕ) → free_login p ≡ Some i → has_address a (login_at p i) ≡ false
unfolding free_login login_at
place_another p a i e = free_has a (get_or p.logins i empty_login) (not-true (is_used (get_or p.logins i empty_login)) (found_passes empty_login is_free p.logins e))
