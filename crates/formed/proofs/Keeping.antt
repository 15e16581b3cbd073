-- What each change keeps of the rule, under its stated condition. Assumes nothing.
use Rattle.std.specs.Prelude.{None}
use mathlib.Core.Path.{◌≡◌, refl, sym, ap}
use mathlib.Core.Bool.{Bool, true, false, cond, not, ◌&&◌, ◌||◌, or-true}
use mathlib.Core.List.{List}
use Prim.Native.Nat.{ℕ}
use lib.Dec.{eqb, leb}
use lib.ListN.{set, replicate}
use borrow.Author.Tests.{eqb-false, ne_eqb, not-true}
use Rattle.tables.specs.Lists.{all, pairs}
use Rattle.tables.proofs.Bools.{and_left, and_right, or_left, or_right, apart}
use Rattle.tables.proofs.Searches.{missed}
use Rattle.wire.specs.Bytes.{name_of}
use Rattle.tables.proofs.Keeping.{all_always, all_map, all_than, all_set, all_update, pairs_map, pairs_set, pairs_update}
use Rattle.state.specs.declared.Exchange.{Exchange}
use Rattle.state.specs.declared.Login.{Login}
use Rattle.state.specs.declared.Port.{Port}
use Rattle.state.specs.declared.Unit.{Unit}
use Rattle.state.specs.declared.Change.{Change}
use Rattle.state.specs.declared.Change.TheVariants.{Keep, EndAll, EndLogin, EndHost, Unprove, EndUnproven, EndExchangesOf, Reset, Clear}
use Rattle.state.specs.Changes.{empty_exchange, empty_login, is_used, login_at, exchange_at, with_login, with_state, with_proven, with_paired, with_attention, with_places, with_exchange, without_exchanges, has_address, has_name, is_host, freed_of, ended_of, host_ended, unproven, verified, aborted_of, reset_of, loses_to, cleared_by, changed_of, changed_all, is_closed, own_of}
use Rattle.state.specs.Tables.{is_free, has_id, find_exchange}
use Rattle.formed.specs.Formed.{full_frame, openable, moved_fits, exchange_fine, apart_id, params_fine, flags_fine, address_fine, login_fine, apart_login, well_formed}
use Rattle.formed.proofs.Parts.{Used, fine_used, used_fine_lem, Formed, formed_parts, formed_whole}

module _ {u : Unit} {own : ℕ} where
  -- a used login with other flags, attention and exchanges, each of which is fine
  pub state_used : {l : Login} (proven paired attention : ℕ) (es : List Exchange) → Used u own l → flags_fine (with_state l proven paired attention es) ≡ true
      → all (exchange_fine u (full_frame l.size) paired) es ≡ true → pairs apart_id es ≡ true → Used u own (with_state l proven paired attention es)
  unfolding address_fine params_fine
  state_used proven paired attention es used f x i = record { flags = f; address = used.address; params = used.params; exchanges = x; ids = i }

pub empty_fine : (u : Unit) (own : ℕ) → login_fine u own empty_login ≡ true
unfolding login_fine
empty_fine u own = refl

-- no exchange is fine at any login
pub none_fine : (u : Unit) (full paired : ℕ) → all (exchange_fine u full paired) (replicate 8 empty_exchange) ≡ true
unfolding exchange_fine
none_fine u full paired = refl

pub none_apart : pairs apart_id (replicate 8 empty_exchange) ≡ true
unfolding apart_id
none_apart = refl

-- the attention is none, 29h or 2Fh
abbrev pub an_attention : ℕ → Bool
an_attention a = eqb a 0 || eqb a 0x29 || eqb a 0x2f

-- flags that are 0 or 1
pub flags_are : (l : Login) (proven paired attention : ℕ) (es : List Exchange) → leb proven 1 ≡ true → leb paired 1 ≡ true → an_attention attention ≡ true
    → flags_fine (with_state l proven paired attention es) ≡ true
unfolding flags_fine
flags_are l proven paired attention es a b c = rw (a, b, c)

module _ (l : Login) (f : flags_fine l ≡ true) where
  pub flag_proven : leb l.proven 1 ≡ true
  unfolding flags_fine
  flag_proven = and_left (leb l.proven 1) (leb l.paired 1) (and_left (leb l.proven 1 && leb l.paired 1) (an_attention l.attention) f)

  pub flag_paired : leb l.paired 1 ≡ true
  unfolding flags_fine
  flag_paired = and_right (leb l.proven 1) (leb l.paired 1) (and_left (leb l.proven 1 && leb l.paired 1) (an_attention l.attention) f)

  pub flag_attention : an_attention l.attention ≡ true
  unfolding flags_fine
  flag_attention = and_right (leb l.proven 1 && leb l.paired 1) (an_attention l.attention) f

pair_open : (a p o s : Bool) → (a || p && o && s) ≡ true → (a || o && s) ≡ true
pair_open true p o s e = refl
pair_open false true o s e = e
pair_open false false o s e = apart e refl

pair_step : (u : Unit) (full paired : ℕ) (e : Exchange) → exchange_fine u full paired e ≡ true → exchange_fine u full 1 e ≡ true
unfolding exchange_fine
pair_step u full paired e h = pair_open (is_closed e) (eqb paired 1) (openable u e) (moved_fits full e) h

closed_fine : (u : Unit) (full paired : ℕ) → exchange_fine u full paired empty_exchange ≡ true
unfolding exchange_fine
closed_fine u full paired = refl

closed_before : (f : Exchange) → apart_id empty_exchange f ≡ true
unfolding apart_id
closed_before f = refl

closed_after : (f : Exchange) → apart_id f empty_exchange ≡ true
unfolding apart_id
closed_after f = rw (or-true (is_closed f))

-- the two tests of being apart, from a search that found nothing
before_step : (a c : Bool) (x y : ℕ) → not (not c && eqb y x) ≡ true → (a || c || not (eqb x y)) ≡ true
before_step true c x y e = refl
before_step false true x y e = refl
before_step false false x y e = ap not (ne_eqb x y (λ q. eqb-false y x (not-true (eqb y x) e) (sym q)))

after_step : (a c : Bool) (x y : ℕ) → not (not c && eqb y x) ≡ true → (c || a || not (eqb y x)) ≡ true
after_step a true x y e = refl
after_step true false x y e = refl
after_step false false x y e = e

id_before : (e f : Exchange) → not (has_id e.ox_id f) ≡ true → apart_id e f ≡ true
unfolding has_id apart_id
id_before e f h = before_step (is_closed e) (is_closed f) e.ox_id f.ox_id h

id_after : (e f : Exchange) → not (has_id e.ox_id f) ≡ true → apart_id f e ≡ true
unfolding has_id apart_id
id_after e f h = after_step (is_closed e) (is_closed f) e.ox_id f.ox_id h

-- the same of addresses and of port names, where a used place is one that is not free
not_free : (b c : Bool) → not (b && c) ≡ true → not (not (not b) && c) ≡ true
not_free true c e = e
not_free false c e = refl

both_differ : (a c x y : Bool) → (a || c || x) ≡ true → (a || c || y) ≡ true → (a || c || (x && y)) ≡ true
both_differ true c x y p q = refl
both_differ false true x y p q = refl
both_differ false false x y p q = rw (p, q)

-- a login is apart from those that have neither its address nor its port name
abbrev pub others : Login → Login → Bool
others l m = not (is_host l.address (name_of l.port_name) m)

module _ (l m : Login) (h : others l m ≡ true) where
  neither : is_host l.address (name_of l.port_name) m ≡ false
  neither = not-true (is_host l.address (name_of l.port_name) m) h

  address_not : not (is_used m && eqb m.address l.address) ≡ true
  unfolding has_address
  address_not = ap not (or_left (has_address l.address m) (has_name (name_of l.port_name) m) neither)

  name_not : not (is_used m && eqb (name_of m.port_name) (name_of l.port_name)) ≡ true
  unfolding has_name
  name_not = ap not (or_right (has_address l.address m) (has_name (name_of l.port_name) m) neither)

  login_before : apart_login l m ≡ true
  unfolding apart_login
  login_before =
      both_differ (is_free l) (is_free m) _ _ (before_step (is_free l) (is_free m) l.address m.address (not_free (is_used m) (eqb m.address l.address) address_not))
      (before_step (is_free l) (is_free m) (name_of l.port_name) (name_of m.port_name) (not_free (is_used m) (eqb (name_of m.port_name) (name_of l.port_name)) name_not))

  login_after : apart_login m l ≡ true
  unfolding apart_login
  login_after =
      both_differ (is_free m) (is_free l) _ _ (after_step (is_free l) (is_free m) l.address m.address (not_free (is_used m) (eqb m.address l.address) address_not))
      (after_step (is_free l) (is_free m) (name_of l.port_name) (name_of m.port_name) (not_free (is_used m) (eqb (name_of m.port_name) (name_of l.port_name)) name_not))

-- an empty login is apart from every other, and empty logins are apart
empty_before : (m : Login) → apart_login empty_login m ≡ true
unfolding apart_login
empty_before m = refl

empty_after : (m : Login) → apart_login m empty_login ≡ true
unfolding apart_login
empty_after m = rw (or-true (is_free m))

pub empties_apart : pairs apart_login (replicate 8 empty_login) ≡ true
unfolding apart_login
empties_apart = refl

-- a free place stays fine without exchanges
free_fine : (u : Unit) (own : ℕ) (l : Login) → is_used l ≡ false → login_fine u own l ≡ true → login_fine u own (with_places l (replicate 8 empty_exchange)) ≡ true
unfolding login_fine
free_fine u own l h e = rw (h, and_left (eqb l.used 0) (all is_closed l.places) (rw h at e))

module _ {u : Unit} {own : ℕ} {l : Login} (used : Used u own l) where
  -- proven or not
  pub proven_used : (b : ℕ) → leb b 1 ≡ true → Used u own (with_proven l b)
  proven_used b h =
      state_used b l.paired l.attention l.places used (flags_are l b l.paired l.attention l.places h (flag_paired l used.flags) (flag_attention l used.flags)) used.exchanges used.ids

  -- another attention
  pub attention_used : (a : ℕ) → an_attention a ≡ true → Used u own (with_attention l a)
  attention_used a h =
      state_used l.proven l.paired a l.places used (flags_are l l.proven l.paired a l.places (flag_proven l used.flags) (flag_paired l used.flags) h) used.exchanges used.ids

  -- other exchanges
  pub places_used : (es : List Exchange) → all (exchange_fine u (full_frame l.size) l.paired) es ≡ true → pairs apart_id es ≡ true → Used u own (with_places l es)
  places_used es x i =
      state_used l.proven l.paired l.attention es used
      (flags_are l l.proven l.paired l.attention es (flag_proven l used.flags) (flag_paired l used.flags) (flag_attention l used.flags)) x i

  -- no exchanges
  pub without_used : Used u own (without_exchanges l)
  unfolding without_exchanges
  without_used = places_used (replicate 8 empty_exchange) (none_fine u (full_frame l.size) l.paired) none_apart

  -- paired: every exchange that was fine is still
  pub paired_used : Used u own (with_paired l 1)
  paired_used =
      state_used l.proven 1 l.attention l.places used
      (flags_are l l.proven 1 l.attention l.places (flag_proven l used.flags) refl (flag_attention l used.flags))
      (all_than (exchange_fine u (full_frame l.size) l.paired) (exchange_fine u (full_frame l.size) 1) (pair_step u (full_frame l.size) l.paired) l.places used.exchanges)
      used.ids

  -- the pairing ends, and its exchanges
  pub unpaired_used : Used u own (with_paired (without_exchanges l) 0)
  unfolding without_exchanges
  unpaired_used =
      state_used l.proven 0 l.attention (replicate 8 empty_exchange) used
      (flags_are l l.proven 0 l.attention (replicate 8 empty_exchange) (flag_proven l used.flags) refl (flag_attention l used.flags))
      (none_fine u (full_frame l.size) 0) none_apart

  -- an exchange that is fine, and whose OX_ID no other has, may open at any place
  pub open_used : (j : ℕ) (e : Exchange) → exchange_fine u (full_frame l.size) l.paired e ≡ true → find_exchange l e.ox_id ≡ None → Used u own (with_exchange l j e)
  unfolding with_exchange find_exchange
  open_used j e fine none =
      let alone = missed (has_id e.ox_id) l.places none in
      places_used (set l.places j e) (all_set (exchange_fine u (full_frame l.size) l.paired) l.places j e fine used.exchanges)
      (pairs_set apart_id l.places j e (all_than (λ f. not (has_id e.ox_id f)) (apart_id e) (id_before e) l.places alone)
      (all_than (λ f. not (has_id e.ox_id f)) (λ f. apart_id f e) (id_after e) l.places alone) used.ids)

  -- the exchange at a place may change to one that is fine, of the same OX_ID, open as it was
  pub change_used : (j : ℕ) (e : Exchange) → is_closed e ≡ is_closed (exchange_at l j) → e.ox_id ≡ (exchange_at l j).ox_id
      → (exchange_fine u (full_frame l.size) l.paired (exchange_at l j) ≡ true → exchange_fine u (full_frame l.size) l.paired e ≡ true) → Used u own (with_exchange l j e)
  unfolding with_exchange exchange_at apart_id
  change_used j e closed id fine =
      places_used (set l.places j e) (all_update (exchange_fine u (full_frame l.size) l.paired) empty_exchange l.places j e fine used.exchanges)
      (pairs_update apart_id empty_exchange l.places j e (λ f q. rw (closed, id) q) (λ f q. rw (closed, id) q) used.ids)

  -- the exchange at a place may end
  pub end_used : (j : ℕ) → Used u own (with_exchange l j empty_exchange)
  unfolding with_exchange
  end_used j =
      places_used (set l.places j empty_exchange)
      (all_set (exchange_fine u (full_frame l.size) l.paired) l.places j empty_exchange (closed_fine u (full_frame l.size) l.paired) used.exchanges)
      (pairs_set apart_id l.places j empty_exchange (all_always (apart_id empty_exchange) closed_before l.places) (all_always (λ f. apart_id f empty_exchange) closed_after l.places) used.ids)

-- a login after a change: of the same address and port name, or gone
pub data Like (l : Login) : Login → Type 0 where
  same : {m : Login} → is_used m ≡ is_used l → m.address ≡ l.address → m.port_name ≡ l.port_name → Like l m
  gone : Like l empty_login

module _ {l : Login} where
  like_cond : (b : Bool) {m k : Login} → Like l m → Like l k → Like l (cond b m k)
  like_cond true p q = p
  like_cond false p q = q

  itself : Like l l
  itself = same refl refl refl

pub like : (c : Change) (l : Login) → Like l (changed_of c l)
unfolding freed_of ended_of host_ended unproven verified aborted_of reset_of cleared_by without_exchanges
like Keep l = itself
like EndAll l = like_cond (is_used l) gone itself
like (EndLogin a) l = like_cond (has_address a l) gone itself
like (EndHost a n) l = like_cond (is_host a n l) gone itself
like Unprove l = like_cond (is_used l) (same refl refl refl) itself
like EndUnproven l = like_cond (is_used l) (like_cond (eqb l.proven 1) itself gone) itself
like (EndExchangesOf a) l = like_cond (has_address a l) (same refl refl refl) itself
like Reset l = like_cond (is_used l) (same refl refl refl) itself
like (Clear a) l = like_cond (is_used l) (like_cond (loses_to a l) (same refl refl refl) (same refl refl refl)) itself

like_apart : {l k m n : Login} → Like l k → Like m n → apart_login l m ≡ true → apart_login k n ≡ true
unfolding apart_login
like_apart (same p q n) (same r s o) e = rw (p, q, n, r, s, o) e
like_apart {k = k} (same p q n) gone e = rw (or-true (is_free k))
like_apart gone y e = refl

module _ (u : Unit) (own : ℕ) where
  fine_cond : (b : Bool) (l m : Login) → (b ≡ true → login_fine u own l ≡ true) → login_fine u own m ≡ true → login_fine u own (cond b l m) ≡ true
  fine_cond true l m p q = p refl
  fine_cond false l m p q = q

  without_step : (l : Login) (b : Bool) → is_used l ≡ b → login_fine u own l ≡ true → login_fine u own (without_exchanges l) ≡ true
  unfolding without_exchanges
  without_step l true h e = used_fine_lem {l = without_exchanges l} h (without_used (fine_used h e))
  without_step l false h e = free_fine u own l h e

  -- a login that loses its exchanges, with an attention
  told_fine : (l : Login) (a : ℕ) → an_attention a ≡ true → is_used l ≡ true → login_fine u own l ≡ true → login_fine u own (with_attention (without_exchanges l) a) ≡ true
  unfolding without_exchanges
  told_fine l a n h e = used_fine_lem {l = with_attention (without_exchanges l) a} h (attention_used (without_used (fine_used h e)) a n)

  change_fine : (c : Change) (l : Login) → login_fine u own l ≡ true → login_fine u own (changed_of c l) ≡ true
  unfolding freed_of ended_of host_ended unproven verified aborted_of reset_of cleared_by
  change_fine Keep l e = e
  change_fine EndAll l e = fine_cond (is_used l) empty_login l (λ _. empty_fine u own) e
  change_fine (EndLogin a) l e = fine_cond (has_address a l) empty_login l (λ _. empty_fine u own) e
  change_fine (EndHost a n) l e = fine_cond (is_host a n l) empty_login l (λ _. empty_fine u own) e
  change_fine Unprove l e = fine_cond (is_used l) (with_proven l 0) l (λ h. used_fine_lem {l = with_proven l 0} h (proven_used (fine_used h e) 0 refl)) e
  change_fine EndUnproven l e = fine_cond (is_used l) (cond (eqb l.proven 1) l empty_login) l (λ _. fine_cond (eqb l.proven 1) l empty_login (λ _. e) (empty_fine u own)) e
  change_fine (EndExchangesOf a) l e = fine_cond (has_address a l) (without_exchanges l) l (λ _. without_step l (is_used l) refl e) e
  change_fine Reset l e = fine_cond (is_used l) (with_attention (without_exchanges l) 0x29) l (λ h. told_fine l 0x29 refl h e) e
  change_fine (Clear a) l e =
      fine_cond (is_used l) (cond (loses_to a l) (with_attention (without_exchanges l) 0x2f) (without_exchanges l)) l
      (λ h. fine_cond (loses_to a l) (with_attention (without_exchanges l) 0x2f) (without_exchanges l) (λ _. told_fine l 0x2f refl h e) (without_step l true h e)) e

module _ (u : Unit) (p : Port) (w : well_formed u p ≡ true) where
  parts : Formed u p
  parts = formed_parts w

  -- every change of the whole table
  pub change_kept : (c : Change) → well_formed u (changed_all c p) ≡ true
  unfolding changed_all own_of
  change_kept c =
      formed_whole record {
        setup = parts.setup;
        logins = all_map (login_fine u p.address) (login_fine u p.address) (changed_of c) (change_fine u p.address c) p.logins parts.logins;
        distinct = pairs_map apart_login (changed_of c) (λ l m. like_apart (like c l) (like c m)) p.logins parts.distinct;
      }

  -- a login that is fine, and whose address and port name no other has, may be stored at any place
  pub store_kept : (i : ℕ) (l : Login) → login_fine u p.address l ≡ true → all (others l) p.logins ≡ true → well_formed u (with_login p i l) ≡ true
  unfolding with_login own_of
  store_kept i l fine absent =
      formed_whole record {
        setup = parts.setup;
        logins = all_set (login_fine u p.address) p.logins i l fine parts.logins;
        distinct = pairs_set apart_login p.logins i l (all_than (others l) (apart_login l) (login_before l) p.logins absent)
            (all_than (others l) (λ m. apart_login m l) (login_after l) p.logins absent) parts.distinct;
      }

  -- the login at a place may change to one that is fine, of the same address and port name, used as it was
  pub update_kept : (i : ℕ) (l : Login) → is_used l ≡ is_used (login_at p i) → l.address ≡ (login_at p i).address → l.port_name ≡ (login_at p i).port_name
      → (login_fine u p.address (login_at p i) ≡ true → login_fine u p.address l ≡ true) → well_formed u (with_login p i l) ≡ true
  unfolding with_login own_of login_at apart_login
  update_kept i l used address name fine =
      formed_whole record {
        setup = parts.setup;
        logins = all_update (login_fine u p.address) empty_login p.logins i l fine parts.logins;
        distinct = pairs_update apart_login empty_login p.logins i l (λ m q. rw (used, address, name) q) (λ m q. rw (used, address, name) q) parts.distinct;
      }

  -- the login at a place may end
  pub end_kept : (i : ℕ) → well_formed u (with_login p i empty_login) ≡ true
  unfolding with_login own_of
  end_kept i =
      formed_whole record {
        setup = parts.setup;
        logins = all_set (login_fine u p.address) p.logins i empty_login (empty_fine u p.address) parts.logins;
        distinct = pairs_set apart_login p.logins i empty_login (all_always (apart_login empty_login) empty_before p.logins) (all_always (λ m. apart_login m empty_login) empty_after p.logins) parts.distinct;
      }
