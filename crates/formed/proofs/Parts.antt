-- The parts of the rule, each by its name: taken out of the whole, and put together again. Assumes nothing.
use mathlib.Core.Path.{◌≡◌}
use mathlib.Core.Bool.{true, false, ◌&&◌, and-false}
use Prim.Native.Nat.{ℕ, ◌<◌}
use lib.Dec.{leb}
use borrow.Author.Tests.{lt-leb}
use Rattle.tables.specs.Lists.{all, pairs}
use Rattle.tables.proofs.Bools.{and_left, and_right}
use Rattle.address.specs.Address.{valid_address}
use Rattle.params.specs.Words.{params_of, setup_passes}
use Rattle.state.specs.declared.Login.{Login}
use Rattle.state.specs.declared.Port.{Port}
use Rattle.state.specs.declared.Setup.{Setup}
use Rattle.state.specs.declared.Unit.{Unit}
use Rattle.state.specs.Changes.{is_used, own_of}
use Rattle.formed.specs.Formed.{setup_rules, setup_of, full_frame, exchange_fine, apart_id, params_fine, flags_fine, address_fine, used_fine, login_fine, apart_login, well_formed}

-- whether a unit may be written is 0 or 1
pub setup_flag : (s : Setup) → 1 < s.writable → setup_rules s ≡ false
unfolding setup_rules
setup_flag s h =
    rw (lt-leb s.writable 1 h) (and-false (leb 1 s.capacity && leb s.capacity 4294967295 && valid_address s.address && setup_passes (params_of s.accept 0)))

-- what is asked of a login that is used
pub record Used (u : Unit) (own : ℕ) (l : Login) : Type 0 where
  pub flags : flags_fine l ≡ true
  pub address : address_fine own l ≡ true
  pub params : params_fine l ≡ true
  pub exchanges : all (exchange_fine u (full_frame l.size) l.paired) l.places ≡ true
  pub ids : pairs apart_id l.places ≡ true

module _ {u : Unit} {own : ℕ} {l : Login} where
  pub used_parts : used_fine u own l ≡ true → Used u own l
  unfolding used_fine
  used_parts e =
      let f = flags_fine l in
      let a = address_fine own l in
      let p = params_fine l in
      let x = all (exchange_fine u (full_frame l.size) l.paired) l.places in
      let i = pairs apart_id l.places in
      let e₄ = and_left (f && a && p && x) i e in
      let e₃ = and_left (f && a && p) x e₄ in
      let e₂ = and_left (f && a) p e₃ in
      record {
        flags = and_left f a e₂;
        address = and_right f a e₂;
        params = and_right (f && a) p e₃;
        exchanges = and_right (f && a && p) x e₄;
        ids = and_right (f && a && p && x) i e;
      }

  pub used_whole : Used u own l → used_fine u own l ≡ true
  unfolding used_fine
  used_whole p = rw (p.flags, p.address, p.params, p.exchanges, p.ids)

  -- a used place for a login is fine exactly when its login is
  pub fine_used : is_used l ≡ true → login_fine u own l ≡ true → Used u own l
  unfolding login_fine
  fine_used h e = used_parts (rw h at e)

  pub used_fine_lem : is_used l ≡ true → Used u own l → login_fine u own l ≡ true
  unfolding login_fine
  used_fine_lem h p = rw h (used_whole p)

-- what is asked of a state
pub record Formed (u : Unit) (p : Port) : Type 0 where
  pub setup : setup_rules (setup_of u (own_of p)) ≡ true
  pub logins : all (login_fine u p.address) p.logins ≡ true
  pub distinct : pairs apart_login p.logins ≡ true

module _ {u : Unit} {p : Port} where
  pub formed_parts : well_formed u p ≡ true → Formed u p
  unfolding well_formed
  formed_parts e =
      let s = setup_rules (setup_of u (own_of p)) in
      let l = all (login_fine u p.address) p.logins in
      let a = pairs apart_login p.logins in
      let e₂ = and_left (s && l) a e in
      record { setup = and_left s l e₂; logins = and_right s l e₂; distinct = and_right (s && l) a e }

  pub formed_whole : Formed u p → well_formed u p ≡ true
  unfolding well_formed
  formed_whole f = rw (f.setup, f.logins, f.distinct)
