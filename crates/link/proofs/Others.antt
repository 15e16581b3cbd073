-- A request is a turn of its sender alone: it stores nothing of another address, and its change of every login leaves another's record, but that of a host that moved. Assumes nothing.
use Rattle.std.specs.Prelude.{Option, Some, None, Ok, Err, Result, ⊤, ℕ}
use Rattle.params.specs.declared.Fault.{Fault}
use Prim.Native.Nat.{ℕ, ◌+◌}
use mathlib.Core.Path.{◌≡◌, refl, sym, ap, ◌∙◌}
use mathlib.Core.Bool.{Bool, true, false, not}
use mathlib.Core.List.{List}
use lib.Dec.{eqb}
use lib.ListN.{length, get_or}
use borrow.Author.Tests.{eqb-true, not-false}
use Rattle.tables.specs.Lists.{all, on_found}
use Rattle.wire.specs.Bytes.{num, name_of}
use Rattle.frame.specs.declared.Header.{Header}
use Rattle.params.specs.declared.Params.{Params}
use Rattle.params.specs.Words.{params_of, verdict_of}
use Rattle.params.proofs.Exactly.{accepted}
use Rattle.state.specs.declared.Login.{Login}
use Rattle.state.specs.declared.Port.{Port}
use Rattle.state.specs.declared.Unit.{Unit}
use Rattle.state.specs.declared.Change.TheVariants.{Keep, EndHost}
use Rattle.state.specs.Changes.{has_address, has_name, login_at, with_exchange, ended_at, changed_all}
use Rattle.state.specs.Tables.{find_login, find_exchange, login_of}
use Rattle.state.proofs.Places.{found_has}
use Rattle.formed.specs.Formed.{login_fine}
use Rattle.calls.specs.declared.View.{View}
use Rattle.calls.specs.declared.Decision.{Decision}
use Rattle.calls.specs.View.{place_for, view_of}
use Rattle.calls.specs.Others.{Another, Leaves, Elsewhere, LeavesLogin}
use Rattle.calls.proofs.Views.{view_seat, view_login, view_place}
use Rattle.calls.proofs.Decisions.{by_cond, on_cond, on_found_lem}
use Rattle.calls.proofs.Others.{other_has, seat_another, place_another}
use Rattle.params.specs.declared.Reason.{Reason}
use Rattle.link.specs.Link.{size_of, new_login, outcome_after, ends_for}
use Rattle.link.specs.Login.{named_in, Moves}
use Rattle.link.specs.Turn.{outcome_in, login_decision, plogi_turn, logo_turn, link_turn, aborted_login, abts_turn}
use Rattle.link.proofs.Services.{new_has, service_other}

-- an exchange that ends leaves the address of its login
aborted_has : (l : Login) (ox a : ℕ) → has_address a (aborted_login l ox) ≡ has_address a l
unfolding aborted_login with_exchange has_address
aborted_has l ox a = by (find_exchange l ox)
  where
    by : (f : Option ℕ) → has_address a (on_found f (λ j. ended_at l j) l) ≡ has_address a l
    by (Some j) = refl
    by None = refl

-- what a PLOGI by which the host of a has not moved has: where it is of right size and passes, another name than a's login
pub unmoved : (p : Port) (h : Header) (a : ℕ) (f : List ℕ) → h.r_ctl ≡ 0x22 → (Moves p a h f → ⊥) → get_or f 24 0 ≡ 3 → length f ≡ 140 → verdict_of (params_of f 28) ≡ (Ok tt)
    → has_name (named_in f) (login_of p a) ≡ false
unmoved p h a f link still c s e = by (has_name (named_in f) (login_of p a)) refl
  where
    by : (b : Bool) → has_name (named_in f) (login_of p a) ≡ b → b ≡ false
    by true g = absurd (still (record { link = link; plogi = c; size = s; tests = accepted (params_of f 28) e; name = g }))
    by false g = refl

module _ (u : Unit) (p : Port) (fine : all (login_fine u p.address) p.logins ≡ true) (h : Header) (a : ℕ) (n : a ≡ h.s_id → ⊥) where
  abbrev v : View
  v = view_of u p h.s_id

  abbrev Other : Decision → Type 0
  Other d = Elsewhere p a d

  -- the login that is seen is not a's, and neither is the place where it stands
  module _ (i : ℕ) (e : v.seat ≡ Some i) where
    at : find_login p h.s_id ≡ Some i
    at = sym (view_seat u p h.s_id fine) ∙ e

    login_other : has_address a v.login ≡ false
    login_other = ap (has_address a) (view_login u p h.s_id fine i at) ∙ other_has a h.s_id (login_at p i) n (found_has p h.s_id i at)

    stores_other : (m : Login) → has_address a m ≡ false → Another (changed_all Keep p) a (Some i) m
    stores_other m k = (seat_another p a h.s_id i Keep n at, k)

  plogi_another : (q : Params) → Other (plogi_turn v.keys h.s_id q)
  unfolding plogi_turn outcome_in
  plogi_another q = by (verdict_of q) (place_for v.keys h.s_id name) refl
    where
      name : ℕ
      name = name_of q.port_name

      by : (t : Result ⊤ Fault) (f : Option ℕ) → place_for v.keys h.s_id name ≡ f → Other (login_decision (outcome_after t f) (ends_for t h.s_id name) h.s_id q)
      by (Ok tt) (Some j) e =
          (place_another (changed_all (EndHost h.s_id name) p) a j (sym (view_place u p h.s_id fine name) ∙ e), other_has a h.s_id (new_login h.s_id q) n (new_has h.s_id q))
      by (Ok tt) None e = tt
      by (Err t) f e = tt

  pub link_another : (f : List ℕ) → Other (link_turn v h f)
  unfolding link_turn logo_turn
  link_another f =
      let code = get_or f 24 0 in
      on_cond Other (eqb (size_of code) 0) tt
      (on_cond Other (not (eqb (length f) (24 + size_of code))) tt
      (on_cond Other (eqb code 0x03) (plogi_another (params_of f 28))
      (on_cond Other (eqb code 0x05) (on_cond Other (eqb (num 3 f 29) h.s_id) tt tt)
      (on_found_lem Other v.seat _ _ (λ i e. stores_other i e _ (service_other code v.login (find_exchange v.login) h.s_id f a (login_other i e))) (λ _. tt)))))

  pub abts_another : Other (abts_turn v h)
  unfolding abts_turn
  abts_another =
      on_found_lem Other v.seat _ _
      (λ i e. on_cond Other (eqb h.rx_id 0xffff) (stores_other i e _ (aborted_has v.login h.ox_id a ∙ login_other i e)) tt) (λ _. tt)

  -- a's record is left, where its host did not move
  abbrev Left : Decision → Type 0
  Left d = LeavesLogin p a d

  plogi_leaves : (q : Params) → (verdict_of q ≡ Ok tt → has_name (name_of q.port_name) (login_of p a) ≡ false) → Left (plogi_turn v.keys h.s_id q)
  unfolding plogi_turn
  plogi_leaves q k = by (verdict_of q) (outcome_in (verdict_of q) v.keys h.s_id name) k
    where
      name : ℕ
      name = name_of q.port_name

      ends : (t : Result ⊤ Fault) → (t ≡ Ok tt → has_name name (login_of p a) ≡ false) → Leaves a (login_of p a) (ends_for t h.s_id name)
      ends (Ok tt) g = (n, g refl)
      ends (Err t) g = n

      by : (t : Result ⊤ Fault) (o : Result ℕ Reason) → (t ≡ Ok tt → has_name name (login_of p a) ≡ false) → Left (login_decision o (ends_for t h.s_id name) h.s_id q)
      by t (Ok j) g = ends t g
      by t (Err w) g = ends t g

  pub link_leaves : (f : List ℕ) → h.r_ctl ≡ 0x22 → (Moves p a h f → ⊥) → Left (link_turn v h f)
  unfolding link_turn logo_turn size_of
  link_leaves f link still =
      let code = get_or f 24 0 in
      by_cond Left (eqb (size_of code) 0) (λ _. tt)
      (λ _. by_cond Left (not (eqb (length f) (24 + size_of code))) (λ _. tt)
      (λ s. by_cond Left (eqb code 0x03) (λ c. plogi_leaves (params_of f 28) (unmoved p h a f link still (eqb-true code 3 c) (sized f (eqb-true code 3 c) s)))
      (λ _. by_cond Left (eqb code 0x05) (λ _. on_cond Left (eqb (num 3 f 29) h.s_id) n tt)
      (λ _. on_found_lem Left v.seat _ _ (λ i e. tt) (λ _. tt)))))
    where
      sized : (f : List ℕ) → get_or f 24 0 ≡ 3 → not (eqb (length f) (24 + size_of (get_or f 24 0))) ≡ false → length f ≡ 140
      sized f c s = eqb-true (length f) 140 (not-false (eqb (length f) 140) (rw c at s))

  pub abts_leaves : Left (abts_turn v h)
  unfolding abts_turn
  abts_leaves = on_found_lem Left v.seat _ _ (λ i e. on_cond Left (eqb h.rx_id 0xffff) tt tt) (λ _. tt)
