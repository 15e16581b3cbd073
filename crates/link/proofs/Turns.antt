-- What a request does, told by what changes, is what it makes of the whole port, where the port's logins are fine. Assumes nothing.
use Rattle.std.specs.Prelude.{Option, Some, None, Ok, Err, Result, ⊤, ℕ}
use Rattle.params.specs.declared.Fault.{Fault}
use Prim.Native.Nat.{ℕ, ◌+◌}
use mathlib.Core.Path.{◌≡◌, refl, sym, ap, ◌∙◌}
use mathlib.Core.Bool.{true, cond, not}
use mathlib.Core.List.{List}
use lib.Dec.{eqb}
use lib.ListN.{length, get_or}
use Rattle.tables.specs.Lists.{all, on_found}
use Rattle.wire.specs.Bytes.{num, name_of}
use Rattle.frame.specs.declared.Header.{Header}
use Rattle.params.specs.declared.Params.{Params}
use Rattle.params.specs.Words.{params_of, verdict_of}
use Rattle.state.specs.declared.Login.{Login}
use Rattle.state.specs.declared.Port.{Port}
use Rattle.state.specs.declared.Unit.{Unit}
use Rattle.state.specs.Standing.{Standing}
use Rattle.state.specs.Changes.{login_at, with_login, ended_at, changed_all}
use Rattle.state.specs.Tables.{find_login, free_login, find_exchange, standing_in, sought_in}
use Rattle.formed.specs.Formed.{login_fine}
use Rattle.reply.specs.declared.Reply.TheVariants as reply
use Rattle.calls.specs.declared.View.{View}
use Rattle.calls.specs.View.{place_for, view_of}
use Rattle.calls.specs.Turn.{Decided, decided_as, served_at, answers_only, stores, served_in, decided_by}
use Rattle.calls.proofs.Views.{view_seat, view_login, view_place, lookup_seen, sought_seen}
use Rattle.calls.proofs.Decisions.{stays_put, answers_is, stores_is, served_is, either_is, found_is}
use Rattle.params.specs.declared.Reason.{Reason}
use Rattle.link.specs.Link.{size_of, new_login, room_for, outcome_after, ends_for, ends_by, outcome_of, outcome_reply, outcome_port, plogi_of, logo_of, service_of, link_of, aborted_at, abts_of}
use Rattle.link.specs.Turn.{outcome_in, login_decision, plogi_turn, logo_turn, link_turn, aborted_login, abts_turn}

module _ (u : Unit) (p : Port) (fine : all (login_fine u p.address) p.logins ≡ true) where
  module _ (from : ℕ) where
    abbrev v : View
    v = view_of u p from

    outcome_is : (q : Params) → outcome_in (verdict_of q) v.keys from (name_of q.port_name) ≡ outcome_of (changed_all (ends_by from q) p) q
    unfolding outcome_in outcome_of
    outcome_is q = by (verdict_of q)
      where
        name : ℕ
        name = name_of q.port_name

        by : (t : Result ⊤ Fault) → outcome_after t (place_for v.keys from name) ≡ outcome_after t (free_login (changed_all (ends_for t from name) p))
        by (Ok tt) = ap room_for (view_place u p from fine name)
        by (Err t) = refl

    plogi_turn_lem : (q : Params) → decided_by p (plogi_turn v.keys from q) ≡ plogi_of p from q
    unfolding plogi_turn plogi_of
    plogi_turn_lem q = step (outcome_in (verdict_of q) v.keys from (name_of q.port_name)) ∙ ap after (outcome_is q)
      where
        after : Result ℕ Reason → Decided
        after o = decided_as (outcome_reply o) (outcome_port o (changed_all (ends_by from q) p) (new_login from q))

        step : (o : Result ℕ Reason) → decided_by p (login_decision o (ends_by from q) from q) ≡ after o
        step (Ok j) = refl
        step (Err w) = refl

    logo_turn_lem : (named : ℕ) → decided_by p (logo_turn from named) ≡ logo_of p from named
    unfolding logo_turn logo_of
    logo_turn_lem named = either_is p (eqb named from) _ _ refl (answers_is p _)

    -- a service on the login that is seen is one on that of the table
    service_turn : (code : ℕ) (f : List ℕ) (i : ℕ) → find_login p from ≡ Some i
        → decided_by p (served_in i (service_of code v.login (find_exchange v.login) from f)) ≡ served_at p i (service_of code (login_at p i) (sought_in p from) from f)
    service_turn code f i e = served_is p i _ ∙ (λ j. served_at p i (service_of code (view_login u p from fine i e j) (λ x. sym (sought_seen u p from fine x) j) from f))

  pub link_turn_lem : (h : Header) (f : List ℕ) → decided_by p (link_turn (view_of u p h.s_id) h f) ≡ link_of p h f
  unfolding link_turn link_of
  link_turn_lem h f =
      let code = get_or f 24 0 in
      let from = h.s_id in
      either_is p (eqb (size_of code) 0) _ _ (answers_is p _)
      (either_is p (not (eqb (length f) (24 + size_of code))) _ _ (answers_is p _)
      (either_is p (eqb code 0x03) _ _ (plogi_turn_lem from (params_of f 28))
      (either_is p (eqb code 0x05) _ _ (logo_turn_lem from (num 3 f 29))
      (found_is u p from fine (λ i. served_in i (service_of code (v from).login (find_exchange (v from).login) from f)) _ _ (service_turn from code f) (answers_is p reply.Logout)))))

  pub abts_turn_lem : (h : Header) → decided_by p (abts_turn (view_of u p h.s_id) h) ≡ abts_of p h.s_id h.ox_id h.rx_id
  unfolding abts_turn abts_of aborted_login
  abts_turn_lem h = by w.seat (find_exchange w.login h.ox_id) refl ∙ sym (ap (λ (s : Standing). aborted_at s h.rx_id p) (lookup_seen u p h.s_id fine h.ox_id))
    where
      w : View
      w = view_of u p h.s_id

      is : (i : ℕ) → w.seat ≡ Some i → w.login ≡ login_at p i
      is i e = view_login u p h.s_id fine i (sym (view_seat u p h.s_id fine) ∙ e)

      accepted : Login → ℕ → Decided
      accepted m i = decided_as reply.AbortAccept (with_login p i m)

      by : (s place : Option ℕ) → w.seat ≡ s
          → decided_by p (on_found s (λ i. cond (eqb h.rx_id 0xffff) (stores reply.AbortAccept i (on_found place (λ j. ended_at w.login j) w.login)) (answers_only reply.AbortReject)) (answers_only reply.Logout))
          ≡ aborted_at (standing_in s place) h.rx_id p
      by (Some i) (Some j) e = either_is p (eqb h.rx_id 0xffff) _ _ (stores_is p _ i (ended_at w.login j) ∙ ap (λ (m : Login). accepted (ended_at m j) i) (is i e)) (answers_is p _)
      by (Some i) None e =
          either_is p (eqb h.rx_id 0xffff) _ _ (stores_is p _ i w.login ∙ ap (λ (m : Login). accepted m i) (is i e) ∙ ap (decided_as reply.AbortAccept) (stays_put p i)) (answers_is p _)
      by None place e = answers_is p _
