-- What a request, as a whole frame, and ABTS make of the record of the sender. Assumes nothing.
use Rattle.std.specs.Prelude.{Option, Some, None}
use Prim.Native.Nat.{ℕ, ◌+◌}
use mathlib.Core.Path.{◌≡◌, refl, sym, subst, ◌∙◌}
use mathlib.Core.Bool.{true}
use mathlib.Core.List.{List}
use native.Mathlib.Omega.{arith}
use lib.Dec.{eqb}
use lib.ListN.{length, get_or}
use borrow.Author.Tests.{eq-eqb, ne_eqb}
use Rattle.tables.specs.Lists.{on_found, pairs}
use Rattle.wire.specs.Bytes.{num}
use Rattle.frame.specs.declared.Header.{Header}
use Rattle.params.specs.Words.{params_of}
use Rattle.state.specs.declared.Port.{Port}
use Rattle.state.specs.Standing.{Standing, Open, NoExchange, NoLogin}
use Rattle.state.specs.Changes.{login_at}
use Rattle.state.specs.Tables.{find_login, find_exchange, login_of, standing_in, lookup_of, sought_in}
use Rattle.state.proofs.Places.{open_place}
use Rattle.formed.specs.Formed.{apart_login}
use Rattle.reply.specs.declared.Reply.TheVariants as reply
use Rattle.calls.specs.Turn.{Decided, decided_as, served_at}
use Rattle.calls.proofs.Decisions.{on_cond}
use Rattle.link.specs.Link.{size_of, plogi_of, logo_of, service_of, link_of, aborted_at, abts_of}
use Rattle.link.specs.Record.{out, record_of}
use Rattle.link.proofs.Ways.{is_plogi, is_logo, is_service}
use Rattle.link.proofs.Records.{out_missing, missing_out, found_record}
use Rattle.link.proofs.Services.{AfterPlogi, AfterLogo, AfterService, AfterAbort, effect_of, service_record, exchange_kept, plogi_record, logo_record}

module _ (p : Port) (a ox rx : ℕ) where
  -- ABTS leaves the record of its sender
  pub abts_record : record_of (abts_of p a ox rx).port a ≡ record_of p a
  unfolding abts_of
  abts_record = by (lookup_of p a ox) refl
    where
      Stays : Decided → Type 0
      Stays d = record_of d.port a ≡ record_of p a

      by : (s : Standing) → lookup_of p a ox ≡ s → Stays (aborted_at s rx p)
      by NoLogin e = refl
      by (NoExchange i) e = on_cond Stays (eqb rx 0xffff) refl refl
      by (Open i j) e = on_cond Stays (eqb rx 0xffff) (exchange_kept p a i (open_place p a ox i j e) j) refl

  -- ABTS: a drive LOGO where the record is `out`, BA_ACC or BA_RJT where it is not
  pub abts_reply : AfterAbort (record_of p a) (abts_of p a ox rx).reply
  unfolding abts_of lookup_of
  abts_reply = by (find_login p a) refl (find_exchange (login_of p a) ox)
    where
      there : (i : ℕ) → find_login p a ≡ Some i → record_of p a ≡ out → ⊥
      there i e h = let q = sym (found_record p a i e) ∙ h in let z : ◌≡◌ {A = ℕ} 0 1 = cc in absurd (omega arith)

      by : (x : Option ℕ) → find_login p a ≡ x → (y : Option ℕ) → AfterAbort (record_of p a) (aborted_at (standing_in x y) rx p).reply
      by (Some i) e (Some j) = on_cond (λ (d : Decided). AfterAbort (record_of p a) d.reply) (eqb rx 0xffff) (there i e) (there i e)
      by (Some i) e None = on_cond (λ (d : Decided). AfterAbort (record_of p a) d.reply) (eqb rx 0xffff) (there i e) (there i e)
      by None e y = missing_out p a e

module _ (p : Port) (h : Header) (f : List ℕ) where
  -- a code that needs a login, in a frame of its size, where the record of the sender is `out`: a drive LOGO, and the port as it was
  pub link_out : (size_of (get_or f 24 0) ≡ 0 → ⊥) → length f ≡ 24 + size_of (get_or f 24 0) → (get_or f 24 0 ≡ 3 → ⊥) → (get_or f 24 0 ≡ 5 → ⊥) → record_of p h.s_id ≡ out
      → link_of p h f ≡ decided_as reply.Logout p
  unfolding link_of
  link_out c s np nl e =
      rw (ne_eqb (size_of (get_or f 24 0)) 0 c, eq-eqb (length f) (24 + size_of (get_or f 24 0)) s, ne_eqb (get_or f 24 0) 3 np, ne_eqb (get_or f 24 0) 5 nl, out_missing p h.s_id e)

  module _ (d : pairs apart_login p.logins ≡ true) (s : length f ≡ 24 + size_of (get_or f 24 0)) where
    -- a PLOGI of right size
    pub link_plogi : get_or f 24 0 ≡ 3 → AfterPlogi (params_of f 28) (link_of p h f).reply (record_of (link_of p h f).port h.s_id)
    unfolding size_of
    link_plogi c = subst (λ x. AfterPlogi (params_of f 28) x.reply (record_of x.port h.s_id)) is (plogi_record p d h.s_id (params_of f 28))
      where
        is : plogi_of p h.s_id (params_of f 28) ≡ link_of p h f
        is = is_plogi p h f 3 116 (sym c) refl (plogi_of p h.s_id (params_of f 28)) (λ e. absurd (omega arith)) (s ∙ rw c) refl refl

    -- a LOGO of right size
    pub link_logo : get_or f 24 0 ≡ 5 → AfterLogo (record_of p h.s_id) (link_of p h f).reply (record_of (link_of p h f).port h.s_id)
    unfolding size_of
    link_logo c = subst (λ x. AfterLogo (record_of p h.s_id) x.reply (record_of x.port h.s_id)) is (logo_record p d h.s_id (num 3 f 29))
      where
        is : logo_of p h.s_id (num 3 f 29) ≡ link_of p h f
        is = is_logo p h f 5 16 (sym c) refl (logo_of p h.s_id (num 3 f 29)) (λ e. absurd (omega arith)) (s ∙ rw c) (λ e. absurd (omega arith)) refl refl

    -- any other code, of right size: as its service does, and a drive LOGO where there is no login
    pub link_service : (size_of (get_or f 24 0) ≡ 0 → ⊥) → (get_or f 24 0 ≡ 3 → ⊥) → (get_or f 24 0 ≡ 5 → ⊥)
        → AfterService (effect_of (get_or f 24 0)) (record_of p h.s_id) (link_of p h f).reply (record_of (link_of p h f).port h.s_id)
    link_service c np nl = subst met (is_service p h f (get_or f 24 0) (size_of (get_or f 24 0)) refl refl _ c s np nl refl) (at (find_login p h.s_id) refl)
      where
        met : Decided → Type 0
        met x = AfterService (effect_of (get_or f 24 0)) (record_of p h.s_id) x.reply (record_of x.port h.s_id)

        at : (x : Option ℕ) → find_login p h.s_id ≡ x → met (on_found x (λ i. served_at p i (service_of (get_or f 24 0) (login_at p i) (sought_in p h.s_id) h.s_id f)) (decided_as reply.Logout p))
        at (Some i) e = service_record p h.s_id i e d (get_or f 24 0) (sought_in p h.s_id) f
        at None e = missing_out p h.s_id e
