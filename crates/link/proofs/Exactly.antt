-- A port login is accepted exactly when its size is right, every word test passes and a place is free once the sender's own login has ended and that of its port name;
-- else it is rejected, with the stated reason: where a word test fails the sender's login has ended all the same and no other, else nothing changed. Both directions, for every frame with PLOGI's code. Assumes nothing.
use Rattle.std.specs.Prelude.{Option, Some, None, Ok, Err, Result, ⊤}
use mathlib.Core.Path.{◌≡◌, refl, ap, ◌∙◌, subst}
use mathlib.Core.Logic.{◌⊎◌, inl, inr}
use mathlib.Core.Bool.{Bool, true, false}
use mathlib.Core.List.{List}
use Prim.Native.Nat.{ℕ}
use native.Mathlib.Omega.{arith}
use lib.Dec.{eqb}
use lib.ListN.{length, get_or}
use borrow.Author.Tests.{eq-eqb, ne_eqb, eqb-true, eqb-false}
use Rattle.frame.specs.declared.Header.{Header}
use Rattle.params.specs.declared.Fault.{Fault}
use Rattle.params.specs.Words.{params_of, verdict_of, reason_of}
use Rattle.params.proofs.Exactly.{accepted, accepts_then, rejected, rejects_then}
use Rattle.state.specs.declared.Port.{Port}
use Rattle.state.specs.Changes.{with_login}
use Rattle.state.specs.Tables.{free_login}
use Rattle.reply.specs.declared.Reply.TheVariants as reply
use Rattle.reply.specs.declared.Accepted.TheVariants as accepted
use Rattle.calls.specs.Turn.{Decided, decided_as}
use Rattle.link.specs.Link.{size_of, outcome_of, new_login, plogi_of, link_of}
use Rattle.link.specs.Login.{named_in, host_gone, left_by, Accepts, Rejects, wrong_size, test_fails, no_place}
use Rattle.link.proofs.Room.{full_none}

module _ (p : Port) (h : Header) (f : List ℕ) (plogi : get_or f 24 0 ≡ 3) where
  sized : length f ≡ 140 → link_of p h f ≡ plogi_of p h.s_id (params_of f 28)
  unfolding link_of size_of
  sized e = rw (plogi, e)

  -- accepted, and the login stored at the lowest free place
  pub accepts : (a : Accepts p h f) → link_of p h f ≡ decided_as (reply.Accept accepted.Login) (with_login (host_gone p h f) a.place (new_login h.s_id (params_of f 28)))
  unfolding plogi_of outcome_of
  accepts a = sized a.size ∙ rw (accepts_then (params_of f 28) a.tests, a.free)

  of_wrong : (length f ≡ 140 → ⊥) → link_of p h f ≡ decided_as (reply.Reject 0x03 0x00) (left_by p h f)
  unfolding link_of size_of
  of_wrong n = rw (plogi, ne_eqb (length f) 140 n)

  of_test : length f ≡ 140 → (t : Fault) → verdict_of (params_of f 28) ≡ Err t → link_of p h f ≡ decided_as (reply.Reject (reason_of t).reason (reason_of t).explanation) (left_by p h f)
  unfolding plogi_of outcome_of
  of_test e t v = sized e ∙ rw (v, eq-eqb (length f) 140 e)

  of_full : length f ≡ 140 → verdict_of (params_of f 28) ≡ Ok tt → free_login (host_gone p h f) ≡ None → link_of p h f ≡ decided_as (reply.Reject 0x09 0x29) (left_by p h f)
  unfolding plogi_of outcome_of
  of_full e v n = sized e ∙ rw (v, n, eq-eqb (length f) 140 e) (ap (decided_as (reply.Reject 0x09 0x29)) (full_none p h.s_id (named_in f) n))

  -- rejected, with this reason, and the sender's login ended where a word test fails
  pub rejects : (r x : ℕ) → Rejects p h f r x → link_of p h f ≡ decided_as (reply.Reject r x) (left_by p h f)
  rejects r x (wrong_size n) = of_wrong n
  rejects r x (test_fails e t i) = of_test e t (rejects_then (params_of f 28) t i)
  rejects r x (no_place e t n) = of_full e (accepts_then (params_of f 28) t) n

  -- there is no third answer
  pub no_third : Accepts p h f ⊎ ((r : ℕ) × (x : ℕ) × Rejects p h f r x)
  no_third = by_size (eqb (length f) 140) refl
    where
      by_room : length f ≡ 140 → verdict_of (params_of f 28) ≡ Ok tt → (g : Option ℕ) → free_login (host_gone p h f) ≡ g → Accepts p h f ⊎ ((r : ℕ) × (x : ℕ) × Rejects p h f r x)
      by_room e v (Some i) n = inl (record { size = e; tests = accepted (params_of f 28) v; place = i; free = n })
      by_room e v None n = inr (0x09, 0x29, no_place e (accepted (params_of f 28) v) n)

      by_test : length f ≡ 140 → (v : Result ⊤ Fault) → verdict_of (params_of f 28) ≡ v → Accepts p h f ⊎ ((r : ℕ) × (x : ℕ) × Rejects p h f r x)
      by_test e (Ok tt) v = by_room e v (free_login (host_gone p h f)) refl
      by_test e (Err t) v = inr ((reason_of t).reason, (reason_of t).explanation, test_fails e t (rejected (params_of f 28) t v))

      by_size : (b : Bool) → eqb (length f) 140 ≡ b → Accepts p h f ⊎ ((r : ℕ) × (x : ℕ) × Rejects p h f r x)
      by_size true e = by_test (eqb-true (length f) 140 e) (verdict_of (params_of f 28)) refl
      by_size false e = inr (0x03, 0x00, wrong_size (eqb-false (length f) 140 e))

  reply_of : {d : Decided} → link_of p h f ≡ d → (link_of p h f).reply ≡ d.reply
  reply_of = ap (λ (d : Decided). d.reply)

  -- accepted only so
  pub accepts_only : (link_of p h f).reply ≡ reply.Accept accepted.Login → Accepts p h f
  accepts_only e = by no_third
    where
      by : Accepts p h f ⊎ ((r : ℕ) × (x : ℕ) × Rejects p h f r x) → Accepts p h f
      by (inl a) = a
      by (inr (r, x, a)) = let q = reply_of (rejects r x a) in let z : ◌≡◌ {A = ℕ} 0 1 = cc in absurd (omega arith)

  -- rejected with this reason only so
  pub rejects_only : (r x : ℕ) → (link_of p h f).reply ≡ reply.Reject r x → Rejects p h f r x
  rejects_only r x e = by no_third
    where
      by : Accepts p h f ⊎ ((y : ℕ) × (z : ℕ) × Rejects p h f y z) → Rejects p h f r x
      by (inl a) = let q = reply_of (accepts a) in let z : ◌≡◌ {A = ℕ} 0 1 = cc in absurd (omega arith)
      by (inr (y, z, a)) =
          let q = reply_of (rejects y z a) in
          let i : y ≡ r = cc in
          let j : z ≡ x = cc in
          subst (λ (m : ℕ). Rejects p h f r m) j (subst (λ (m : ℕ). Rejects p h f m z) i a)
