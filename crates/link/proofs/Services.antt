-- What each link service makes of the record of its sender. Assumes nothing.
use Rattle.std.specs.Prelude.{Option, Some, None, Ok, Err, Result, ⊤, ℕ}
use Rattle.params.specs.declared.Fault.{Fault}
use Prim.Native.Nat.{ℕ}
use mathlib.Core.Path.{◌≡◌, refl, sym, ap, ◌∙◌}
use mathlib.Core.Bool.{Bool, true, false, cond}
use mathlib.Core.List.{List}
use native.Mathlib.Omega.{arith}
use lib.Dec.{eqb}
use lib.ListN.{get_or}
use borrow.Author.Tests.{eq-eqb}
use Rattle.tables.specs.Lists.{on_found, pairs}
use Rattle.wire.specs.Bytes.{num, part, name_of}
use Rattle.params.specs.declared.Params.{Params}
use Rattle.params.specs.Words.{params_of, verdict_of}
use Rattle.state.specs.declared.Login.{Login}
use Rattle.state.specs.declared.Port.{Port}
use Rattle.state.specs.declared.Change.TheVariants.{EndLogin}
use Rattle.state.specs.Changes.{empty_login, has_address, login_at, with_login, with_exchange, without_exchanges, ended_at, changed_all}
use Rattle.state.proofs.Places.{found_has}
use Rattle.state.specs.Tables.{find_login, free_login}
use Rattle.formed.specs.Formed.{apart_login}
use Rattle.reply.specs.declared.Reply.{Reply}
use Rattle.reply.specs.declared.Reply.TheVariants as reply
use Rattle.reply.specs.declared.Accepted.{Accepted}
use Rattle.reply.specs.declared.Accepted.TheVariants as accepted
use Rattle.calls.specs.declared.Served.{Served}
use Rattle.calls.specs.Turn.{decided_as, served_as, served_at}
use Rattle.calls.proofs.Others.{empty_has}
use Rattle.params.specs.declared.Reason.{Reason}
use Rattle.link.specs.Link.{new_login, outcome_after, ends_for, ends_by, outcome_of, outcome_reply, outcome_port, plogi_of, names_differ, proven_by, pdisc_of, adisc_of, logo_of, pair_fine, page_fine, prli_of, prlo_of, rrq_of, service_of}
use Rattle.link.specs.Record.{Record, out, held, kept_from, record_at, record_of, proved, paired, unpaired}
use Rattle.link.proofs.Records.{found_record, end_record, host_record, store_record, drop_record, place_record}

-- after PLOGI: ACC, and the record is unpaired, proven and of the parameters sent; LS_RJT, and it is `out`; there is no other reply
abbrev pub AfterPlogi : Params → Reply → Record → Type 0
AfterPlogi q reply.Nothing r = ⊥
AfterPlogi q (reply.Accept a) r = r ≡ held false true (kept_from q)
AfterPlogi q (reply.Reject x y) r = r ≡ out
AfterPlogi q reply.Logout r = ⊥
AfterPlogi q reply.AbortAccept r = ⊥
AfterPlogi q reply.AbortReject r = ⊥
AfterPlogi q (reply.Respond x) r = ⊥
AfterPlogi q (reply.Data x) r = ⊥
AfterPlogi q (reply.Ready x y) r = ⊥

-- after LOGO: ACC, and the record is `out`; LS_RJT, and it is the old one; there is no other reply
abbrev pub AfterLogo : Record → Reply → Record → Type 0
AfterLogo o reply.Nothing r = ⊥
AfterLogo o (reply.Accept a) r = r ≡ out
AfterLogo o (reply.Reject x y) r = r ≡ o
AfterLogo o reply.Logout r = ⊥
AfterLogo o reply.AbortAccept r = ⊥
AfterLogo o reply.AbortReject r = ⊥
AfterLogo o (reply.Respond x) r = ⊥
AfterLogo o (reply.Data x) r = ⊥
AfterLogo o (reply.Ready x y) r = ⊥

-- after a service on a login: ACC, and the record is g of the old one; LS_RJT, and it is the old one; a drive LOGO, and it is `out`; there is no other reply
abbrev pub AfterService : (Record → Record) → Record → Reply → Record → Type 0
AfterService g o reply.Nothing r = ⊥
AfterService g o (reply.Accept a) r = r ≡ g o
AfterService g o (reply.Reject x y) r = r ≡ o
AfterService g o reply.Logout r = r ≡ out
AfterService g o reply.AbortAccept r = ⊥
AfterService g o reply.AbortReject r = ⊥
AfterService g o (reply.Respond x) r = ⊥
AfterService g o (reply.Data x) r = ⊥
AfterService g o (reply.Ready x y) r = ⊥

-- after ABTS the record is the old one; a drive LOGO where that is `out`, BA_ACC or BA_RJT where it is not; there is no other reply
abbrev pub AfterAbort : Record → Reply → Type 0
AfterAbort o reply.Nothing = ⊥
AfterAbort o (reply.Accept a) = ⊥
AfterAbort o (reply.Reject x y) = ⊥
AfterAbort o reply.Logout = o ≡ out
AfterAbort o reply.AbortAccept = o ≡ out → ⊥
AfterAbort o reply.AbortReject = o ≡ out → ⊥
AfterAbort o (reply.Respond x) = ⊥
AfterAbort o (reply.Data x) = ⊥
AfterAbort o (reply.Ready x y) = ⊥

-- PLOGI
pub new_has : (a : ℕ) (q : Params) → has_address a (new_login a q) ≡ true
unfolding new_login has_address
new_has a q = eq-eqb a a refl

pub new_record : (a : ℕ) (q : Params) → record_at (new_login a q) ≡ held false true (kept_from q)
unfolding new_login
new_record a q = refl

placed_free : (v : Result ⊤ Fault) (x : Option ℕ) (i : ℕ) → outcome_after v x ≡ Ok i → x ≡ Some i
placed_free (Ok tt) (Some j) i e = cc
placed_free (Ok tt) None i e = let z : ◌≡◌ {A = ℕ} 0 1 = cc in absurd (omega arith)
placed_free (Err t) x i e = let z : ◌≡◌ {A = ℕ} 0 1 = cc in absurd (omega arith)

outcome_free : (p : Port) (q : Params) (i : ℕ) → outcome_of p q ≡ Ok i → free_login p ≡ Some i
unfolding outcome_of
outcome_free p q i e = placed_free (verdict_of q) (free_login p) i e

outcome_record : (p : Port) (a : ℕ) (q : Params) (o : Result ℕ Reason) → outcome_of p q ≡ o → record_of p a ≡ out
    → AfterPlogi q (outcome_reply o) (record_of (outcome_port o p (new_login a q)) a)
outcome_record p a q (Ok i) e n = place_record p a i (new_login a q) (outcome_free p q i e) (new_has a q) n ∙ new_record a q
outcome_record p a q (Err w) e n = n

-- a service on a login, as the record sees it
data Does (g : Record → Record) (l : Login) : Served → Type 0 where
  takes : (x : Accepted) (m : Login) → ((b : ℕ) → has_address b m ≡ has_address b l) → record_at m ≡ g (record_at l) → Does g l (served_as (reply.Accept x) m)
  rejects : (x y : ℕ) → Does g l (served_as (reply.Reject x y) l)
  ends : Does g l (served_as reply.Logout empty_login)

does_cond : {g : Record → Record} {l : Login} (b : Bool) {s t : Served} → Does g l s → Does g l t → Does g l (cond b s t)
does_cond true x y = x
does_cond false x y = y

pdisc_does : (l : Login) (q : Params) → Does proved l (pdisc_of l q)
unfolding pdisc_of has_address
pdisc_does l q = does_cond (names_differ l q.port_name q.node_name) ends (by (verdict_of q))
  where
    by : (v : Result ⊤ Fault) → Does proved l (proven_by v l)
    by (Ok tt) = takes _ _ (λ b. refl) refl
    by (Err t) = rejects _ _

adisc_does : (l : Login) (from named : ℕ) (port node : List ℕ) → Does proved l (adisc_of l from named port node)
unfolding adisc_of has_address
adisc_does l from named port node = does_cond (names_differ l port node) ends (does_cond (eqb named from) (takes _ _ (λ b. refl) refl) ends)

prli_does : (l : Login) (page protocol flags roles : ℕ) → Does paired l (prli_of l page protocol flags roles)
unfolding prli_of has_address
prli_does l page protocol flags roles = does_cond (pair_fine page protocol flags roles) (takes _ _ (λ b. refl) refl) (rejects _ _)

prlo_does : (l : Login) (page protocol : ℕ) → Does unpaired l (prlo_of l page protocol)
unfolding prlo_of without_exchanges has_address
prlo_does l page protocol = does_cond (page_fine page protocol) (takes _ _ (λ b. refl) refl) (rejects _ _)

rrq_does : (l : Login) (from named : ℕ) (place : Option ℕ) → Does (λ r. r) l (rrq_of l from named place)
unfolding rrq_of
rrq_does l from named place = does_cond (eqb named from) (by place) (rejects _ _)
  where
    by : (x : Option ℕ) → Does (λ r. r) l (on_found x (λ j. served_as (reply.Reject 0x03 0x17) l) (served_as (reply.Accept accepted.Short) l))
    by (Some j) = rejects _ _
    by None = takes _ _ (λ b. refl) refl

-- what ACC of a code stands for: PDISC and ADISC prove, PRLI pairs, PRLO unpairs, RRQ changes nothing
unfoldable pub effect_of : ℕ → Record → Record
effect_of code = cond (eqb code 0x50) proved (cond (eqb code 0x52) proved (cond (eqb code 0x20) paired (cond (eqb code 0x21) unpaired (λ r. r))))

does_code : {l : Login} (b : Bool) {g k : Record → Record} {s t : Served} → Does g l s → Does k l t → Does (cond b g k) l (cond b s t)
does_code true x y = x
does_code false x y = y

service_does : (code : ℕ) (l : Login) (sought : ℕ → Option ℕ) (from : ℕ) (f : List ℕ) → Does (effect_of code) l (service_of code l sought from f)
unfolding effect_of service_of
service_does code l sought from f =
    does_code (eqb code 0x50) (pdisc_does l (params_of f 28))
    (does_code (eqb code 0x52) (adisc_does l from (num 3 f 49) (part 8 f 32) (part 8 f 40))
    (does_code (eqb code 0x20) (prli_does l (num 3 f 25) (get_or f 28 0) (get_or f 30 0) (get_or f 43 0))
    (does_code (eqb code 0x21) (prlo_does l (num 3 f 25) (get_or f 28 0)) (rrq_does l from (num 3 f 29) (sought (num 2 f 32))))))

-- a service leaves the login that of the same address, or ends it
pub service_other : (code : ℕ) (l : Login) (sought : ℕ → Option ℕ) (from : ℕ) (f : List ℕ) (a : ℕ) → has_address a l ≡ false → has_address a (service_of code l sought from f).login ≡ false
service_other code l sought from f a h = by (service_does code l sought from f)
  where
    by : {g : Record → Record} {s : Served} → Does g l s → has_address a s.login ≡ false
    by (takes x m k e) = k a ∙ h
    by (rejects x y) = h
    by ends = empty_has a

-- the sender's login is at place i
module _ (p : Port) (a i : ℕ) (at : find_login p a ≡ Some i) where
  does_record : pairs apart_login p.logins ≡ true → {g : Record → Record} {s : Served} → Does g (login_at p i) s
      → AfterService g (record_of p a) s.reply (record_of (served_at p i s).port a)
  does_record d {g} (takes x m h e) = store_record p a i at m (h a ∙ found_has p a i at) ∙ e ∙ ap g (sym (found_record p a i at))
  does_record d (rejects x y) = store_record p a i at (login_at p i) (found_has p a i at) ∙ sym (found_record p a i at)
  does_record d ends = drop_record p a i at d

  -- a login of the same address that says the same leaves the record as it was
  pub same_kept : (m : Login) → has_address a m ≡ true → record_at m ≡ record_at (login_at p i) → record_of (with_login p i m) a ≡ record_of p a
  same_kept m h e = store_record p a i at m h ∙ e ∙ sym (found_record p a i at)

  -- and so does an exchange that ends
  pub exchange_kept : (j : ℕ) → record_of (with_login p i (ended_at (login_at p i) j)) a ≡ record_of p a
  unfolding with_exchange has_address
  exchange_kept j = same_kept (ended_at (login_at p i) j) (found_has p a i at) refl

  module _ (d : pairs apart_login p.logins ≡ true) where
    -- the service of any code
    pub service_record : (code : ℕ) (sought : ℕ → Option ℕ) (f : List ℕ)
        → AfterService (effect_of code) (record_of p a) (served_at p i (service_of code (login_at p i) sought a f)).reply (record_of (served_at p i (service_of code (login_at p i) sought a f)).port a)
    service_record code sought f = does_record d (service_does code (login_at p i) sought a f)

module _ (p : Port) (d : pairs apart_login p.logins ≡ true) where
  -- PLOGI: what it ends, ends its sender's login
  ends_record : (v : Result ⊤ Fault) (a n : ℕ) → record_of (changed_all (ends_for v a n) p) a ≡ out
  ends_record (Ok tt) a n = host_record p d a n
  ends_record (Err t) a n = end_record p d a

  pub plogi_record : (a : ℕ) (q : Params) → AfterPlogi q (plogi_of p a q).reply (record_of (plogi_of p a q).port a)
  unfolding plogi_of
  plogi_record a q = outcome_record (changed_all (ends_by a q) p) a q (outcome_of (changed_all (ends_by a q) p) q) refl (ends_record (verdict_of q) a (name_of q.port_name))

  -- LOGO
  pub logo_record : (a named : ℕ) → AfterLogo (record_of p a) (logo_of p a named).reply (record_of (logo_of p a named).port a)
  unfolding logo_of
  logo_record a named = step (eqb named a)
    where
      step : (b : Bool) → AfterLogo (record_of p a) (cond b (decided_as (reply.Accept accepted.Short) (changed_all (EndLogin a) p)) (decided_as (reply.Reject 0x03 0x1f) p)).reply
          (record_of (cond b (decided_as (reply.Accept accepted.Short) (changed_all (EndLogin a) p)) (decided_as (reply.Reject 0x03 0x1f) p)).port a)
      step true = end_record p d a
      step false = refl
