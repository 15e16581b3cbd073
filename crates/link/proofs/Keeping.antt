-- No link service makes a state ill formed. Assumes nothing.
use Rattle.std.specs.Prelude.{Option, Some, None, Ok, Err, Result, ⊤}
use mathlib.Core.Path.{◌≡◌, refl, ap}
use mathlib.Core.Bool.{Bool, true, false, cond, not}
use mathlib.Core.List.{List}
use Prim.Native.Nat.{ℕ, ◌+◌}
use lib.Dec.{eqb}
use lib.ListN.{length, get_or}
use Rattle.tables.specs.Lists.{all, on_found}
use Rattle.tables.proofs.Keeping.{all_always, all_map}
use Rattle.wire.specs.Bytes.{num, part, name_of}
use Rattle.frame.specs.declared.Header.{Header}
use Rattle.address.specs.Address.{valid_address}
use Rattle.params.specs.declared.Params.{Params}
use Rattle.params.specs.declared.Fault.{Fault}
use Rattle.params.specs.declared.Fault.TheVariants.{PortName, NodeName, DataSize, ConcurrentSequences, OpenSequences}
use Rattle.params.specs.Words.{params_of, fails, verdict_of}
use Rattle.params.proofs.Exactly.{accepted}
use Rattle.state.specs.declared.Login.{Login}
use Rattle.state.specs.declared.Port.{Port}
use Rattle.state.specs.declared.Unit.{Unit}
use Rattle.state.specs.declared.Change.TheVariants.{EndLogin, EndHost}
use Rattle.state.specs.Standing.{Standing, Open, NoExchange, NoLogin}
use Rattle.state.specs.Changes.{empty_login, is_used, has_address, has_name, is_host, login_at, with_login, with_exchange, without_exchanges, host_ended, ended_at, changed_all}
use Rattle.state.specs.Tables.{find_login, free_login, lookup_of, sought_in}
use Rattle.state.proofs.Places.{found_used, open_place}
use Rattle.formed.specs.Formed.{full_frame, params_fine, flags_fine, address_fine, login_fine, well_formed}
use Rattle.formed.proofs.Parts.{fine_used, used_fine_lem}
use Rattle.formed.proofs.Keeping.{none_fine, none_apart, proven_used, paired_used, unpaired_used, end_used, change_kept, store_kept, update_kept}
use Rattle.calls.specs.declared.Served.{Served}
use Rattle.calls.specs.Turn.{Decided, served_at}
use Rattle.calls.proofs.Keeping.{Keeps, gone, stays, stored_kept}
use Rattle.link.specs.Link.{size_of, new_login, outcome_after, ends_for, ends_by, outcome_of, outcome_port, plogi_of, proven_by, names_differ, pdisc_of, adisc_of, logo_of, pair_fine, page_fine, prli_of, prlo_of, rrq_of, service_of, link_of, aborted_at, abts_of}

module _ (u : Unit) (own : ℕ) (l : Login) where
  abbrev Mild : Served → Type 0
  Mild s = Keeps u own l s.login

  itself : Keeps u own l l
  itself = stays refl refl refl (λ h. h)

  mild_cond : (b : Bool) (s t : Served) → Mild s → Mild t → Mild (cond b s t)
  mild_cond true s t p q = p
  mild_cond false s t p q = q

  proven_mild : (v : Result ⊤ Fault) → Mild (proven_by v l)
  proven_mild (Ok tt) = stays refl refl refl (λ h. proven_used h 1 refl)
  proven_mild (Err t) = itself

  rrq_mild : (f : Option ℕ) (s t : Served) → Mild s → Mild t → Mild (on_found f (λ _. s) t)
  rrq_mild (Some j) s t p q = p
  rrq_mild None s t p q = q

  service_mild : (code : ℕ) (sought : ℕ → Option ℕ) (from : ℕ) (f : List ℕ) → Mild (service_of code l sought from f)
  unfolding service_of pdisc_of adisc_of prli_of prlo_of rrq_of without_exchanges
  service_mild code sought from f =
      mild_cond (eqb code 0x50) _ _ (mild_cond (names_differ l (params_of f 28).port_name (params_of f 28).node_name) _ _ gone (proven_mild (verdict_of (params_of f 28))))
      (mild_cond (eqb code 0x52) _ _
      (mild_cond (names_differ l (part 8 f 32) (part 8 f 40)) _ _ gone (mild_cond (eqb (num 3 f 49) from) _ _ (stays refl refl refl (λ h. proven_used h 1 refl)) gone))
      (mild_cond (eqb code 0x20) _ _ (mild_cond (pair_fine (num 3 f 25) (get_or f 28 0) (get_or f 30 0) (get_or f 43 0)) _ _ (stays refl refl refl (λ h. paired_used h)) itself)
      (mild_cond (eqb code 0x21) _ _ (mild_cond (page_fine (num 3 f 25) (get_or f 28 0)) _ _ (stays refl refl refl (λ h. unpaired_used h)) itself)
      (mild_cond (eqb (num 3 f 29) from) _ _ (rrq_mild (sought (num 2 f 32)) _ _ itself itself) itself))))

-- once the logins of an address and of a port name have ended, no login has either
gone_step : (a n : ℕ) (l : Login) (b : Bool) → is_host a n l ≡ b → not (is_host a n (cond b empty_login l)) ≡ true
unfolding has_address has_name
gone_step a n l true e = refl
gone_step a n l false e = ap not e

pub host_gone_lem : (p : Port) (a n : ℕ) → all (λ m. not (is_host a n m)) (changed_all (EndHost a n) p).logins ≡ true
unfolding changed_all host_ended
host_gone_lem p a n =
    all_map (λ _. true) (λ m. not (is_host a n m)) (host_ended a n) (λ l _. gone_step a n l (is_host a n l) refl) p.logins (all_always (λ _. true) (λ _. refl) p.logins)

-- the login that an accepted PLOGI stores is fine
pub new_fine : (u : Unit) (own from : ℕ) (q : Params) → valid_address from ≡ true → eqb from own ≡ false → ((t : Fault) → fails q t ≡ false) → login_fine u own (new_login from q) ≡ true
unfolding new_login flags_fine address_fine params_fine
new_fine u own from q valid other pass =
    used_fine_lem {l = new_login from q} refl
    (record {
      flags = refl;
      address = rw (valid, other);
      params = rw (pass PortName, pass NodeName, pass DataSize, pass ConcurrentSequences, pass OpenSequences);
      exchanges = none_fine u (full_frame q.size) 0;
      ids = none_apart;
    })

-- the port of one of two answers
pub port_cond : (u : Unit) (b : Bool) (d e : Decided) → well_formed u d.port ≡ true → well_formed u e.port ≡ true → well_formed u (cond b d e).port ≡ true
port_cond u true d e x y = x
port_cond u false d e x y = y

module _ (u : Unit) (p : Port) (w : well_formed u p ≡ true) (from : ℕ) (valid : valid_address from ≡ true) (other : eqb from p.address ≡ false) where
  abbrev Kept : Port → Type 0
  Kept q = well_formed u q ≡ true

  -- PLOGI
  place_kept : (q : Params) (v : Result ⊤ Fault) → verdict_of q ≡ v → (g : Option ℕ) → Kept (outcome_port (outcome_after v g) (changed_all (ends_for v from (name_of q.port_name)) p) (new_login from q))
  unfolding changed_all new_login
  place_kept q (Ok tt) e (Some i) =
      let name = name_of q.port_name in
      store_kept u (changed_all (EndHost from name) p) (change_kept u p w (EndHost from name)) i (new_login from q) (new_fine u p.address from q valid other (accepted q e)) (host_gone_lem p from name)
  place_kept q (Ok tt) e None = change_kept u p w (EndHost from (name_of q.port_name))
  place_kept q (Err t) e g = change_kept u p w (EndLogin from)

  pub plogi_kept : (q : Params) → Kept (plogi_of p from q).port
  unfolding plogi_of outcome_of
  plogi_kept q = place_kept q (verdict_of q) refl (free_login (changed_all (ends_by from q) p))

  pub logo_kept : (named : ℕ) → Kept (logo_of p from named).port
  unfolding logo_of
  logo_kept named = port_cond u (eqb named from) _ _ (change_kept u p w (EndLogin from)) w

  -- a service on the sender's login
  served_kept : (g : Option ℕ) → find_login p from ≡ g → (code : ℕ) (f : List ℕ) (d : Decided) → Kept d.port
      → Kept (on_found g (λ i. served_at p i (service_of code (login_at p i) (sought_in p from) from f)) d).port
  served_kept (Some i) e code f d x = stored_kept u p w from i _ e (service_mild u p.address (login_at p i) code (sought_in p from) from f)
  served_kept None e code f d x = x

-- no frame to the link services makes a state ill formed, whose sender is a valid address and not ours
pub link_kept : (u : Unit) (p : Port) (h : Header) (f : List ℕ) → valid_address h.s_id ≡ true → eqb h.s_id p.address ≡ false → well_formed u p ≡ true → well_formed u (link_of p h f).port ≡ true
unfolding link_of
link_kept u p h f valid other w =
    let from = h.s_id in
    let code = get_or f 24 0 in
    let c = port_cond u in
    c (eqb (size_of code) 0) _ _ w
    (c (not (eqb (length f) (24 + size_of code))) _ _ w
    (c (eqb code 0x03) _ _ (plogi_kept u p w from valid other (params_of f 28))
    (c (eqb code 0x05) _ _ (logo_kept u p w from valid other (num 3 f 29))
    (served_kept u p w from valid other (find_login p from) refl code f _ w))))

aborted_kept : (u : Unit) (p : Port) (from ox rx : ℕ) (s : Standing) → lookup_of p from ox ≡ s → well_formed u p ≡ true → well_formed u (aborted_at s rx p).port ≡ true
unfolding with_exchange
aborted_kept u p from ox rx NoLogin e w = w
aborted_kept u p from ox rx (NoExchange i) e w = port_cond u (eqb rx 0xffff) _ _ w w
aborted_kept u p from ox rx (Open i j) e w = port_cond u (eqb rx 0xffff) _ _ ended w
  where
    used : is_used (login_at p i) ≡ true
    used = found_used p from i (open_place p from ox i j e)

    ended : well_formed u (with_login p i (ended_at (login_at p i) j)) ≡ true
    ended = update_kept u p w i (ended_at (login_at p i) j) refl refl refl (λ f. used_fine_lem {l = ended_at (login_at p i) j} used (end_used (fine_used used f) j))

-- nor does an ABTS
pub abts_kept : (u : Unit) (p : Port) (from ox rx : ℕ) → well_formed u p ≡ true → well_formed u (abts_of p from ox rx).port ≡ true
unfolding abts_of
abts_kept u p from ox rx w = aborted_kept u p from ox rx (lookup_of p from ox) refl w
