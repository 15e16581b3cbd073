-- The calls that end an open exchange do, where they are not refused, and every call but the exchange's own next frame, and its data frame that is taken, leaves it open or ends it. Assumes nothing.
use Rattle.std.specs.Prelude.{Option, Some, None, Ok, Err, Result, ⊤}
use Rattle.params.specs.declared.Fault.{Fault as FailedTest}
use Prim.Native.Nat.{ℕ, zero, suc, ◌+◌, ◌<◌}
use mathlib.Core.Path.{◌≡◌, refl, sym, ap, ◌∙◌, subst}
use mathlib.Core.Bool.{Bool, true, false, cond, not, ◌&&◌, ◌||◌, or-true}
use mathlib.Core.Logic.{◌⊎◌, inl, inr, ⊎_elim}
use mathlib.Core.List.{List}
use native.Mathlib.Decide.{ℕ_discrete}
use native.Mathlib.Omega.{arith}
use lib.Dec.{eqb, leb}
use lib.ListN.{length, get_or, replicate}
use lib.Seq.{get_or-set_same}
use borrow.Author.Tests.{eqb-true, eq-eqb, ne_eqb, leb-false}
use Rattle.tables.specs.Lists.{on_found}
use Rattle.tables.proofs.Bools.{or_right, apart}
use Rattle.tables.proofs.Searches.{found_below}
use Rattle.wire.specs.Bytes.{num, part, name_of}
use Rattle.wire.specs.Layout.{AllBytes}
use Rattle.frame.specs.declared.Header.{Header}
use Rattle.frame.specs.Head.{header_of}
use Rattle.params.specs.declared.Params.{Params}
use Rattle.params.specs.Words.{params_of, verdict_of}
use Rattle.params.proofs.Exactly.{accepted, accepts_then}
use Rattle.refusal.specs.declared.Refusal.{Refusal}
use Rattle.state.specs.declared.Login.{Login}
use Rattle.state.specs.declared.Port.{Port}
use Rattle.state.specs.declared.Unit.{Unit}
use Rattle.state.specs.declared.Change.{Change}
use Rattle.state.specs.declared.Change.TheVariants.{EndAll, EndLogin, EndHost, EndUnproven, EndExchangesOf, Reset, Clear}
use Rattle.state.specs.Standing.{Open}
use Rattle.state.specs.Changes.{empty_exchange, empty_login, is_used, has_address, has_name, is_host, login_at, exchange_at, with_login, with_exchange, without_exchanges, ended_at, freed_of, ended_of, host_ended, verified, aborted_of, reset_of, loses_to, cleared_by, changed_of, changed_all}
use Rattle.state.specs.Tables.{is_free, has_id, find_login, find_exchange, free_login, login_in, login_of, lookup_of, sought_in}
use Rattle.state.proofs.Places.{found_has, open_place, open_exchange, open_has, login_inside, exchange_inside, stored_at, login_other, exchange_other}
use Rattle.formed.specs.Formed.{well_formed}
use Rattle.reply.specs.Reply.{silent, bytes_of}
use Rattle.calls.specs.declared.Served.{Served}
use Rattle.calls.specs.Turn.{Decided, served_at}
use Rattle.calls.proofs.Decisions.{by_cond, on_cond}
use Rattle.calls.proofs.Others.{at_changed, free_has, empty_has}
use Rattle.calls.proofs.Standing.{seat_found, stands_there}
use Rattle.link.specs.Login.{named_in, Moves}
use Rattle.link.specs.Link.{new_login, outcome_after, outcome_port, ends_for, ends_by, outcome_of, plogi_of, logo_of, pdisc_of, adisc_of, prlo_of, service_of, size_of, link_of, abts_of, names_differ, page_fine}
use Rattle.command.specs.declared.Task.{Task}
use Rattle.command.specs.declared.Task.TheVariants as task
use Rattle.command.specs.declared.CmndFault.{CmndFault}
use Rattle.command.specs.Cmnd.{cmnd_of, task_of}
use Rattle.command.specs.Command.{refused_with, execute_of, done_as, commanded_at, logged_out, command_of}
use Rattle.command.proofs.Logins.{Mild, task_mild}
use Rattle.command.proofs.Logins as mild
use Rattle.taking.specs.declared.Step.{Step}
use Rattle.taking.specs.declared.Untaken.{Untaken}
use Rattle.taking.specs.declared.Step.TheVariants.{Fault, Take}
use Rattle.taking.specs.declared.Untaken.TheVariants.{NoWrite, Uncovered}
use Rattle.taking.specs.Taking.{data_size, step_in, served_by, served_data, data_decided}
use Rattle.taking.proofs.Steps.{Means, step_means}
use Rattle.arrival.specs.Arrival.{unknown_form, known_pair, bad_sequence, form_of}
use Rattle.drive.specs.declared.Drive.{Drive}
use Rattle.drive.specs.declared.Answer.{Answer}
use Rattle.drive.specs.declared.Event.{Event}
use Rattle.drive.specs.declared.Event.TheVariants.{LoopReset, TimeOver, PowerOn}
use Rattle.drive.specs.Drive.{change_of, after_event, event_answer}
use Rattle.drive.specs.Entry.{decided_of, decided_in, reply_bytes, frame_in}
use Rattle.drive.proofs.Made.{event_answered}
use Rattle.drive.proofs.Ways.{frame_cases}
use Rattle.demands.specs.Between.{Call, frame, next, event, after, asked, EndsAll, Own, Service, pdisc_names, adisc_names, LeavesOpen, EndsOpen, Serves, Taken}
use Rattle.demands.specs.Between as call
use Rattle.demands.proofs.Lengths.{same_length}
use Rattle.demands.proofs.Between.{login_found, seat, sought_there, is_paired, own_command, login_there, command_form}

-- reading a list of free places gives a free one, past its end too
all_empty : (n m : ℕ) → get_or (replicate n empty_exchange) m empty_exchange ≡ empty_exchange
all_empty zero m = refl
all_empty (suc n) zero = refl
all_empty (suc n) (suc m) = all_empty n m

-- the exchange of a and x is open nowhere
module _ (a x : ℕ) where
  -- at no place of a login of a
  abbrev Lacks : Login → Type 0
  Lacks l = has_address a l ≡ true → (m : ℕ) → has_id x (exchange_at l m) ≡ true → ⊥

  -- at no login
  abbrev Gone : Port → Type 0
  Gone q = (k : ℕ) → Lacks (login_at q k)

  -- so a search for it finds none
  nowhere : (q : Port) → Gone q → (k m : ℕ) → lookup_of q a x ≡ Open k m → ⊥
  nowhere q g k m o = g k (found_has q a k (open_place q a x k m o)) m (open_has q a x k m o)

  -- at a login of another, and at a free place for one
  strange : (l : Login) → has_address a l ≡ false → Lacks l
  strange l n h m id = apart h n

  unused : (l : Login) → is_used l ≡ false → Lacks l
  unused l n = strange l (free_has a l n)

  empty : Lacks empty_login
  empty = strange empty_login (empty_has a)

  -- at a login without exchanges
  bare : (l : Login) → l.places ≡ replicate 8 empty_exchange → Lacks l
  unfolding exchange_at has_id
  bare l e h m id = apart id (rw (e, all_empty 8 m))

  -- the changes of every login that end it at a login
  data Ends (l : Login) : Change → Type 0 where
    ends_all : Ends l EndAll
    ends_login : Ends l (EndLogin a)
    ends_host : (b n : ℕ) → (has_address a l ≡ true → is_host b n l ≡ true) → Ends l (EndHost b n)
    ends_unproven : (eqb l.proven 1 ≡ true → Lacks l) → Ends l EndUnproven
    ends_exchanges : Ends l (EndExchangesOf a)
    resets : Ends l Reset
    clears : (b : ℕ) → Ends l (Clear b)

  -- each of them does
  lacks_then : (l : Login) (c : Change) → Ends l c → Lacks (changed_of c l)
  unfolding freed_of ended_of host_ended verified aborted_of reset_of cleared_by without_exchanges
  lacks_then l c ends_all = by_cond Lacks (is_used l) (λ _. empty) (unused l)
  lacks_then l c ends_login = by_cond Lacks (has_address a l) (λ _. empty) (strange l)
  lacks_then l c (ends_host b n s) = by_cond Lacks (is_host b n l) (λ _. empty) (λ other h. apart (s h) other)
  lacks_then l c (ends_unproven s) = by_cond Lacks (is_used l) (λ _. by_cond Lacks (eqb l.proven 1) s (λ _. empty)) (unused l)
  lacks_then l c ends_exchanges = by_cond Lacks (has_address a l) (λ _. bare _ refl) (strange l)
  lacks_then l c resets = by_cond Lacks (is_used l) (λ _. bare _ refl) (unused l)
  lacks_then l c (clears b) = by_cond Lacks (is_used l) (λ _. on_cond Lacks (loses_to b l) (bare _ refl) (bare _ refl)) (unused l)

  changed_gone : (q : Port) (c : Change) → ((k : ℕ) → Ends (login_at q k) c) → Gone (changed_all c q)
  changed_gone q c s k = subst Lacks (sym (at_changed q k c)) (lacks_then (login_at q k) c (s k))

  -- one login stored, where no other has it
  stored_gone : (q : Port) (i : ℕ) (m : Login) → i < length q.logins → Lacks m → ((k : ℕ) → (k ≡ i → ⊥) → Lacks (login_at q k)) → Gone (with_login q i m)
  stored_gone q i m below its others k =
      elim (ℕ_discrete k i) [
        | yes e ↦ subst Lacks (sym (ap (login_at (with_login q i m)) e ∙ stored_at q i m below)) its
        | no n ↦ subst Lacks (sym (login_other q i k m n)) (others k n)
      ]

-- an open exchange of a and x, at place j of the login at place i
module _ (u : Unit) (p : Port) (a x i j : ℕ) (w : well_formed u p ≡ true) (o : lookup_of p a x ≡ Open i j) where
  abbrev l : Login
  l = login_at p i

  -- it has ended in what is decided
  abbrev Over : Decided → Type 0
  Over r = Gone a x r.port

  -- it stands at no other place
  only_login : (k : ℕ) → (k ≡ i → ⊥) → Lacks a x (login_at p k)
  only_login k n has m id = let s = stands_there u p w a x k m has id in n (cc)

  only_place : (m : ℕ) → has_address a l ≡ true → has_id x (exchange_at l m) ≡ true → m ≡ j
  only_place m has id = let s = stands_there u p w a x i m has id in cc

  -- so it has ended where its login lacks it
  login_gone : (m : Login) → Lacks a x m → Gone a x (with_login p i m)
  login_gone m t = stored_gone a x p i m (login_inside p a x i j o) t only_login

  -- its place was freed
  place_free : has_id x (exchange_at (ended_at l j) j) ≡ false
  unfolding exchange_at with_exchange has_id
  place_free = ap (has_id x) (get_or-set_same l.places j empty_exchange empty_exchange (exchange_inside p a x i j o))

  freed : Lacks a x (ended_at l j)
  unfolding has_address with_exchange
  freed has m =
      elim (ℕ_discrete m j) [
        | yes e ↦ (λ id. apart id (ap (λ (k : ℕ). has_id x (exchange_at (ended_at l j) k)) e ∙ place_free))
        | no n ↦ (λ id. n (only_place m has (ap (has_id x) (sym (exchange_other l j m empty_exchange n)) ∙ id)))
      ]

  -- the login's time is over: it is unproven
  out_of_time : (l.proven ≡ 1 → ⊥) → Gone a x (changed_all EndUnproven p)
  out_of_time n = changed_gone a x p EndUnproven (λ k. ends_unproven (proven k))
    where
      proven : (k : ℕ) → eqb (login_at p k).proven 1 ≡ true → Lacks a x (login_at p k)
      proven k t =
          elim (ℕ_discrete k i) [
            | yes e ↦ absurd (n (eqb-true l.proven 1 (ap (λ (m : ℕ). eqb (login_at p m).proven 1) (sym e) ∙ t)))
            | no other ↦ only_login k other
          ]

  -- an FCP_CMND of whatever paired login that ends all exchanges
  task_gone : (b : ℕ) (t : Result Task CmndFault) (r : Decided) → (t ≡ Ok (task.Apply Reset)) ⊎ (t ≡ Ok (task.Apply (Clear b))) → Over (done_as t p r)
  task_gone b t r (inl e) = rw e (changed_gone a x p Reset (λ _. resets))
  task_gone b t r (inr e) = rw e (changed_gone a x p (Clear b) (λ _. clears b))

  all_gone : (h : Header) (f : List ℕ) → (login_of p h.s_id).paired ≡ 1
      → (task_of (cmnd_of f) (length f) h.s_id ≡ Ok (task.Apply Reset)) ⊎ (task_of (cmnd_of f) (length f) h.s_id ≡ Ok (task.Apply (Clear h.s_id))) → Over (command_of u p h f)
  unfolding command_of commanded_at login_of
  all_gone h f pair flags = by (find_login p h.s_id) pair
    where
      b : ℕ
      b = h.s_id

      by : (g : Option ℕ) → (login_in p g).paired ≡ 1 → Over (on_found g (λ k. cond (eqb (login_at p k).paired 1) (commanded_at u p k h (cmnd_of f) (length f)) (logged_out p b)) (logged_out p b))
      by (Some k) e = rw (eq-eqb (login_at p k).paired 1 e) (task_gone b (task_of (cmnd_of f) (length f) b) _ flags)
      by None e = absurd (omega arith)

  -- its own: abort task set, and a command of its OX_ID
  aborted_gone : (h : Header) (f : List ℕ) → h.s_id ≡ a → task_of (cmnd_of f) (length f) h.s_id ≡ Ok (task.Apply (EndExchangesOf a)) → Over (command_of u p h f)
  aborted_gone h f is asks = own_command u p a x i j w o Over h f (Ok (task.Apply (EndExchangesOf a))) is asks (changed_gone a x p (EndExchangesOf a) (λ _. ends_exchanges))

  again_gone : (h : Header) (f : List ℕ) → h.s_id ≡ a → task_of (cmnd_of f) (length f) h.s_id ≡ Ok task.Execute → h.ox_id ≡ x → Over (command_of u p h f)
  unfolding execute_of refused_with
  again_gone h f is asks its =
      own_command u p a x i j w o Over h f (Ok task.Execute) is asks
      (rw (its, sought_there u p a x i j w o x, open_exchange p a x i j o) (login_gone (ended_at l j) freed))

  -- ABTS
  abts_gone : (ox rx : ℕ) → ox ≡ x → rx ≡ 0xffff → Over (abts_of p a ox rx)
  unfolding abts_of
  abts_gone ox rx its whole = rw (its, whole, o) (login_gone (ended_at l j) freed)

  -- its own data frame that is answered with a frame: a fault
  data_gone : (h : Header) (size start len : ℕ) → h.s_id ≡ a → h.ox_id ≡ x → (silent (data_decided p h size start len).reply ≡ true → ⊥) → Over (data_decided p h size start len)
  unfolding data_decided served_data
  data_gone h size start len is its = rw (is, seat u p a x i j w o) (by (step_in l h size start len) (step_means l h.ox_id h.offset (data_size h size) start len))
    where
      by : (s : Result Step Untaken) → Means l h.ox_id h.offset (data_size h size) start len s → (silent (served_by s l (data_size h size)).reply ≡ true → ⊥) → Gone a x (with_login p i (served_by s l (data_size h size)).login)
      by (Err NoWrite) at loud = absurd (loud refl)
      by (Ok (Fault k code)) at loud =
          let there = open_exchange p a x i j o in
          let here = ap (find_exchange l) (sym its) ∙ at.found in
          let place : j ≡ k = cc in
          subst (λ (m : ℕ). Gone a x (with_login p i (ended_at l m))) place (login_gone (ended_at l j) freed)
      by (Err Uncovered) at loud = absurd (loud refl)
      by (Ok (Take k m)) at loud = absurd (loud refl)

  -- its login ended
  ended_gone : Gone a x (changed_all (EndLogin a) p)
  ended_gone = changed_gone a x p (EndLogin a) (λ _. ends_login)

  -- a new login has no exchange
  new_gone : (q : Params) (b k : ℕ) (ended : Port) → Gone a x ended → free_login ended ≡ Some k → Gone a x (with_login ended k (new_login b q))
  unfolding new_login free_login
  new_gone q b k ended g e = stored_gone a x ended k (new_login b q) (found_below empty_login is_free ended.logins e) (bare a x (new_login b q) refl) (λ n _. g n)

  -- a PLOGI that ends its login, accepted or not
  ends_gone : (b : ℕ) (q : Params) → ((v : Result ⊤ FailedTest) → verdict_of q ≡ v → Gone a x (changed_all (ends_for v b (name_of q.port_name)) p)) → Over (plogi_of p b q)
  unfolding plogi_of outcome_of
  ends_gone b q gone = by (verdict_of q) (free_login (changed_all (ends_by b q) p)) refl (gone (verdict_of q) refl)
    where
      name : ℕ
      name = name_of q.port_name

      by : (v : Result ⊤ FailedTest) (g : Option ℕ) → free_login (changed_all (ends_for v b name) p) ≡ g → Gone a x (changed_all (ends_for v b name) p)
          → Gone a x (outcome_port (outcome_after v g) (changed_all (ends_for v b name) p) (new_login b q))
      by (Ok tt) (Some k) e over = new_gone q b k (changed_all (EndHost b name) p) over e
      by (Ok tt) None e over = over
      by (Err t) g e over = over

  -- its own
  plogi_gone : (q : Params) → Over (plogi_of p a q)
  plogi_gone q = ends_gone a q (λ v _. by v)
    where
      by : (v : Result ⊤ FailedTest) → Gone a x (changed_all (ends_for v a (name_of q.port_name)) p)
      by (Ok tt) = changed_gone a x p (EndHost a (name_of q.port_name)) (λ _. ends_host a (name_of q.port_name) (λ h. rw h))
      by (Err t) = ended_gone

  -- one by which its host has moved
  moved_gone : (h : Header) (f : List ℕ) → Moves p a h f → Over (link_of p h f)
  unfolding link_of size_of
  moved_gone h f m = rw (m.plogi, m.size) (ends_gone b (params_of f 28) (λ v e. subst (λ (t : Result ⊤ FailedTest). Gone a x (changed_all (ends_for t b (named_in f)) p)) (sym (accepts_then (params_of f 28) m.tests) ∙ e) gone))
    where
      b : ℕ
      b = h.s_id

      named : (k : ℕ) → has_address a (login_at p k) ≡ true → is_host b (named_in f) (login_at p k) ≡ true
      named k has =
          let name : has_name (named_in f) (login_at p k) ≡ true = ap (has_name (named_in f)) (sym (login_found p a k (seat_found u p w a k has))) ∙ m.name in
          rw (name, or-true (has_address b (login_at p k)))

      gone : Gone a x (changed_all (EndHost b (named_in f)) p)
      gone = changed_gone a x p (EndHost b (named_in f)) (λ k. ends_host b (named_in f) (named k))

  -- its own link requests of right size
  module _ (f : List ℕ) where
    link_gone : (code : ℕ) → Service a code f → eqb (size_of code) 0 ≡ false
        → Over (cond (eqb code 0x03) (plogi_of p a (params_of f 28)) (cond (eqb code 0x05) (logo_of p a (num 3 f 29)) (served_at p i (service_of code l (sought_in p a) a f)))) → Over (link_of p (header_of f) f)
    unfolding link_of
    link_gone code s some t = rw (s.code_is, some, eq-eqb (length f) (24 + size_of code) s.sized, s.own.from, seat u p a x i j w o) t

    logo_gone : num 3 f 29 ≡ a → Over (logo_of p a (num 3 f 29))
    unfolding logo_of
    logo_gone named = rw (eq-eqb (num 3 f 29) a named) ended_gone

    prlo_lacks : page_fine (num 3 f 25) (get_or f 28 0) ≡ true → Lacks a x (service_of 0x21 l (sought_in p a) a f).login
    unfolding service_of prlo_of without_exchanges
    prlo_lacks fine = rw fine (bare a x _ refl)

    pdisc_lacks : (pdisc_names l f → ⊥) → Lacks a x (service_of 0x50 l (sought_in p a) a f).login
    unfolding service_of pdisc_of
    pdisc_lacks n = by_cond (λ (s : Served). Lacks a x s.login) (names_differ l (params_of f 28).port_name (params_of f 28).node_name) (λ _. empty a x) (λ same. absurd (n same))

    adisc_lacks : (adisc_names l f → ⊥) ⊎ (num 3 f 49 ≡ a → ⊥) → Lacks a x (service_of 0x52 l (sought_in p a) a f).login
    unfolding service_of adisc_of
    adisc_lacks why =
        by_cond Bare (names_differ l (part 8 f 32) (part 8 f 40)) (λ _. empty a x)
        (λ same. by_cond Bare (eqb (num 3 f 49) a) (λ named. absurd (either same (eqb-true (num 3 f 49) a named) why)) (λ _. empty a x))
      where
        Bare : Served → Type 0
        Bare s = Lacks a x s.login

        either : adisc_names l f → num 3 f 49 ≡ a → (adisc_names l f → ⊥) ⊎ (num 3 f 49 ≡ a → ⊥) → ⊥
        either same named (inl n) = n same
        either same named (inr n) = n named

-- the codes of the link requests
data Request : ℕ → Type 0 where
  plogi : Request 0x03
  logo : Request 0x05
  rrq : Request 0x12
  prli : Request 0x20
  prlo : Request 0x21
  pdisc : Request 0x50
  adisc : Request 0x52

-- every code that has a size is one of them
request : (c : ℕ) → (size_of c ≡ 0 → ⊥) → Request c
unfolding size_of
request c =
    by_cond Sized (eqb c 0x03) (is plogi)
    (λ _. by_cond Sized (eqb c 0x05) (is logo)
    (λ _. by_cond Sized (eqb c 0x12) (is rrq)
    (λ _. by_cond Sized (eqb c 0x20) (is prli)
    (λ _. by_cond Sized (eqb c 0x21) (is prlo)
    (λ _. by_cond Sized (eqb c 0x50) (is pdisc)
    (λ _. by_cond Sized (eqb c 0x52) (is adisc)
    (λ _ n. absurd (n refl))))))))
  where
    Sized : ℕ → Type 0
    Sized n = (n ≡ 0 → ⊥) → Request c

    is : {k n : ℕ} → Request k → eqb c k ≡ true → Sized n
    is {k} r e _ = subst Request (sym (eqb-true c k e)) r

-- whether a task ends all exchanges, and so whether a frame does
asks_all : (b : ℕ) (t : Result Task CmndFault) → Mild b t → Dec ((t ≡ Ok (task.Apply Reset)) ⊎ (t ≡ Ok (task.Apply (Clear b))))
asks_all b t (mild.fault m) = no (⊎_elim (λ e. let z : ◌≡◌ {A = ℕ} 0 1 = cc in absurd (omega arith)) (λ e. let z : ◌≡◌ {A = ℕ} 0 1 = cc in absurd (omega arith)))
asks_all b t mild.abort = no (⊎_elim (λ e. let z : ◌≡◌ {A = ℕ} 0 1 = cc in absurd (omega arith)) (λ e. let z : ◌≡◌ {A = ℕ} 0 1 = cc in absurd (omega arith)))
asks_all b t mild.reset = yes (inl refl)
asks_all b t mild.clear = yes (inr refl)
asks_all b t mild.execute = no (⊎_elim (λ e. let z : ◌≡◌ {A = ℕ} 0 1 = cc in absurd (omega arith)) (λ e. let z : ◌≡◌ {A = ℕ} 0 1 = cc in absurd (omega arith)))

all_or_not : (p : Port) (f : List ℕ) → Dec (EndsAll p f)
all_or_not p f =
    elim (ℕ_discrete (header_of f).r_ctl 0x06) [
      | no n ↦ no (λ e. n e.command)
      | yes command ↦ elim (ℕ_discrete (login_of p (header_of f).s_id).paired 1) [
        | no n ↦ no (λ e. n e.paired)
        | yes paired ↦ elim (asks_all (header_of f).s_id (asked f) (task_mild (cmnd_of f) (length f) (header_of f).s_id)) [
          | no n ↦ no (λ e. n e.flags)
          | yes flags ↦ yes record { command = command; paired = paired; flags = flags }
        ]
      ]
    ]

-- whether a frame is one by which the host of a has moved
pub moved_or_not : (p : Port) (a : ℕ) (h : Header) (f : List ℕ) → Dec (Moves p a h f)
moved_or_not p a h f =
    elim (ℕ_discrete h.r_ctl 0x22) [
      | no n ↦ no (λ m. n m.link)
      | yes link ↦ elim (ℕ_discrete (get_or f 24 0) 3) [
        | no n ↦ no (λ m. n m.plogi)
        | yes code ↦ elim (ℕ_discrete (length f) 140) [
          | no n ↦ no (λ m. n m.size)
          | yes size ↦ by link code size (verdict_of (params_of f 28)) (has_name (named_in f) (login_of p a)) refl refl
        ]
      ]
    ]
  where
    by : h.r_ctl ≡ 0x22 → get_or f 24 0 ≡ 3 → length f ≡ 140 → (v : Result ⊤ FailedTest) (b : Bool) → verdict_of (params_of f 28) ≡ v → has_name (named_in f) (login_of p a) ≡ b → Dec (Moves p a h f)
    by link code size (Ok tt) true e k = yes record { link = link; plogi = code; size = size; tests = accepted (params_of f 28) e; name = k }
    by link code size (Ok tt) false e k = no (λ m. apart m.name k)
    by link code size (Err t) b e k = no (λ m. let c = sym (accepts_then (params_of f 28) m.tests) ∙ e in let z : ◌≡◌ {A = ℕ} 0 1 = cc in absurd (omega arith))

-- a link request that passes has a payload
has_payload : (h : Header) (n : ℕ) → unknown_form h n ≡ false → h.r_ctl ≡ 0x22 → 24 < n
unfolding unknown_form
has_payload h n known is =
    let others = not (known_pair h.r_ctl h.protocol) || not (eqb h.df_ctl 0) || bad_sequence h n in
    leb-false n 24 (rw (eq-eqb h.r_ctl 0x22 is) at (or_right others (eqb h.r_ctl 0x22 && leb n 24) known))

-- a reply that is none has no bytes
silent_none : (d : Drive) (h : Header) (r : Decided) → silent r.reply ≡ true → ◌≡◌ {A = Result ℕ Refusal} (Ok (length (reply_bytes d h r))) (Ok 0)
unfolding reply_bytes bytes_of
silent_none d h r s = rw s

-- at the entries
module _ (d : Drive) (a x i j : ℕ) (w : well_formed d.unit d.port ≡ true) (o : lookup_of d.port a x ≡ Open i j) where
  abbrev u : Unit
  u = d.unit

  abbrev p : Port
  p = d.port

  -- a frame that is not refused is decided
  frame_over : (f : List ℕ) (start : ℕ) (W : List ℕ) (room : ℕ) (known : AllBytes f) → Taken d (frame f start W room known) → Gone a x (decided_in d f start (length W)).port → Gone a x (frame_in d f start W room).drive.port
  frame_over f start W room known t g =
      frame_cases d f start W room (λ (r : Answer). r.said ≡ Ok t.n → Gone a x r.drive.port) (λ r _ e. let z : ◌≡◌ {A = ℕ} 0 1 = cc in absurd (omega arith)) (λ _ _. g) t.said

  own_over : (f : List ℕ) (start : ℕ) (W : List ℕ) (room : ℕ) (known : AllBytes f) (rctl : ℕ) → Taken d (frame f start W room known) → (header_of f).r_ctl ≡ rctl → Gone a x (decided_of u p (header_of f) (form_of rctl) f start (length W)).port → Gone a x (frame_in d f start W room).drive.port
  own_over f start W room known rctl t its g = frame_over f start W room known t (subst (λ (n : ℕ). Gone a x (decided_of u p (header_of f) (form_of n) f start (length W)).port) (sym its) g)

  -- a fault: what is answered has bytes
  fault_over : (f : List ℕ) (start : ℕ) (W : List ℕ) (room : ℕ) (known : AllBytes f) → Taken d (frame f start W room known) → Own a 0x01 f → (header_of f).ox_id ≡ x
      → ((frame_in d f start W room).said ≡ Ok 0 → ⊥) → Gone a x (frame_in d f start W room).drive.port
  unfolding form_of
  fault_over f start W room known t its same =
      frame_cases d f start W room (λ (r : Answer). r.said ≡ Ok t.n → (r.said ≡ Ok 0 → ⊥) → Gone a x r.drive.port) (λ r _ e _. let z : ◌≡◌ {A = ℕ} 0 1 = cc in absurd (omega arith))
      (λ _ _ some. subst (λ (r : Decided). Gone a x r.port) (sym decided) (data_gone u p a x i j w o (header_of f) (length f) start (length W) its.from same (λ quiet. some (bare_said quiet)))) t.said
    where
      decided : decided_in d f start (length W) ≡ data_decided p (header_of f) (length f) start (length W)
      decided = rw its.form

      bare_said : silent (data_decided p (header_of f) (length f) start (length W)).reply ≡ true → ◌≡◌ {A = Result ℕ Refusal} (Ok (length (reply_bytes d (header_of f) (decided_in d f start (length W))))) (Ok 0)
      bare_said quiet = silent_none d (header_of f) (decided_in d f start (length W)) (ap (λ (r : Decided). silent r.reply) decided ∙ quiet)

  event_over : (e : Event) → Gone a x (changed_all (change_of e) p) → Gone a x (event_answer d e).drive.port
  unfolding after_event
  event_over e g = subst (λ (r : Answer). Gone a x r.drive.port) (sym (event_answered d e w)) g

  -- each of the calls that end it
  over : (c : Call) → Taken d c → EndsOpen d a x c → Gone a x (after d c).port
  unfolding form_of size_of
  over c t call.power_on = event_over PowerOn (changed_gone a x p EndAll (λ _. ends_all))
  over c t (call.time_out n) = event_over TimeOver (out_of_time u p a x i j w o (λ e. n (ap (λ (m : Login). m.proven) (login_there u p a x i j w o) ∙ e)))
  over c t (call.all_end f start W room known e) = own_over f start W room known 0x06 t e.command (all_gone u p a x i j w o (header_of f) f e.paired e.flags)
  over c t (call.moved f start W room known n m) = own_over f start W room known 0x22 t m.link (moved_gone u p a x i j w o (header_of f) f m)
  over c t (call.aborts_set f start W room known its asks) = own_over f start W room known 0x06 t its.form (aborted_gone u p a x i j w o (header_of f) f its.from asks)
  over c t (call.again f start W room known its asks same) = own_over f start W room known 0x06 t its.form (again_gone u p a x i j w o (header_of f) f its.from asks same)
  over c t (call.abts f start W room known its same whole) =
      own_over f start W room known 0x81 t its.form
      (subst (λ (b : ℕ). Gone a x (abts_of p b (header_of f).ox_id (header_of f).rx_id).port) (sym its.from) (abts_gone u p a x i j w o (header_of f).ox_id (header_of f).rx_id same whole))
  over c t (call.faulted f start W room known its same some) = fault_over f start W room known t its same some
  over c t (call.plogi f start W room known s) = own_over f start W room known 0x22 t s.own.form (link_gone u p a x i j w o f 0x03 s refl (plogi_gone u p a x i j w o (params_of f 28)))
  over c t (call.logo f start W room known s named) = own_over f start W room known 0x22 t s.own.form (link_gone u p a x i j w o f 0x05 s refl (logo_gone u p a x i j w o f named))
  over c t (call.prlo f start W room known s fine) = own_over f start W room known 0x22 t s.own.form (link_gone u p a x i j w o f 0x21 s refl (login_gone u p a x i j w o _ (prlo_lacks u p a x i j w o f fine)))
  over c t (call.pdisc_differs f start W room known s n) =
      own_over f start W room known 0x22 t s.own.form
      (link_gone u p a x i j w o f 0x50 s refl (login_gone u p a x i j w o _ (pdisc_lacks u p a x i j w o f (rw (login_there u p a x i j w o) at n))))
  over c t (call.adisc_differs f start W room known s why) =
      own_over f start W room known 0x22 t s.own.form
      (link_gone u p a x i j w o f 0x52 s refl (login_gone u p a x i j w o _ (adisc_lacks u p a x i j w o f (rw (login_there u p a x i j w o) at why))))

  -- and so it is open nowhere
  pub ends_open : (c : Call) → Taken d c → EndsOpen d a x c → (k m : ℕ) → lookup_of (after d c).port a x ≡ Open k m → ⊥
  ends_open c t e = nowhere a x (after d c).port (over c t e)

  -- a call leaves it open, or is not refused and ends it
  abbrev Sorted : Call → Type 0
  Sorted c = LeavesOpen d a x c ⊎ (Taken d c × EndsOpen d a x c)

  -- a frame that is not refused
  module _ (f : List ℕ) (start : ℕ) (W : List ℕ) (room : ℕ) (known : AllBytes f) (strange_one : Serves d a x (frame f start W room known) → ⊥) (t : Taken d (frame f start W room known)) where
    abbrev its : Call
    its = frame f start W room known

    -- of another sender
    other_sorted : ((header_of f).s_id ≡ a → ⊥) → Sorted its
    other_sorted n =
        elim (all_or_not p f) [
          | yes all ↦ inr (t, call.all_end f start W room known all)
          | no spares ↦ elim (moved_or_not p a (header_of f) f) [
            | yes moves ↦ inr (t, call.moved f start W room known n moves)
            | no still ↦ inl (call.other f start W room known n spares still)
          ]
        ]

    -- ABTS
    abts_sorted : Own a 0x81 f → Sorted its
    abts_sorted own =
        elim (ℕ_discrete (header_of f).ox_id x) [
          | no n ↦ inl (call.abts_other f start W room known own n)
          | yes same ↦ elim (ℕ_discrete (header_of f).rx_id 0xffff) [
            | no n ↦ inl (call.abts_rejected f start W room known own n)
            | yes whole ↦ inr (t, call.abts f start W room known own same whole)
          ]
        ]

    -- FCP_DATA: one that is taken serves it
    data_sorted : Own a 0x01 f → Sorted its
    data_sorted own =
        elim (ℕ_discrete (header_of f).ox_id x) [
          | no n ↦ inl (call.data_other f start W room known own n)
          | yes same ↦ elim (ℕ_discrete t.n 0) [
            | yes none ↦ absurd (strange_one (own, same, t.said ∙ ap Ok none))
            | no some ↦ inr (t, call.faulted f start W room known own same (λ e. some (same_length t.n 0 (sym t.said ∙ e))))
          ]
        ]

    -- FCP_CMND, by what it asks for; its login is paired
    command_sorted : Own a 0x06 f → Sorted its
    command_sorted own = by (asked f) refl (task_mild (cmnd_of f) (length f) (header_of f).s_id)
      where
        paired : (login_of p (header_of f).s_id).paired ≡ 1
        paired = rw (own.from, login_there u p a x i j w o) (eqb-true (login_at p i).paired 1 (is_paired u p a x i j w o))

        by : (k : Result Task CmndFault) → asked f ≡ k → Mild (header_of f).s_id k → Sorted its
        by k e (mild.fault m) = inl (call.coded f start W room known m own e)
        by k e mild.abort = inr (t, call.aborts_set f start W room known own (e ∙ ap (λ (b : ℕ). Ok (task.Apply (EndExchangesOf b))) own.from))
        by k e mild.reset = inr (t, call.all_end f start W room known record { command = own.form; paired = paired; flags = inl e })
        by k e mild.clear = inr (t, call.all_end f start W room known record { command = own.form; paired = paired; flags = inr e })
        by k e mild.execute =
            elim (ℕ_discrete (header_of f).ox_id x) [
              | yes same ↦ inr (t, call.again f start W room known own e same)
              | no n ↦ inl (call.command_other f start W room known own e n)
            ]

    -- a link request of right size, by its code
    request_sorted : (c : ℕ) → Request c → Service a c f → Sorted its
    request_sorted c plogi s = inr (t, call.plogi f start W room known s)
    request_sorted c logo s =
        elim (ℕ_discrete (num 3 f 29) a) [
          | yes named ↦ inr (t, call.logo f start W room known s named)
          | no n ↦ inl (call.logo_rejected f start W room known s n)
        ]
    request_sorted c rrq s = inl (call.rrq f start W room known s)
    request_sorted c prli s = inl (call.prli f start W room known s)
    request_sorted c prlo s = by (page_fine (num 3 f 25) (get_or f 28 0)) refl
      where
        by : (b : Bool) → page_fine (num 3 f 25) (get_or f 28 0) ≡ b → Sorted its
        by true e = inr (t, call.prlo f start W room known s e)
        by false e = inl (call.prlo_rejected f start W room known s e)
    request_sorted c pdisc s = by (names_differ (login_of p a) (params_of f 28).port_name (params_of f 28).node_name) refl
      where
        by : (b : Bool) → names_differ (login_of p a) (params_of f 28).port_name (params_of f 28).node_name ≡ b → Sorted its
        by true e = inr (t, call.pdisc_differs f start W room known s (apart e))
        by false e = inl (call.pdisc f start W room known s e)
    request_sorted c adisc s = by (names_differ (login_of p a) (part 8 f 32) (part 8 f 40)) refl
      where
        by : (b : Bool) → names_differ (login_of p a) (part 8 f 32) (part 8 f 40) ≡ b → Sorted its
        by true e = inr (t, call.adisc_differs f start W room known s (inl (apart e)))
        by false e =
            elim (ℕ_discrete (num 3 f 49) a) [
              | yes named ↦ inl (call.adisc f start W room known s e named)
              | no n ↦ inr (t, call.adisc_differs f start W room known s (inr n))
            ]

    -- a link request: another code has no size, and so none with a payload
    link_sorted : Own a 0x22 f → 24 < length f → Sorted its
    link_sorted own long =
        elim (ℕ_discrete (length f) (24 + size_of (get_or f 24 0))) [
          | yes e ↦ request_sorted (get_or f 24 0) (request (get_or f 24 0) (λ none. absurd (omega arith))) record { own = own; code_is = refl; sized = e }
          | no n ↦ inl (call.unsized f start W room known own n)
        ]

    -- its own frames, by their R_CTL
    own_sorted : unknown_form (header_of f) (length f) ≡ false → (header_of f).s_id ≡ a → Sorted its
    unfolding form_of
    own_sorted form is =
        elim (ℕ_discrete (header_of f).r_ctl 0x22) [
          | yes e ↦ link_sorted record { from = is; form = e } (has_payload (header_of f) (length f) form e)
          | no link ↦ elim (ℕ_discrete (header_of f).r_ctl 0x23) [
            | yes e ↦ inl (call.done f start W room known record { from = is; form = e })
            | no done ↦ elim (ℕ_discrete (header_of f).r_ctl 0x81) [
              | yes e ↦ abts_sorted record { from = is; form = e }
              | no abort ↦ elim (ℕ_discrete (header_of f).r_ctl 0x01) [
                | yes e ↦ data_sorted record { from = is; form = e }
                | no other ↦ command_sorted
                    record { from = is; form = command_form (header_of f) (length f) form (rw (ne_eqb (header_of f).r_ctl 0x22 link, ne_eqb (header_of f).r_ctl 0x23 done, ne_eqb (header_of f).r_ctl 0x81 abort, ne_eqb (header_of f).r_ctl 0x01 other)) }
              ]
            ]
          ]
        ]

    frame_sorted : unknown_form (header_of f) (length f) ≡ false → Sorted its
    frame_sorted form =
        elim (ℕ_discrete (header_of f).s_id a) [
          | yes is ↦ own_sorted form is
          | no n ↦ other_sorted n
        ]

  -- an event is not refused
  event_taken : (e : Event) → Taken d (event e)
  event_taken e = record { n = 0; said = ap (λ (r : Answer). r.said) (event_answered d e w) }

  event_sorted : (e : Event) → Sorted (event e)
  event_sorted LoopReset = inl call.loop_reset
  event_sorted TimeOver =
      elim (ℕ_discrete (login_of p a).proven 1) [
        | yes e ↦ inl (call.time_over e)
        | no n ↦ inr (event_taken TimeOver, call.time_out n)
      ]
  event_sorted PowerOn = inr (event_taken PowerOn, call.power_on)

  -- a frame is refused, or its form is known and it is answered
  answer_sorted : (f : List ℕ) (start : ℕ) (W : List ℕ) (room : ℕ) (known : AllBytes f) → (Serves d a x (frame f start W room known) → ⊥) → Sorted (frame f start W room known)
  answer_sorted f start W room known strange_one =
      frame_cases d f start W room By (λ r _ refuses _. refuses r refl) (λ passes _ answers. answers _ refl passes.arrived.known) (λ r e. inl (call.refused r e)) (λ n e. frame_sorted f start W room known strange_one record { n = n; said = e })
    where
      S : Type 0
      S = Sorted (frame f start W room known)

      By : Answer → Type 0
      By s = ((r : Refusal) → s.said ≡ Err r → S) → ((n : ℕ) → s.said ≡ Ok n → unknown_form (header_of f) (length f) ≡ false → S) → S

  -- each call
  pub no_third_call : (c : Call) → (Serves d a x c → ⊥) → LeavesOpen d a x c ⊎ (Taken d c × EndsOpen d a x c)
  no_third_call (frame f start W room known) n = answer_sorted f start W room known n
  no_third_call (next b y start W room) n = inl (call.next_other b y start W room n)
  no_third_call (event e) n = event_sorted e
