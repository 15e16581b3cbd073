-- The calls between the frames of an open exchange that leave it open do: its login stands at its place with its address and size, and the exchange at its own, as it was. Assumes nothing.
use Rattle.std.specs.Prelude.{Option, Some, None, Err, Ok, Result, ⊤}
use Rattle.params.specs.declared.Fault.{Fault as FailedTest}
use Prim.Native.Nat.{ℕ, ◌+◌}
use mathlib.Core.Path.{◌≡◌, refl, sym, ap, ◌∙◌, subst}
use mathlib.Core.Bool.{Bool, true, false, cond, not, ◌&&◌, ◌||◌}
use mathlib.Core.Logic.{◌⊎◌, inl, inr}
use mathlib.Core.List.{List}
use native.Mathlib.Decide.{ℕ_discrete}
use native.Mathlib.Omega.{arith}
use lib.Dec.{eqb, leb}
use lib.ListN.{length, get_or}
use borrow.Author.Tests.{eqb-true, eq-eqb, ne_eqb, not-true, not-false}
use Rattle.tables.proofs.Bools.{and_right, or_left, apart}
use Rattle.tables.proofs.Searches.{found_passes}
use Rattle.wire.specs.Bytes.{num, name_of}
use Rattle.wire.specs.Layout.{AllBytes}
use Rattle.frame.specs.declared.Header.{Header}
use Rattle.frame.specs.Head.{header_of}
use Rattle.params.specs.declared.Params.{Params}
use Rattle.params.specs.Words.{params_of, verdict_of}
use Rattle.refusal.specs.declared.Refusal.{Refusal}
use Rattle.refusal.specs.declared.Refusal.TheVariants.{ShortBuffer, IllFormed}
use Rattle.state.specs.declared.Exchange.{Exchange}
use Rattle.state.specs.declared.Login.{Login}
use Rattle.state.specs.declared.Port.{Port}
use Rattle.state.specs.declared.Unit.{Unit}
use Rattle.state.specs.declared.Change.{Change}
use Rattle.state.specs.declared.Change.TheVariants.{Keep, EndLogin, EndHost, Unprove, EndUnproven, EndExchangesOf, Reset, Clear}
use Rattle.state.specs.Standing.{Standing, Open, NoExchange, NoLogin}
use Rattle.state.specs.Changes.{empty_exchange, empty_login, is_used, is_closed, has_address, has_name, login_at, exchange_at, with_login, with_state, with_places, with_exchange, ended_at, ended_of, host_ended, unproven, verified, aborted_of, changed_of, changed_all}
use Rattle.state.specs.Tables.{is_free, has_id, find_login, free_login, find_exchange, free_exchange, login_in, login_of, lookup_of, sought_in}
use Rattle.state.proofs.Places.{found_has, found_used, open_place, open_exchange, open_has, open_open, login_stored, login_other, exchange_other}
use Rattle.formed.specs.Formed.{total, well_formed}
use Rattle.calls.specs.declared.Served.{Served}
use Rattle.calls.specs.Turn.{Decided, served_at}
use Rattle.calls.proofs.Decisions.{by_cond, on_cond, on_found_lem}
use Rattle.calls.proofs.Others.{at_changed, other_has}
use Rattle.calls.proofs.Standing.{stands_there}
use Rattle.calls.proofs.Views.{sought_is}
use Rattle.link.specs.Login.{named_in, Moves}
use Rattle.link.proofs.Others.{unmoved}
use Rattle.link.specs.Link.{new_login, outcome_after, outcome_port, ends_for, ends_by, outcome_of, plogi_of, logo_of, pdisc_of, adisc_of, prli_of, prlo_of, rrq_of, service_of, size_of, link_of, aborted_at, abts_of, proven_by, pair_fine, page_fine}
use Rattle.command.specs.declared.Cmnd.{Cmnd}
use Rattle.command.specs.declared.Task.{Task}
use Rattle.command.specs.declared.Task.TheVariants as task
use Rattle.command.specs.declared.CmndFault.{CmndFault}
use Rattle.command.specs.declared.Check.{Check}
use Rattle.command.specs.declared.Check.TheVariants.{Attention}
use Rattle.command.specs.Cmnd.{cmnd_of, task_of}
use Rattle.command.specs.Tests.{asked_of}
use Rattle.command.specs.Command.{refused_with, reports, told_of, bit_for, opened_of, answered_as, execute_of, done_as, commanded_at, logged_out, command_of}
use Rattle.command.proofs.Logins.{Mild, task_mild}
use Rattle.command.proofs.Logins as mild
use Rattle.serve.specs.Next.{exchange_of, next_of}
use Rattle.serve.specs.Whole.{is_sent, MovedOnly, StaysOpen}
use Rattle.serve.proofs.Frames.{runs}
use Rattle.serve.proofs.Moving.{next_stays, next_only}
use Rattle.arrival.specs.declared.Form.{Form}
use Rattle.taking.specs.declared.Step.{Step}
use Rattle.taking.specs.declared.Untaken.{Untaken}
use Rattle.taking.specs.declared.Step.TheVariants.{Fault, Take}
use Rattle.taking.specs.declared.Untaken.TheVariants.{NoWrite, Uncovered}
use Rattle.taking.specs.Taking.{data_size, step_in, served_by, served_data, data_decided}
use Rattle.taking.proofs.Steps.{Means, step_means}
use Rattle.arrival.specs.declared.Form.TheVariants.{Link, Done, Abort, Command, Data}
use Rattle.arrival.specs.Arrival.{short_buffer, known_pair, bad_sequence, unknown_form, form_of}
use Rattle.arrival.proofs.Passes.{link_form}
use Rattle.drive.specs.declared.Drive.{Drive}
use Rattle.drive.specs.declared.Answer.{Answer}
use Rattle.drive.specs.declared.Event.{Event}
use Rattle.drive.specs.declared.Event.TheVariants.{LoopReset, TimeOver}
use Rattle.drive.specs.Drive.{change_of, after_event, event_answer}
use Rattle.drive.specs.Drive as drives
use Rattle.drive.specs.Entry.{decided_of, decided_in, frame_in, next_answer, next_frame}
use Rattle.drive.proofs.Keeping.{frame_kept, next_frame_kept, event_fine}
use Rattle.drive.proofs.Made.{event_answered, event_unchanged}
use Rattle.drive.proofs.Ways.{frame_cases}
use Rattle.demands.specs.Between.{Call, frame, next, event, answer_of, after, EndsAll, Own, Service, pdisc_names, adisc_names, Left, LeavesOpen, refused, next_other, loop_reset, time_over, other, done, abts_other, abts_rejected, data_other, coded, command_other, unsized, prli, rrq, logo_rejected, prlo_rejected, pdisc, adisc}

-- the login of an address, where it was found
pub login_found : (p : Port) (b k : ℕ) → find_login p b ≡ Some k → login_of p b ≡ login_at p k
unfolding login_of
login_found p b k e = rw e

-- a login with the address and size that it had, and at place j the exchange that it had
record Kept (l m : Login) (j : ℕ) : Type 0 where
  used : m.used ≡ l.used
  address : m.address ≡ l.address
  size : m.size ≡ l.size
  exchange : exchange_at m j ≡ exchange_at l j

itself : (l : Login) (j : ℕ) → Kept l l j
itself l j = record { used = refl; address = refl; size = refl; exchange = refl }

-- flags and attention are no part of it
flagged : (l : Login) (j proven paired attention : ℕ) → Kept l (with_state l proven paired attention l.places) j
unfolding exchange_at
flagged l j proven paired attention = record { used = refl; address = refl; size = refl; exchange = refl }

-- nor are the other exchanges
placed : (l m : Login) (j k : ℕ) (e : Exchange) → Kept l m j → (j ≡ k → ⊥) → Kept l (with_exchange m k e) j
unfolding with_exchange
placed l m j k e t n = record { used = t.used; address = t.address; size = t.size; exchange = exchange_other m k j e n ∙ t.exchange }

-- the changes that leave the login l of a
data Spares (a : ℕ) (l : Login) : Change → Type 0 where
  keeps : Spares a l Keep
  ends_login : (b : ℕ) → (b ≡ a → ⊥) → Spares a l (EndLogin b)
  ends_host : (b n : ℕ) → (b ≡ a → ⊥) → has_name n l ≡ false → Spares a l (EndHost b n)
  unproves : Spares a l Unprove
  verifies : l.proven ≡ 1 → Spares a l EndUnproven
  ends_exchanges : (b : ℕ) → (b ≡ a → ⊥) → Spares a l (EndExchangesOf b)

spared : (a : ℕ) (l : Login) (j : ℕ) (c : Change) → has_address a l ≡ true → Spares a l c → Kept l (changed_of c l) j
unfolding ended_of host_ended unproven verified aborted_of
spared a l j c h keeps = itself l j
spared a l j c h (ends_login b n) = rw (other_has b a l n h) (itself l j)
spared a l j c h (ends_host b m n k) = rw (other_has b a l n h, k) (itself l j)
spared a l j c h unproves = on_cond (λ (m : Login). Kept l m j) (is_used l) (flagged l j 0 l.paired l.attention) (itself l j)
spared a l j c h (verifies s) = rw (eq-eqb l.proven 1 s) (on_cond (λ (m : Login). Kept l m j) (is_used l) (itself l j) (itself l j))
spared a l j c h (ends_exchanges b n) = rw (other_has b a l n h) (itself l j)

-- an open exchange of a and x, at place j of the login at place i
module _ (u : Unit) (p : Port) (a x i j : ℕ) (w : well_formed u p ≡ true) (o : lookup_of p a x ≡ Open i j) where
  -- our address is the same, and the login at place i keeps the exchange
  record Stays (q : Port) : Type 0 where
    own : q.address ≡ p.address
    login : Kept (login_at p i) (login_at q i) j

  has : has_address a (login_at p i) ≡ true
  has = found_has p a i (open_place p a x i j o)

  unchanged : Stays p
  unchanged = record { own = refl; login = itself (login_at p i) j }

  changed : (c : Change) → Spares a (login_at p i) c → Stays (changed_all c p)
  unfolding changed_all
  changed c s = record { own = refl; login = subst (λ (m : Login). Kept (login_at p i) m j) (sym (at_changed p i c)) (spared a (login_at p i) j c has s) }

  stored : (m : Login) → Kept (login_at p i) m j → Stays (with_login p i m)
  unfolding with_login
  stored m t = record { own = refl; login = subst (λ (n : Login). Kept (login_at p i) n j) (sym (login_stored p a x i j o m)) t }

  elsewhere : (q : Port) → Stays q → (k : ℕ) (m : Login) → (i ≡ k → ⊥) → Stays (with_login q k m)
  unfolding with_login
  elsewhere q t k m n = record { own = t.own; login = subst (λ (l : Login). Kept (login_at p i) l j) (sym (login_other q k i m n)) t.login }

  -- the place of another's login is another
  not_here : (b k : ℕ) → (b ≡ a → ⊥) → find_login p b ≡ Some k → i ≡ k → ⊥
  not_here b k n e is = apart (found_has p b k e) (ap (λ (m : ℕ). has_address b (login_at p m)) (sym is) ∙ other_has b a (login_at p i) n has)

  -- and so the exchange stands where it stood
  stays_open : (q : Port) → well_formed u q ≡ true → Stays q → StaysOpen a x i j p q
  unfolding has_address has_id
  stays_open q v t =
      let l = login_at p i in
      let there : has_address a (login_at q i) ≡ true = rw (t.login.used, t.login.address) has in
      let id : has_id x (exchange_at (login_at q i) j) ≡ true = rw t.login.exchange (open_has p a x i j o) in
      record { before = o; after = stands_there u q v a x i j there id; exchange = t.login.exchange; size = t.login.size; own = t.own }

  -- a service that a port's decision is
  abbrev Says : Decided → Type 0
  Says r = Stays r.port

  -- a frame of another sender
  module _ (b : ℕ) (n : b ≡ a → ⊥) where
    abbrev ended : Port
    ended = changed_all (EndLogin b) p

    ended_stays : Stays ended
    ended_stays = changed (EndLogin b) (ends_login b n)

    -- a new login takes a place that is free once what it ends has ended, this login not among it
    free_there : (q : Port) (k : ℕ) → free_login q ≡ Some k → is_used (login_at q k) ≡ false
    unfolding free_login login_at
    free_there q k e = not-true (is_used (get_or q.logins k empty_login)) (found_passes empty_login is_free q.logins e)

    not_free : (q : Port) → Stays q → (k : ℕ) → free_login q ≡ Some k → i ≡ k → ⊥
    not_free q t k e is =
        let used : is_used (login_at q i) ≡ true = ap (λ (m : ℕ). eqb m 1) t.login.used ∙ found_used p a i (open_place p a x i j o) in
        apart used (ap (λ (m : ℕ). is_used (login_at q m)) is ∙ free_there q k e)

    plogi_other : (q : Params) → (verdict_of q ≡ Ok tt → has_name (name_of q.port_name) (login_at p i) ≡ false) → Says (plogi_of p b q)
    unfolding plogi_of outcome_of
    plogi_other q unnamed = by (verdict_of q) (free_login (changed_all (ends_by b q) p)) refl unnamed
      where
        name : ℕ
        name = name_of q.port_name

        by : (v : Result ⊤ FailedTest) (g : Option ℕ) → free_login (changed_all (ends_for v b name) p) ≡ g → (v ≡ Ok tt → has_name name (login_at p i) ≡ false)
            → Stays (outcome_port (outcome_after v g) (changed_all (ends_for v b name) p) (new_login b q))
        by (Ok tt) (Some k) e m =
            let gone = changed (EndHost b name) (ends_host b name n (m refl)) in
            elsewhere (changed_all (EndHost b name) p) gone k (new_login b q) (not_free (changed_all (EndHost b name) p) gone k e)
        by (Ok tt) None e m = changed (EndHost b name) (ends_host b name n (m refl))
        by (Err t) g e m = ended_stays

    link_others : (h : Header) (f : List ℕ) → h.s_id ≡ b → h.r_ctl ≡ 0x22 → (Moves p a h f → ⊥) → Says (link_of p h f)
    unfolding link_of logo_of size_of
    link_others h f is link still =
        let code = get_or f 24 0 in
        rw is
        (on_cond Says (eqb (size_of code) 0) unchanged
        (by_cond Says (not (eqb (length f) (24 + size_of code))) (λ _. unchanged)
        (λ s. by_cond Says (eqb code 0x03) (λ c. plogi_other (params_of f 28) (renamed (eqb-true code 3 c) s))
        (λ _. on_cond Says (eqb code 0x05) (on_cond Says (eqb (num 3 f 29) b) ended_stays unchanged)
        (on_found_lem Says (find_login p b) _ _ (λ k e. elsewhere p unchanged k _ (not_here b k n e)) (λ _. unchanged))))))
      where
        -- where its PLOGI passes, it has another port name
        renamed : get_or f 24 0 ≡ 3 → not (eqb (length f) (24 + size_of (get_or f 24 0))) ≡ false → verdict_of (params_of f 28) ≡ Ok tt → has_name (named_in f) (login_at p i) ≡ false
        renamed c s v =
            let size : length f ≡ 140 = eqb-true (length f) 140 (not-false (eqb (length f) 140) (rw c at s)) in
            ap (has_name (named_in f)) (sym (login_found p a i (open_place p a x i j o))) ∙ unmoved p h a f link still c size v

    abts_others : (ox rx : ℕ) → Says (abts_of p b ox rx)
    unfolding abts_of
    abts_others ox rx = by (lookup_of p b ox) refl
      where
        by : (s : Standing) → lookup_of p b ox ≡ s → Says (aborted_at s rx p)
        by (Open k m) e = on_cond Says (eqb rx 0xffff) (elsewhere p unchanged k _ (not_here b k n (open_place p b ox k m e))) unchanged
        by (NoExchange k) e = on_cond Says (eqb rx 0xffff) unchanged unchanged
        by NoLogin e = unchanged

    data_others : (h : Header) (size start len : ℕ) → h.s_id ≡ b → Says (data_decided p h size start len)
    unfolding data_decided
    data_others h size start len is = rw is (on_found_lem Says (find_login p b) _ _ (λ k e. elsewhere p unchanged k _ (not_here b k n e)) (λ _. unchanged))

    task_others : (t : Result Task CmndFault) (r : Decided) → Mild b t → (t ≡ Ok (task.Apply Reset) → ⊥) → (t ≡ Ok (task.Apply (Clear b)) → ⊥) → Says r → Says (done_as t p r)
    task_others t r (mild.fault m) z c s = unchanged
    task_others t r mild.abort z c s = changed (EndExchangesOf b) (ends_exchanges b n)
    task_others t r mild.reset z c s = absurd (z refl)
    task_others t r mild.clear z c s = absurd (c refl)
    task_others t r mild.execute z c s = s

    -- where its login is paired; where it is not, that login ends
    command_others : (h : Header) (f : List ℕ) → h.s_id ≡ b
        → ((login_of p b).paired ≡ 1 → task_of (cmnd_of f) (length f) b ≡ Ok (task.Apply Reset) → ⊥) → ((login_of p b).paired ≡ 1 → task_of (cmnd_of f) (length f) b ≡ Ok (task.Apply (Clear b)) → ⊥) → Says (command_of u p h f)
    unfolding command_of commanded_at logged_out
    command_others h f is z c = rw is (on_found_lem Says (find_login p b) _ _ (λ k e. by_cond Says (eqb (login_at p k).paired 1) (paired k e) (λ _. ended_stays)) (λ _. ended_stays))
      where
        paired : (k : ℕ) → find_login p b ≡ Some k → eqb (login_at p k).paired 1 ≡ true
            → Says (done_as (task_of (cmnd_of f) (length f) b) p (served_at p k (execute_of u (login_at p k) (sought_in p b h.ox_id) h.ox_id (cmnd_of f))))
        paired k e pair =
            let its : (login_of p b).paired ≡ 1 = ap (λ (m : Login). m.paired) (login_found p b k e) ∙ eqb-true (login_at p k).paired 1 pair in
            task_others (task_of (cmnd_of f) (length f) b) _ (task_mild (cmnd_of f) (length f) b) (z its) (c its) (elsewhere p unchanged k _ (not_here b k n e))

  -- its own frames: the login is the one at place i
  pub seat : find_login p a ≡ Some i
  seat = open_place p a x i j o

  abbrev l : Login
  l = login_at p i

  abbrev Keeps : Served → Type 0
  Keeps s = Kept l s.login j

  -- an exchange of another OX_ID stands at another place, and a free place is another
  not_its : (ox k : ℕ) → (ox ≡ x → ⊥) → find_exchange l ox ≡ Some k → j ≡ k → ⊥
  unfolding has_id find_exchange exchange_at
  not_its ox k n e is =
      let there = found_passes empty_exchange (has_id ox) l.places e in
      let id = eqb-true (get_or l.places k empty_exchange).ox_id ox (and_right (not (is_closed (get_or l.places k empty_exchange))) (eqb (get_or l.places k empty_exchange).ox_id ox) there) in
      let here = eqb-true (get_or l.places j empty_exchange).ox_id x (and_right (not (is_closed (get_or l.places j empty_exchange))) (eqb (get_or l.places j empty_exchange).ox_id x) (open_has p a x i j o)) in
      n (sym id ∙ ap (λ (m : ℕ). (get_or l.places m empty_exchange).ox_id) (sym is) ∙ here)

  not_closed : (k : ℕ) → free_exchange l ≡ Some k → j ≡ k → ⊥
  unfolding free_exchange exchange_at
  not_closed k e is = apart (ap (λ (m : ℕ). is_closed (get_or l.places m empty_exchange)) is ∙ found_passes empty_exchange is_closed l.places e) (open_open p a x i j o)

  abts_own : (ox rx : ℕ) → (ox ≡ x → ⊥) ⊎ (rx ≡ 0xffff → ⊥) → Says (abts_of p a ox rx)
  unfolding abts_of
  abts_own ox rx why = by (lookup_of p a ox) refl why
    where
      by : (s : Standing) → lookup_of p a ox ≡ s → (ox ≡ x → ⊥) ⊎ (rx ≡ 0xffff → ⊥) → Says (aborted_at s rx p)
      by (Open k m) e (inl n) =
          let at = open_place p a ox k m e in
          let is : k ≡ i = let s = seat in cc in
          let found : find_exchange l ox ≡ Some m = ap (λ (c : ℕ). find_exchange (login_at p c) ox) (sym is) ∙ open_exchange p a ox k m e in
          on_cond Says (eqb rx 0xffff) (subst (λ (c : ℕ). Stays (with_login p c (ended_at (login_at p c) m))) (sym is) (stored _ (placed l l j m empty_exchange (itself l j) (not_its ox m n found)))) unchanged
      by (Open k m) e (inr n) = rw (ne_eqb rx 0xffff n) unchanged
      by (NoExchange k) e why = on_cond Says (eqb rx 0xffff) unchanged unchanged
      by NoLogin e why = unchanged

  -- a data frame of another OX_ID
  data_own : (h : Header) (size start len : ℕ) → h.s_id ≡ a → (h.ox_id ≡ x → ⊥) → Says (data_decided p h size start len)
  unfolding data_decided served_data
  data_own h size start len is n = rw (is, seat) (stored _ (by (step_in l h size start len) (step_means l h.ox_id h.offset (data_size h size) start len)))
    where
      by : (s : Result Step Untaken) → Means l h.ox_id h.offset (data_size h size) start len s → Keeps (served_by s l (data_size h size))
      by (Err NoWrite) at = itself l j
      by (Ok (Fault k code)) at = placed l l j k empty_exchange (itself l j) (not_its h.ox_id k n at.found)
      by (Err Uncovered) at = itself l j
      by (Ok (Take k m)) at = placed l l j k _ (itself l j) (not_its h.ox_id k n at.found)

  -- a command of another OX_ID
  module _ (ox : ℕ) (n : ox ≡ x → ⊥) (c : Cmnd) where
    opened_keeps : (e : Exchange) → Keeps (opened_of l c e)
    unfolding opened_of told_of
    opened_keeps e =
        on_cond Keeps (eqb (total e) 0) (itself l j)
        (on_cond Keeps (bit_for e c)
        (on_found_lem Keeps (free_exchange l) _ _
        (λ k at. placed l _ j k e (on_cond (λ (m : Login). Kept l m j) (reports e.kind) (flagged l j l.proven l.paired 0) (itself l j)) (not_closed k at)) (λ _. itself l j))
        (itself l j))

    answered_keeps : (q : Result Exchange Check) → Keeps (answered_as q l c)
    unfolding refused_with
    answered_keeps (Err (Attention code)) = flagged l j l.proven l.paired 0
    answered_keeps (Err check) = itself l j
    answered_keeps (Ok e) = opened_keeps e

    execute_keeps : (place : Option ℕ) → place ≡ find_exchange l ox → Keeps (execute_of u l place ox c)
    unfolding execute_of refused_with
    execute_keeps place is = on_found_lem Keeps place _ _ (λ k e. placed l l j k empty_exchange (itself l j) (not_its ox k n (sym is ∙ e))) (λ _. answered_keeps (asked_of u l.attention ox c))

  pub sought_there : (ox : ℕ) → sought_in p a ox ≡ find_exchange l ox
  unfolding login_of
  sought_there ox = sought_is p a ox ∙ ap (λ (g : Option ℕ). find_exchange (login_in p g) ox) seat

  pub is_paired : eqb l.paired 1 ≡ true
  is_paired = (runs u p a x i j w o).pair

  -- its own FCP_CMND, by what it asks for
  pub own_command : (P : Decided → Type 0) (h : Header) (f : List ℕ) (t : Result Task CmndFault) → h.s_id ≡ a → task_of (cmnd_of f) (length f) h.s_id ≡ t
      → P (done_as t p (served_at p i (execute_of u l (sought_in p a h.ox_id) h.ox_id (cmnd_of f)))) → P (command_of u p h f)
  unfolding command_of commanded_at
  own_command P h f t is asks holds = rw (asks, is, seat, is_paired) holds

  -- its own link requests
  module _ (h : Header) (f : List ℕ) (is : h.s_id ≡ a) where
    unsized_keeps : (length f ≡ 24 + size_of (get_or f 24 0) → ⊥) → Says (link_of p h f)
    unfolding link_of
    unsized_keeps n = on_cond Says (eqb (size_of (get_or f 24 0)) 0) unchanged (rw (ne_eqb (length f) (24 + size_of (get_or f 24 0)) n) unchanged)

    logo_keeps : get_or f 24 0 ≡ 0x05 → (num 3 f 29 ≡ a → ⊥) → Says (link_of p h f)
    unfolding link_of logo_of size_of
    logo_keeps c n = rw (c, is, ne_eqb (num 3 f 29) a n) (on_cond Says (not (eqb (length f) 40)) unchanged unchanged)

    -- a service on the login
    service_keeps : (code : ℕ) → get_or f 24 0 ≡ code → eqb code 0x03 ≡ false → eqb code 0x05 ≡ false → Keeps (service_of code l (sought_in p a) a f) → Says (link_of p h f)
    unfolding link_of
    service_keeps code c no-plogi no-logo t =
        rw (c, is, no-plogi, no-logo, seat)
        (on_cond Says (eqb (size_of code) 0) unchanged (on_cond Says (not (eqb (length f) (24 + size_of code))) unchanged (stored _ t)))

  prli_keeps : (f : List ℕ) → Keeps (service_of 0x20 l (sought_in p a) a f)
  unfolding service_of prli_of
  prli_keeps f = on_cond Keeps (pair_fine (num 3 f 25) (get_or f 28 0) (get_or f 30 0) (get_or f 43 0)) (flagged l j l.proven 1 l.attention) (itself l j)

  rrq_keeps : (f : List ℕ) → Keeps (service_of 0x12 l (sought_in p a) a f)
  unfolding service_of rrq_of
  rrq_keeps f = on_cond Keeps (eqb (num 3 f 29) a) (on_found_lem Keeps (sought_in p a (num 2 f 32)) _ _ (λ _ _. itself l j) (λ _. itself l j)) (itself l j)

  prlo_keeps : (f : List ℕ) → page_fine (num 3 f 25) (get_or f 28 0) ≡ false → Keeps (service_of 0x21 l (sought_in p a) a f)
  unfolding service_of prlo_of
  prlo_keeps f n = rw n (itself l j)

  proven_keeps : (v : Result ⊤ FailedTest) → Keeps (proven_by v l)
  proven_keeps (Ok tt) = flagged l j 1 l.paired l.attention
  proven_keeps (Err t) = itself l j

  pdisc_keeps : (f : List ℕ) → pdisc_names l f → Keeps (service_of 0x50 l (sought_in p a) a f)
  unfolding service_of pdisc_of
  pdisc_keeps f same = rw same (proven_keeps (verdict_of (params_of f 28)))

  adisc_keeps : (f : List ℕ) → adisc_names l f → num 3 f 49 ≡ a → Keeps (service_of 0x52 l (sought_in p a) a f)
  unfolding service_of adisc_of
  adisc_keeps f same named = rw (same, eq-eqb (num 3 f 49) a named) (flagged l j 1 l.paired l.attention)

  pub login_there : login_of p a ≡ l
  login_there = login_found p a i seat

  -- a next frame of another exchange
  moved_stays : (b y : ℕ) (q : Port) → ((b ≡ a) × (y ≡ x) → ⊥) → MovedOnly p b y q → Stays q
  moved_stays b y q n t =
      elim (ℕ_discrete b a) [
        | yes is ↦ own_moved is
        | no other-one ↦ record { own = t.address; login = subst (λ (m : Login). Kept l m j) (sym (t.logins i (λ e. not_here b t.i other-one (open_place p b y t.i t.j t.stands) e))) (itself l j) }
      ]
    where
      own_moved : b ≡ a → Stays q
      own_moved is =
          let at : find_login p a ≡ Some t.i = ap (find_login p) (sym is) ∙ open_place p b y t.i t.j t.stands in
          let place : i ≡ t.i = let s = seat in cc in
          let other_id : y ≡ x → ⊥ = λ e. n (is, e) in
          let found : find_exchange l y ≡ Some t.j = ap (λ (c : ℕ). find_exchange (login_at p c) y) place ∙ open_exchange p b y t.i t.j t.stands in
          let fields : with_places (login_at q i) l.places ≡ l = subst (λ (c : ℕ). with_places (login_at q c) (login_at p c).places ≡ login_at p c) (sym place) t.fields in
          let kept : exchange_at (login_at q i) j ≡ exchange_at l j = subst (λ (c : ℕ). exchange_of q c j ≡ exchange_of p c j) (sym place) (t.exchanges j (not_its y t.j other_id found)) in
          record {
            own = t.address;
            login = record { used = ap (λ (m : Login). m.used) fields; address = ap (λ (m : Login). m.address) fields; size = ap (λ (m : Login). m.size) fields; exchange = kept };
          }

-- a frame that passes as a command is an FCP_CMND
pub command_form : (h : Header) (n : ℕ) → unknown_form h n ≡ false → form_of h.r_ctl ≡ Command → h.r_ctl ≡ 0x06
unfolding unknown_form known_pair form_of
command_form h n known form =
    let r = h.r_ctl in
    let is = pair (eqb r 0x22) (eqb r 0x23) (eqb r 0x81) (eqb r 0x06) (eqb r 0x01) in
    let df = not (eqb h.df_ctl 0) in
    let bad = bad_sequence h n in
    let none = eqb r 0x22 && leb n 24 in
    let fits = or_left (not is) df (or_left (not is || df) bad (or_left (not is || df || bad) none known)) in
    by (eqb r 0x22) (eqb r 0x23) (eqb r 0x81) (eqb r 0x06) (eqb r 0x01) refl (not-false is fits) form
  where
    pair : Bool → Bool → Bool → Bool → Bool → Bool
    pair a b c d e = cond a (eqb h.protocol 0x01) (cond b (eqb h.protocol 0x01) (cond c (eqb h.protocol 0x00) (cond d (eqb h.protocol 0x08) (e && eqb h.protocol 0x08))))

    by : (a b c d e : Bool) → eqb h.r_ctl 0x06 ≡ d → pair a b c d e ≡ true → cond a Link (cond b Done (cond c Abort (cond e Data Command))) ≡ Command → h.r_ctl ≡ 0x06
    by true b c d e s k t = let z : ◌≡◌ {A = ℕ} 0 1 = cc in absurd (omega arith)
    by false true c d e s k t = let z : ◌≡◌ {A = ℕ} 0 1 = cc in absurd (omega arith)
    by false false true d e s k t = let z : ◌≡◌ {A = ℕ} 0 1 = cc in absurd (omega arith)
    by false false false d true s k t = let z : ◌≡◌ {A = ℕ} 0 1 = cc in absurd (omega arith)
    by false false false true false s k t = eqb-true h.r_ctl 0x06 s
    by false false false false false s k t = apart k refl

-- at the entries
module _ (d : Drive) (a x i j : ℕ) (w : well_formed d.unit d.port ≡ true) (o : lookup_of d.port a x ≡ Open i j) where
  abbrev u : Unit
  u = d.unit

  abbrev p : Port
  p = d.port

  abbrev Here : Port → Type 0
  Here q = Stays u p a x i j w o q

  -- a drive of the same unit that is well formed and keeps the exchange
  left_by : (e : Drive) → well_formed e.unit e.port ≡ true → e.unit ≡ u → Here e.port → Left a x i j d e
  left_by e v same t = record { formed = v; unit = same; stays = stays_open u p a x i j w o e.port (subst (λ (s : Unit). well_formed s e.port ≡ true) same v) t }

  -- a frame: refused, or what is decided of it
  abbrev Fine : Answer → Type 0
  Fine r = (r.drive.unit ≡ u) × Here r.drive.port

  frame_left : (f : List ℕ) (start : ℕ) (W : List ℕ) (room : ℕ) (known : AllBytes f) → (unknown_form (header_of f) (length f) ≡ false → Here (decided_in d f start (length W)).port) → Left a x i j d (frame_in d f start W room).drive
  frame_left f start W room known t =
      let r : Fine (frame_in d f start W room) = frame_cases d f start W room Fine (λ _ _. (refl, unchanged u p a x i j w o)) (λ passes. (refl, t passes.arrived.known)) in
      left_by (frame_in d f start W room).drive (frame_kept d f start W room known w) r.0 r.1

  -- a frame whose R_CTL is known, by what is decided of its form
  own_left : (f : List ℕ) (start : ℕ) (W : List ℕ) (room : ℕ) (known : AllBytes f) (rctl : ℕ) → Own a rctl f → Here (decided_of u p (header_of f) (form_of rctl) f start (length W)).port → Left a x i j d (frame_in d f start W room).drive
  own_left f start W room known rctl its t = frame_left f start W room known (λ _. subst (λ (n : ℕ). Here (decided_of u p (header_of f) (form_of n) f start (length W)).port) (sym its.form) t)

  service_left : (f : List ℕ) (start : ℕ) (W : List ℕ) (room : ℕ) (known : AllBytes f) (code : ℕ) → Service a code f → eqb code 0x03 ≡ false → eqb code 0x05 ≡ false → Kept (login_at p i) (service_of code (login_at p i) (sought_in p a) a f).login j
      → Left a x i j d (frame_in d f start W room).drive
  unfolding form_of
  service_left f start W room known code s no-plogi no-logo t =
      own_left f start W room known 0x22 s.own (service_keeps u p a x i j w o (header_of f) f s.own.from code s.code_is no-plogi no-logo t)

  -- a frame of another sender
  other_here : (f : List ℕ) (start len : ℕ) → ((header_of f).s_id ≡ a → ⊥) → (EndsAll p f → ⊥) → (Moves p a (header_of f) f → ⊥)
      → (k : Form) → (k ≡ Link → (header_of f).r_ctl ≡ 0x22) → (k ≡ Command → (header_of f).r_ctl ≡ 0x06) → Here (decided_of u p (header_of f) k f start len).port
  other_here f start len n spares still Link link form = link_others u p a x i j w o (header_of f).s_id n (header_of f) f refl (link refl) still
  other_here f start len n spares still Done link form = unchanged u p a x i j w o
  other_here f start len n spares still Abort link form = abts_others u p a x i j w o (header_of f).s_id n (header_of f).ox_id (header_of f).rx_id
  other_here f start len n spares still Data link form = data_others u p a x i j w o (header_of f).s_id n (header_of f) (length f) start len refl
  other_here f start len n spares still Command link form =
      command_others u p a x i j w o (header_of f).s_id n (header_of f) f refl (λ pair e. spares record { command = form refl; paired = pair; flags = inl e }) (λ pair e. spares record { command = form refl; paired = pair; flags = inr e })

  -- a refused call
  refused_same : (c : Call) (r : Refusal) → (answer_of d c).said ≡ Err r → after d c ≡ d
  unfolding next_frame
  refused_same (frame f start W room known) r = frame_cases d f start W room (λ (s : Answer). s.said ≡ Err r → s.drive ≡ d) (λ _ _ _. refl) (λ _ e. let z : ◌≡◌ {A = ℕ} 0 1 = cc in absurd (omega arith))
  refused_same (next b y start W room) r = by (short_buffer room) (well_formed d.unit d.port)
    where
      answer : Bool → Bool → Answer
      answer s v = cond s (drives.refused ShortBuffer d) (cond (not v) (drives.refused IllFormed d) (next_answer d (next_of d.unit d.port b y start W)))

      by : (s v : Bool) → (answer s v).said ≡ Err r → (answer s v).drive ≡ d
      by true v e = refl
      by false false e = refl
      by false true e = λ n. record { unit = d.unit; port = next_stays d.unit d.port b y start W (ap is_sent e) n }
  refused_same (event e) r = event_unchanged d e r

  -- a next frame of another exchange
  next_here : (b y start : ℕ) (W : List ℕ) → ((b ≡ a) × (y ≡ x) → ⊥) → Here (next_of u p b y start W).port
  next_here b y start W n = by (is_sent (next_of u p b y start W).said) refl
    where
      by : (s : Bool) → is_sent (next_of u p b y start W).said ≡ s → Here (next_of u p b y start W).port
      by true e = moved_stays u p a x i j w o b y (next_of u p b y start W).port n (next_only u p b y start W e)
      by false e = subst Here (sym (next_stays u p b y start W e)) (unchanged u p a x i j w o)

  next_fine : (b y start : ℕ) (W : List ℕ) (room : ℕ) → ((b ≡ a) × (y ≡ x) → ⊥) → Fine (next_frame d b y start W room)
  unfolding next_frame
  next_fine b y start W room n =
      let stays : Fine (drives.refused ShortBuffer d) = (refl, unchanged u p a x i j w o) in
      on_cond Fine (short_buffer room) stays (on_cond Fine (not (well_formed d.unit d.port)) stays (refl, next_here b y start W n))

  event_left : (e : Event) → Spares a (login_at p i) (change_of e) → Left a x i j d (event_answer d e).drive
  unfolding after_event
  event_left e s =
      let is = event_answered d e w in
      let t : Here (changed_all (change_of e) p) = changed u p a x i j w o (change_of e) s in
      let r : Fine (event_answer d e) = subst Fine (sym is) (refl, t) in
      left_by (event_answer d e).drive (event_fine d e w) r.0 r.1

  -- each of the calls that leave it open
  pub leaves_open : (c : Call) → LeavesOpen d a x c → Left a x i j d (after d c)
  unfolding form_of
  leaves_open c (refused r said) = subst (Left a x i j d) (sym (refused_same c r said)) (left_by d w refl (unchanged u p a x i j w o))
  leaves_open c (next_other b y start W room n) = let r = next_fine b y start W room n in left_by (next_frame d b y start W room).drive (next_frame_kept d b y start W room w) r.0 r.1
  leaves_open c loop_reset = event_left LoopReset unproves
  leaves_open c (time_over proven) = event_left TimeOver (verifies (ap (λ (m : Login). m.proven) (sym (login_there u p a x i j w o)) ∙ proven))
  leaves_open c (other f start W room known n spares still) =
      frame_left f start W room known (λ k. other_here f start (length W) n spares still (form_of (header_of f).r_ctl) (link_form (header_of f).r_ctl) (command_form (header_of f) (length f) k))
  leaves_open c (done f start W room known its) = own_left f start W room known 0x23 its (unchanged u p a x i j w o)
  leaves_open c (abts_other f start W room known its n) =
      own_left f start W room known 0x81 its (subst (λ (b : ℕ). Here (abts_of p b (header_of f).ox_id (header_of f).rx_id).port) (sym its.from) (abts_own u p a x i j w o (header_of f).ox_id (header_of f).rx_id (inl n)))
  leaves_open c (abts_rejected f start W room known its n) =
      own_left f start W room known 0x81 its (subst (λ (b : ℕ). Here (abts_of p b (header_of f).ox_id (header_of f).rx_id).port) (sym its.from) (abts_own u p a x i j w o (header_of f).ox_id (header_of f).rx_id (inr n)))
  leaves_open c (data_other f start W room known its n) = own_left f start W room known 0x01 its (data_own u p a x i j w o (header_of f) (length f) start (length W) its.from n)
  leaves_open c (coded f start W room known m its asks-code) =
      own_left f start W room known 0x06 its (own_command u p a x i j w o (λ r. Here r.port) (header_of f) f (Err m) its.from asks-code (unchanged u p a x i j w o))
  leaves_open c (command_other f start W room known its asks-it n) =
      let ox = (header_of f).ox_id in
      own_left f start W room known 0x06 its
      (own_command u p a x i j w o (λ r. Here r.port) (header_of f) f (Ok task.Execute) its.from asks-it
      (stored u p a x i j w o _ (execute_keeps u p a x i j w o ox n (cmnd_of f) (sought_in p a ox) (sought_there u p a x i j w o ox))))
  leaves_open c (unsized f start W room known its n) = own_left f start W room known 0x22 its (unsized_keeps u p a x i j w o (header_of f) f its.from n)
  leaves_open c (prli f start W room known s) = service_left f start W room known 0x20 s refl refl (prli_keeps u p a x i j w o f)
  leaves_open c (rrq f start W room known s) = service_left f start W room known 0x12 s refl refl (rrq_keeps u p a x i j w o f)
  leaves_open c (logo_rejected f start W room known s n) = own_left f start W room known 0x22 s.own (logo_keeps u p a x i j w o (header_of f) f s.own.from s.code_is n)
  leaves_open c (prlo_rejected f start W room known s n) = service_left f start W room known 0x21 s refl refl (prlo_keeps u p a x i j w o f n)
  leaves_open c (pdisc f start W room known s same) =
      service_left f start W room known 0x50 s refl refl (pdisc_keeps u p a x i j w o f (subst (λ (m : Login). pdisc_names m f) (login_there u p a x i j w o) same))
  leaves_open c (adisc f start W room known s same named) =
      service_left f start W room known 0x52 s refl refl (adisc_keeps u p a x i j w o f (subst (λ (m : Login). adisc_names m f) (login_there u p a x i j w o) same) named)
