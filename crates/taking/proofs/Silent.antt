-- What a data frame is answered, and what becomes of its exchange and of every other: by what it comes to. Assumes nothing.
use Rattle.std.specs.Prelude.{Option, Some, None, Ok, Err, Result}
use Prim.Native.Nat.{ℕ, ◌<◌}
use mathlib.Core.Path.{◌≡◌, refl, sym, ap, ◌∙◌, subst}
use mathlib.Core.Bool.{true, false, not, and-false}
use native.Mathlib.Decide.{ℕ_discrete}
use lib.Dec.{eqb}
use lib.ListN.{length}
use lib.Seq.{get_or-set_same}
use borrow.Author.Tests.{eqb-true, ne_eqb}
use Rattle.tables.specs.Lists.{on_found}
use Rattle.tables.proofs.Bools.{and_right, apart}
use Rattle.tables.proofs.Searches.{found_below, same_found}
use Rattle.frame.specs.declared.Header.{Header}
use Rattle.state.specs.declared.Exchange.{Exchange}
use Rattle.state.specs.declared.Login.{Login}
use Rattle.state.specs.declared.Own.{Own}
use Rattle.state.specs.declared.Port.{Port}
use Rattle.state.specs.declared.Unit.{Unit}
use Rattle.state.specs.Standing.{Open, NoExchange}
use Rattle.state.specs.Changes.{empty_exchange, empty_login, is_closed, own_of, has_address, login_at, exchange_at, with_places, with_login, with_exchange, ended_at}
use Rattle.state.specs.Tables.{has_id, find_login, find_exchange, login_in, login_of, lookup_of}
use Rattle.state.proofs.Places.{found_has, stored_at, open_place, open_exchange, lookup_same, exchange_stored, exchange_other}
use Rattle.formed.specs.Formed.{well_formed}
use Rattle.reply.specs.declared.Reply.{Reply}
use Rattle.reply.specs.declared.Reply.TheVariants as reply
use Rattle.reply.specs.declared.Response.TheVariants as response
use Rattle.calls.specs.Turn.{Decided, decided_as, served_at}
use Rattle.calls.proofs.Decisions.{on_found_lem, stays_put}
use Rattle.calls.proofs.Others.{other_has, stored_sees}
use Rattle.calls.proofs.Standing.{stands_there}
use Rattle.taking.specs.declared.Step.{Step}
use Rattle.taking.specs.declared.Untaken.{Untaken}
use Rattle.taking.specs.declared.Step.TheVariants.{Fault, Take}
use Rattle.taking.specs.declared.Untaken.TheVariants.{NoWrite, Uncovered}
use Rattle.taking.specs.Taking.{data_size, step_in, no_write, taken_on, served_by, served_data, data_decided}
use Rattle.taking.proofs.Steps.{found_id, Faults, Takes, Means, step_means, step_faults, step_takes, empty_step}
use Rattle.taking.proofs.Others.{Exchanged, exchanged, exchanged_has, served_exchanges, data_found, data_exchanges, data_own}

-- nothing is sent, but for a fault
abbrev pub reply_by : Result Step Untaken → Reply
reply_by (Err NoWrite) = reply.Nothing
reply_by (Ok (Fault j code)) = reply.Respond (response.Code code)
reply_by (Err Uncovered) = reply.Nothing
reply_by (Ok (Take j k)) = reply.Nothing

served_reply : (s : Result Step Untaken) (l : Login) (n : ℕ) → (served_by s l n).reply ≡ reply_by s
served_reply (Err NoWrite) l n = refl
served_reply (Ok (Fault j code)) l n = refl
served_reply (Err Uncovered) l n = refl
served_reply (Ok (Take j k)) l n = refl

-- an exchange has one OX_ID
other_id : (x y : ℕ) (e : Exchange) → (x ≡ y → ⊥) → has_id x e ≡ true → has_id y e ≡ false
unfolding has_id
other_id x y e n h =
    let is = eqb-true e.ox_id x (and_right (not (is_closed e)) (eqb e.ox_id x) h) in
    rw (ne_eqb e.ox_id y (λ q. n (sym is ∙ q))) (and-false (not (is_closed e)))

-- what a data frame of OX_ID x makes of its sender's exchange of another
module _ (l : Login) (x offset n start len y : ℕ) (o : x ≡ y → ⊥) where
  not_its : (j : ℕ) → find_exchange l x ≡ Some j → has_id y (exchange_at l j) ≡ false
  not_its j at = other_id x y (exchange_at l j) o (found_id l x j at)

  -- it is found where it was
  step_finds : (s : Result Step Untaken) → Means l x offset n start len s → find_exchange (served_by s l n).login y ≡ find_exchange l y
  unfolding find_exchange exchange_at with_exchange has_id
  step_finds (Err NoWrite) m = refl
  step_finds (Ok (Fault j code)) m = same_found empty_exchange (has_id y) l.places j empty_exchange (sym (not_its j m.found))
  step_finds (Err Uncovered) m = refl
  step_finds (Ok (Take j k)) m = same_found empty_exchange (has_id y) l.places j _ refl

  -- and as it was
  module _ (i : ℕ) (at : find_exchange l y ≡ Some i) where
    away : (j : ℕ) → find_exchange l x ≡ Some j → i ≡ j → ⊥
    away j its q = apart (found_id l y i at) (ap (λ (m : ℕ). has_id y (exchange_at l m)) q ∙ not_its j its)

    step_spares : (s : Result Step Untaken) → Means l x offset n start len s → exchange_at (served_by s l n).login i ≡ exchange_at l i
    step_spares (Err NoWrite) m = refl
    step_spares (Ok (Fault j code)) m = exchange_other l j i empty_exchange (away j m.found)
    step_spares (Err Uncovered) m = refl
    step_spares (Ok (Take j k)) m = exchange_other l j i (taken_on (exchange_at l j) n) (away j m.found)

-- the exchange of address a and OX_ID y stands in the port q where it stood in p, and is as it was, at a login of the same fields; our address is the same
pub record Beside (p q : Port) (a y i j : ℕ) : Type 0 where
  pub stands : lookup_of q a y ≡ Open i j
  pub exchange : exchange_at (login_at q i) j ≡ exchange_at (login_at p i) j
  pub fields : with_places (login_at q i) (login_at p i).places ≡ login_at p i
  pub own : q.address ≡ p.address

module _ (p : Port) (h : Header) (size start len : ℕ) where
  abbrev from : ℕ
  from = h.s_id

  abbrev x : ℕ
  x = h.ox_id

  abbrev n : ℕ
  n = data_size h size

  -- what it comes to at its sender's login, and the port after it
  abbrev step_of : Result Step Untaken
  step_of = step_in (login_of p from) h size start len

  abbrev decided : Port
  decided = (data_decided p h size start len).port

  means : (l : Login) → Means l x h.offset n start len (step_in l h size start len)
  means l = step_means l x h.offset n start len

  -- the reply, by what it comes to
  pub data_reply : (data_decided p h size start len).reply ≡ reply_by (step_in (login_of p h.s_id) h size start len)
  unfolding data_decided served_data login_of
  data_reply = by (find_login p from)
    where
      by : (f : Option ℕ) → (on_found f (λ i. served_at p i (served_by (step_in (login_at p i) h size start len) (login_at p i) n)) (decided_as reply.Nothing p)).reply ≡ reply_by (step_in (login_in p f) h size start len)
      by (Some i) = served_reply (step_in (login_at p i) h size start len) (login_at p i) n
      by None = rw (empty_step x h.offset n start len)

  -- a sender whose data frame is for an open WRITE has a login, at place i
  record Seat (s : Result Step Untaken) : Type 0 where
    i : ℕ
    at : find_login p from ≡ Some i
    step : step_in (login_at p i) h size start len ≡ s

  seated : (s : Result Step Untaken) → no_write s ≡ false → step_of ≡ s → Seat s
  unfolding login_of
  seated s some = by (find_login p from) refl
    where
      by : (f : Option ℕ) → find_login p from ≡ f → step_in (login_in p f) h size start len ≡ s → Seat s
      by (Some i) at e = record { i = i; at = at; step = e }
      by None at e = apart (ap no_write (sym e ∙ empty_step x h.offset n start len)) some

  -- at a seat the login is served
  seat_is : {s : Result Step Untaken} (t : Seat s) → data_decided p h size start len ≡ served_at p t.i (served_by s (login_at p t.i) n)
  unfolding data_decided served_data
  seat_is t = rw (t.at, t.step)

  seat_stands : {s : Result Step Untaken} (t : Seat s) (j : ℕ) → find_exchange (login_at p t.i) x ≡ Some j → lookup_of p from x ≡ Open t.i j
  unfolding lookup_of login_of
  seat_stands t j its = rw (t.at, its)

  -- for no open WRITE, or uncovered: nothing is sent and nothing changes
  pub data_no_write : step_in (login_of p h.s_id) h size start len ≡ (Err NoWrite) → data_decided p h size start len ≡ decided_as reply.Nothing p
  unfolding data_decided served_data login_of
  data_no_write = by (find_login p from)
    where
      by : (f : Option ℕ) → step_in (login_in p f) h size start len ≡ (Err NoWrite)
          → on_found f (λ i. served_at p i (served_by (step_in (login_at p i) h size start len) (login_at p i) n)) (decided_as reply.Nothing p) ≡ decided_as reply.Nothing p
      by (Some i) e = rw (e, stays_put p i)
      by None e = refl

  pub data_uncovered : step_in (login_of p h.s_id) h size start len ≡ (Err Uncovered) → data_decided p h size start len ≡ decided_as reply.Nothing p
  data_uncovered e = let t = seated (Err Uncovered) refl e in seat_is t ∙ ap (decided_as reply.Nothing) (stays_put p t.i)

  -- a fault: the exchange stood at place j of its sender's login, which is at place i, and ends
  pub record FaultAt (j code : ℕ) : Type 0 where
    pub i : ℕ
    pub stood : lookup_of p h.s_id h.ox_id ≡ Open i j
    pub faults : Faults (login_at p i) h.ox_id h.offset (data_size h size) j code
    pub is : data_decided p h size start len ≡ decided_as (reply.Respond (response.Code code)) (with_login p i (ended_at (login_at p i) j))

  pub data_fault : (j code : ℕ) → step_in (login_of p h.s_id) h size start len ≡ Ok (Fault j code) → FaultAt j code
  data_fault j code e =
      let t = seated (Ok (Fault j code)) refl e in
      let m = step_faults (login_at p t.i) x h.offset n start len j code t.step in
      record { i = t.i; stood = seat_stands t j m.found; faults = m; is = seat_is t }

  -- taken: the exchange stays there, with n bytes more
  pub record TakeAt (j k : ℕ) : Type 0 where
    pub i : ℕ
    pub stood : lookup_of p h.s_id h.ox_id ≡ Open i j
    pub takes : Takes (login_at p i) h.ox_id h.offset (data_size h size) start len j k
    pub is : data_decided p h size start len ≡ decided_as reply.Nothing (with_login p i (with_exchange (login_at p i) j (taken_on (exchange_at (login_at p i) j) (data_size h size))))
    pub stands : lookup_of (data_decided p h size start len).port h.s_id h.ox_id ≡ Open i j
    pub exchange : exchange_at (login_at (data_decided p h size start len).port i) j ≡ taken_on (exchange_at (login_at p i) j) (data_size h size)

  pub data_take : (j k : ℕ) → step_in (login_of p h.s_id) h size start len ≡ Ok (Take j k) → TakeAt j k
  unfolding has_id
  data_take j k e =
      let t = seated (Ok (Take j k)) refl e in
      let l = login_at p t.i in
      let m = step_takes l x h.offset n start len j k t.step in
      let o = seat_stands t j m.found in
      let f = taken_on (exchange_at l j) n in
      let is = seat_is t in
      record {
        i = t.i;
        stood = o;
        takes = m;
        is = is;
        stands = ap (λ (d : Decided). lookup_of d.port from x) is ∙ lookup_same p from x t.i j o f (found_id l x j m.found);
        exchange = ap (λ (d : Decided). exchange_at (login_at d.port t.i) j) is ∙ exchange_stored p from x t.i j o f;
      }

  -- after a fault no exchange of the OX_ID is open at the sender's login
  module _ (u : Unit) (w : well_formed u p ≡ true) (j code : ℕ) (t : FaultAt j code) where
    abbrev l : Login
    l = login_at p t.i

    seat : find_login p from ≡ Some t.i
    seat = open_place p from x t.i j t.stood

    place : find_exchange l x ≡ Some j
    place = open_exchange p from x t.i j t.stood

    ended_empty : exchange_at (ended_at l j) j ≡ empty_exchange
    unfolding exchange_at with_exchange find_exchange
    ended_empty = get_or-set_same l.places j empty_exchange empty_exchange (found_below empty_exchange (has_id x) l.places place)

    ended_gone : (f : Option ℕ) → find_exchange (ended_at l j) x ≡ f → f ≡ None
    unfolding has_id
    ended_gone None e = refl
    ended_gone (Some m) e =
        let id = found_id (ended_at l j) x m e in
        elim (ℕ_discrete m j) [
          | yes q ↦ apart id (ap (λ (k : ℕ). has_id x (exchange_at (ended_at l j) k)) q ∙ ap (has_id x) ended_empty)
          | no q ↦ (let o = stands_there u p w from x t.i m (found_has p from t.i seat) (subst (λ (f : Exchange). has_id x f ≡ true) (exchange_other l j m empty_exchange q) id) in
              let s = t.stood in
              absurd (q (cc)))
        ]

    ended_login : login_at (with_login p t.i (ended_at l j)) t.i ≡ ended_at l j
    unfolding find_login
    ended_login = stored_at p t.i (ended_at l j) (found_below empty_login (has_address from) p.logins seat)

    pub fault_gone : lookup_of (data_decided p h size start len).port h.s_id h.ox_id ≡ NoExchange t.i
    unfolding lookup_of login_of
    fault_gone =
        rw (data_found p h size start len from, seat, ap (λ (d : Decided). login_at d.port t.i) t.is ∙ ended_login, ended_gone (find_exchange (ended_at l j) x) refl)

  -- the login of another address stays
  pub data_others : (a : ℕ) → (h.s_id ≡ a → ⊥) → login_of (data_decided p h size start len).port a ≡ login_of p a
  unfolding data_decided
  data_others a o =
      on_found_lem (λ (d : Decided). login_of d.port a ≡ login_of p a) (find_login p from) _ _
      (λ i at. let away = other_has a from (login_at p i) (λ q. o (sym q)) (found_has p from i at) in
      stored_sees p a (Some i) _ (away, exchanged_has (served_exchanges (login_at p i) h size start len) a ∙ away))
      (λ _. refl)

  seat_below : (i : ℕ) → find_login p from ≡ Some i → i < length p.logins
  unfolding find_login
  seat_below i at = found_below empty_login (has_address from) p.logins at

  -- and that of the sender is what was served
  data_served : login_of decided from ≡ (served_by step_of (login_of p from) n).login
  unfolding data_decided served_data login_of
  data_served = ap (login_in decided) (data_found p h size start len from) ∙ by (find_login p from) refl
    where
      by : (f : Option ℕ) → find_login p from ≡ f
          → login_in (on_found f (λ i. served_at p i (served_by (step_in (login_at p i) h size start len) (login_at p i) n)) (decided_as reply.Nothing p)).port f ≡ (served_by (step_in (login_in p f) h size start len) (login_in p f) n).login
      by (Some i) at = stored_at p i _ (seat_below i at)
      by None at = rw (empty_step x h.offset n start len)

  -- an exchange that is not the frame's
  module _ (a y : ℕ) (o : (h.s_id ≡ a) × (h.ox_id ≡ y) → ⊥) where
    -- what holds of the login of every address but the sender's, as it was, and of the sender's for another OX_ID, as it was served, holds of this login
    by_sender : (P : Login → Login → Type 0) → ((l : Login) → P l l) → ((x ≡ y → ⊥) → P (login_of p from) (served_by step_of (login_of p from) n).login) → P (login_of p a) (login_of decided a)
    by_sender P same served =
        elim (ℕ_discrete from a) [
          | yes q ↦ subst (λ (b : ℕ). P (login_of p b) (login_of decided b)) q (subst (P (login_of p from)) (sym data_served) (served (λ r. o (q, r))))
          | no q ↦ subst (P (login_of p a)) (sym (data_others a q)) (same (login_of p a))
        ]

    -- it stands where it stood, or nowhere as before
    pub data_lookup : lookup_of (data_decided p h size start len).port a y ≡ lookup_of p a y
    unfolding lookup_of
    data_lookup =
        rw (
          data_found p h size start len a,
          by_sender (λ l m. find_exchange m y ≡ find_exchange l y) (λ _. refl) (λ q. step_finds (login_of p from) x h.offset n start len y q step_of (means (login_of p from))),
        )

    -- and where it is open it is as it was
    module _ (i j : ℕ) (e : lookup_of p a y ≡ Open i j) where
      before_is : login_of p a ≡ login_at p i
      unfolding login_of
      before_is = rw (open_place p a y i j e)

      after_is : login_of decided a ≡ login_at decided i
      unfolding login_of
      after_is = rw (data_found p h size start len a, open_place p a y i j e)

      spared : find_exchange (login_of p a) y ≡ Some j → exchange_at (login_of decided a) j ≡ exchange_at (login_of p a) j
      spared =
          by_sender (λ l m. find_exchange l y ≡ Some j → exchange_at m j ≡ exchange_at l j) (λ _ _. refl)
          (λ q at. step_spares (login_of p from) x h.offset n start len y q j at step_of (means (login_of p from)))

      same_fields : {l m : Login} → Exchanged l m → with_places m l.places ≡ l
      same_fields (exchanged es) = refl

      pub data_beside : Beside p (data_decided p h size start len).port a y i j
      unfolding own_of
      data_beside =
          let b = before_is in
          let c = after_is in
          record {
            stands = data_lookup ∙ e;
            exchange = rw (sym b, sym c) (spared (rw b (open_exchange p a y i j e)));
            fields = rw (sym b, sym c) (same_fields (data_exchanges p h size start len a));
            own = ap (λ (o : Own). o.address) (data_own p h size start len);
          }
