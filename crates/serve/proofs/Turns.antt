-- What a next frame does, told by what changes, is what it makes of the whole port, where the port's logins are fine and the buffer has room; and it changes one login at most, the caller's.
-- Assumes nothing.
use Rattle.std.specs.Prelude.{Option, Some, None, Err}
use mathlib.Core.Path.{◌≡◌, refl, sym, ap, ◌∙◌}
use mathlib.Core.Bool.{Bool, true, false, cond, not}
use mathlib.Core.List.{List}
use Prim.Native.Nat.{ℕ}
use lib.Dec.{eqb, ltb}
use lib.ListN.{length}
use Rattle.tables.specs.Lists.{all, on_found}
use Rattle.refusal.specs.declared.Refusal.{Refusal}
use Rattle.refusal.specs.declared.Refusal.TheVariants.{NoExchange, Unproven, BadWindow}
use Rattle.state.specs.declared.Change.TheVariants.{Keep}
use Rattle.state.specs.declared.Port.{Port}
use Rattle.state.specs.declared.Unit.{Unit}
use Rattle.state.specs.Standing.{Standing}
use Rattle.state.specs.Changes.{own_of, has_address, login_at, with_exchange, changed_all}
use Rattle.state.specs.Tables.{find_exchange, standing_in}
use Rattle.state.proofs.Places.{found_has, open_place}
use Rattle.formed.specs.Formed.{login_fine}
use Rattle.reply.specs.Reply.{sent_of, written_of}
use Rattle.calls.specs.declared.View.{View}
use Rattle.calls.specs.declared.Turn.{Turn}
use Rattle.calls.specs.View.{view_of}
use Rattle.calls.specs.Turn.{refused_turn}
use Rattle.calls.specs.Others.{Another}
use Rattle.calls.proofs.Views.{view_unit, view_own, view_seat, view_login, lookup_seen}
use Rattle.calls.proofs.Decisions.{on_cond, on_found_lem, keep_is}
use Rattle.calls.proofs.Others.{other_has, seat_another}
use Rattle.serve.specs.Next.{window_place, exchange_of, full_of, source_of, Step, Refused, Frame, open_step, step_at, step_of, frame_bytes, moved_on, next_at, next_of, buffer_at, next_buffer}
use Rattle.serve.specs.Turn.{full_in, exchange_in, asked_in, reply_in, frame_turn, on_open, next_turn, next_turn_buffer, next_by}
use Rattle.serve.proofs.Steps.{passed}

-- by what a call comes to
abbrev on_step : {A : Type 0} → Step → (Refusal → A) → (ℕ → ℕ → ℕ → A) → A
on_step (Refused y) refuse frame = refuse y
on_step (Frame i j k) refuse frame = frame i j k

-- a turn is a refusal, or a frame of an exchange of the login that is seen
turn_cases : (v : View) (a x start : ℕ) (W : List ℕ) (room : ℕ) (P : Turn → Type 0) → ((y : Refusal) → P (refused_turn y)) → ((i j k : ℕ) → v.seat ≡ Some i → P (frame_turn v a x i j k W room))
    → P (next_turn v a x start W room)
unfolding next_turn
turn_cases v a x start W room P refused frame =
    on_found_lem P v.seat _ _
    (λ i s. on_found_lem P (find_exchange v.login x) _ _
    (λ j _. on_cond P (not (eqb v.login.proven 1)) (refused Unproven) (on_found_lem P (window_place (full_in v) (exchange_in v j) start (length W)) _ _ (λ k _. frame i j k s) (λ _. refused BadWindow)))
    (λ _. refused NoExchange)) (λ _. refused NoExchange)

module _ (v : View) (a x start : ℕ) (W : List ℕ) (room : ℕ) where
  -- no other login changes
  pub next_keeps : (next_turn v a x start W room).change ≡ Keep
  next_keeps = turn_cases v a x start W room (λ t. t.change ≡ Keep) (λ _. refl) (λ i j k s. refl)

module _ (u : Unit) (p : Port) (a x start : ℕ) (W : List ℕ) (fine : all (login_fine u p.address) p.logins ≡ true) where
  abbrev v : View
  v = view_of u p a

  seen : (i : ℕ) → v.seat ≡ Some i → v.login ≡ login_at p i
  seen i e = view_login u p a fine i (sym (view_seat u p a fine) ∙ e)

  -- the refusals in their order, on what is seen and on the port
  module _ {A : Type 0} (refuse : Refusal → A) (frame : ℕ → ℕ → ℕ → A) where
    tested : (b : Bool) (f : Option ℕ) (i j : ℕ) → cond (not b) (refuse Unproven) (on_found f (λ k. frame i j k) (refuse BadWindow))
        ≡ on_step (cond (not b) (Refused Unproven) (on_found f (λ k. Frame i j k) (Refused BadWindow))) refuse frame
    tested false f i j = refl
    tested true (Some k) i j = refl
    tested true None i j = refl

    open_is : (len : ℕ) → on_open v x start len frame (refuse NoExchange) (refuse Unproven) (refuse BadWindow) ≡ on_step (step_of p a x start len) refuse frame
    unfolding step_of open_step
    open_is len = by v.seat (find_exchange v.login x) refl ∙ sym (ap (λ (s : Standing). on_step (step_at s p start len) refuse frame) (lookup_seen u p a fine x))
      where
        by : (s g : Option ℕ) → v.seat ≡ s
            → on_found s (λ i. on_found g (λ j. cond (not (eqb v.login.proven 1)) (refuse Unproven) (on_found (window_place (full_in v) (exchange_in v j) start len) (λ k. frame i j k) (refuse BadWindow))) (refuse NoExchange)) (refuse NoExchange)
            ≡ on_step (step_at (standing_in s g) p start len) refuse frame
        by (Some i) (Some j) e = rw (seen i e) (tested (eqb (login_at p i).proven 1) (window_place (full_of p i) (exchange_of p i j) start len) i j)
        by (Some i) None e = refl
        by None g e = refl

  -- a frame is one of the login that is seen
  frame_seen : (i j k : ℕ) → step_of p a x start (length W) ≡ Frame i j k → v.login ≡ login_at p i
  frame_seen i j k e = view_login u p a fine i (open_place p a x i j (passed p a x start (length W) i j k e).stands)

  -- what is said, and the port after it
  module _ (room : ℕ) (roomy : ltb room 2136 ≡ false) where
    abbrev frame : ℕ → ℕ → ℕ → Turn
    frame i j k = frame_turn v a x i j k W room

    turn_at : (s : Step) → step_of p a x start (length W) ≡ s → next_by p (on_step s refused_turn frame) ≡ next_at s u p a x W
    unfolding own_of frame_bytes sent_of moved_on
    turn_at (Refused y) e = ap (λ (q : Port). record { said = Err y; port = q }) (keep_is p)
    turn_at (Frame i j k) e = rw (view_unit u p a, view_own u p a, frame_seen i j k e, keep_is p, roomy)

    pub next_turn_lem : next_by p (next_turn (view_of u p a) a x start W room) ≡ next_of u p a x start W
    unfolding next_turn next_of
    next_turn_lem = ap (next_by p) (open_is refused_turn frame (length W)) ∙ turn_at (step_of p a x start (length W)) refl

  -- and the buffer after it
  module _ (R : List ℕ) (roomy : ltb (length R) 2136 ≡ false) where
    abbrev written : ℕ → ℕ → ℕ → List ℕ
    written i j k = written_of v.own (asked_in v a x) (reply_in v j) (source_of v.unit (exchange_in v j) k W) R

    buffer_at_lem : (s : Step) → step_of p a x start (length W) ≡ s → on_step s (λ _. R) written ≡ buffer_at s u p a x W R
    unfolding own_of frame_bytes written_of
    buffer_at_lem (Refused y) e = refl
    buffer_at_lem (Frame i j k) e = rw (view_unit u p a, view_own u p a, frame_seen i j k e, roomy)

    pub next_buffer_lem : next_turn_buffer (view_of u p a) a x start W R ≡ next_buffer u p a x start W R
    unfolding next_turn_buffer next_buffer
    next_buffer_lem = open_is (λ _. R) written (length W) ∙ buffer_at_lem (step_of p a x start (length W)) refl

-- what is stored by a next frame of address b is of another than a
pub next_another : (u : Unit) (p : Port) (b x start : ℕ) (W : List ℕ) → all (login_fine u p.address) p.logins ≡ true → (room a : ℕ) → (a ≡ b → ⊥)
    → Another (changed_all (next_turn (view_of u p b) b x start W room).change p) a (next_turn (view_of u p b) b x start W room).at (next_turn (view_of u p b) b x start W room).login
unfolding has_address with_exchange
next_another u p b x start W fine room a n =
    turn_cases (view_of u p b) b x start W room (λ t. Another (changed_all t.change p) a t.at t.login) (λ _. tt)
    (λ i j k s.
    let seat = sym (view_seat u p b fine) ∙ s in
    (seat_another p a b i Keep n seat, rw (seen u p b x start W fine i s) (other_has a b (login_at p i) n (found_has p b i seat))))
