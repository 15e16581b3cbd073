-- What a data frame comes to and does, told on what its sender sees, is what it comes to and makes of the whole port, where the port's logins are fine. Assumes nothing.
use Rattle.std.specs.Prelude.{Option, Some, None, Ok, Err, Result}
use Prim.Native.Nat.{ℕ}
use mathlib.Core.Path.{◌≡◌, refl, sym, ap, ◌∙◌}
use mathlib.Core.Bool.{true}
use mathlib.Core.List.{List, []}
use lib.ListN.{length}
use Rattle.tables.specs.Lists.{on_found, all}
use Rattle.frame.specs.declared.Header.{Header}
use Rattle.refusal.specs.declared.Refusal.{Refusal}
use Rattle.refusal.specs.declared.Refusal.TheVariants as refusal
use Rattle.state.specs.declared.Login.{Login}
use Rattle.state.specs.declared.Port.{Port}
use Rattle.state.specs.declared.Unit.{Unit}
use Rattle.state.specs.Changes.{empty_login, login_at}
use Rattle.state.specs.Tables.{has_id, find_login, find_exchange, login_in, login_of}
use Rattle.formed.specs.Formed.{login_fine}
use Rattle.reply.specs.declared.Reply.TheVariants as reply
use Rattle.reply.specs.Reply.{sent_of, written_of}
use Rattle.calls.specs.declared.Served.{Served}
use Rattle.calls.specs.declared.Turn.{Turn}
use Rattle.calls.specs.declared.View.{View}
use Rattle.calls.specs.View.{view_of}
use Rattle.calls.specs.Turn.{decided_as, served_at, served_in, refused_turn, sent_turn, decided_by}
use Rattle.calls.proofs.Views.{view_seat, view_is, view_login}
use Rattle.calls.proofs.Decisions.{served_is}
use Rattle.taking.specs.declared.Step.{Step}
use Rattle.taking.specs.declared.Untaken.{Untaken}
use Rattle.taking.specs.declared.Step.TheVariants.{Fault, Take}
use Rattle.taking.specs.declared.Untaken.TheVariants.{NoWrite, Uncovered}
use Rattle.taking.specs.Taking.{find_write, step_of, step_in, on_step, served_data, window_after, data_decided, taking_turn, taking_buffer, taking_window}

-- what is asked of a choice by its step may be asked of what is chosen
on_step_lem : {A B : Type 0} (on : A → B) (s : Result Step Untaken) (g : Refusal → A) (a : A) → on (on_step s g a) ≡ on_step s (λ x. on (g x)) (on a)
on_step_lem on (Err NoWrite) g a = refl
on_step_lem on (Ok (Fault j code)) g a = refl
on_step_lem on (Err Uncovered) g a = refl
on_step_lem on (Ok (Take j k)) g a = refl

-- an empty login has no open WRITE
empty_step : (h : Header) (size start len : ℕ) → step_in empty_login h size start len ≡ (Err NoWrite)
unfolding step_of find_write find_exchange has_id
empty_step h size start len = refl

module _ (u : Unit) (p : Port) (fine : all (login_fine u p.address) p.logins ≡ true) (h : Header) (start : ℕ) where
  abbrev from : ℕ
  from = h.s_id

  abbrev v : View
  v = view_of u p from

  no_step : (size len : ℕ) → find_login p from ≡ None → step_in v.login h size start len ≡ (Err NoWrite)
  unfolding login_of
  no_step size len e = ap (λ (m : Login). step_in m h size start len) (view_is u p from fine ∙ ap (login_in p) e) ∙ empty_step h size start len

  -- what the sender's login is served with makes of the port what is decided of the frame
  pub served_decided : (size len i : ℕ) → find_login p from ≡ Some i → decided_by p (served_in i (served_data v.login h size start len)) ≡ data_decided p h size start len
  unfolding data_decided
  served_decided size len i e =
      ap (λ (m : Login). decided_by p (served_in i (served_data m h size start len))) (view_login u p from fine i e)
      ∙ served_is p i (served_data (login_at p i) h size start len)
      ∙ sym (ap (λ (f : Option ℕ). on_found f (λ j. served_at p j (served_data (login_at p j) h size start len)) (decided_as reply.Nothing p)) e)

  -- a turn, asked for what refusals and the login that is served are: by the step that the frame comes to
  pub taking_turn_lem : {B : Type 0} (on : Turn → B) (g : Refusal → B) (b : B) (size len room : ℕ) → ((x : Refusal) → on (refused_turn x) ≡ g x)
      → ((i : ℕ) → find_login p from ≡ Some i → on (sent_turn (sent_of v.own h (served_data v.login h size start len).reply [] room) (served_in i (served_data v.login h size start len))) ≡ b)
      → on (taking_turn v h size start len room) ≡ on_step (step_in v.login h size start len) g b
  unfolding taking_turn
  taking_turn_lem {B} on g b size len room refuses serves = ap (λ (f : Option ℕ). on (turn f)) (view_seat u p from fine) ∙ by (find_login p from) refl
    where
      step : Result Step Untaken
      step = step_in v.login h size start len

      served : Served
      served = served_data v.login h size start len

      turn : Option ℕ → Turn
      turn f = on_found f (λ i. on_step step refused_turn (sent_turn (sent_of v.own h served.reply [] room) (served_in i served))) (refused_turn refusal.NoWrite)

      by : (f : Option ℕ) → find_login p from ≡ f → on (turn f) ≡ on_step step g b
      by (Some i) e = on_step_lem on step refused_turn (sent_turn (sent_of v.own h served.reply [] room) (served_in i served)) ∙ (λ k. on_step step (λ x. refuses x k) (serves i e k))
      by None e = refuses refusal.NoWrite ∙ sym (ap (λ (s : Result Step Untaken). on_step s g b) (no_step size len e))

  pub taking_buffer_lem : (size len : ℕ) (l b : List ℕ) → ((i : ℕ) → find_login p from ≡ Some i → written_of v.own h (served_data v.login h size start len).reply [] l ≡ b)
      → taking_buffer v h size start len l ≡ on_step (step_in v.login h size start len) (λ _. l) b
  unfolding taking_buffer
  taking_buffer_lem size len l b serves = ap buffer (view_seat u p from fine) ∙ by (find_login p from) refl
    where
      step : Result Step Untaken
      step = step_in v.login h size start len

      buffer : Option ℕ → List ℕ
      buffer f = on_found f (λ i. on_step step (λ _. l) (written_of v.own h (served_data v.login h size start len).reply [] l)) l

      by : (f : Option ℕ) → find_login p from ≡ f → buffer f ≡ on_step step (λ _. l) b
      by (Some i) e = ap (on_step step (λ _. l)) (serves i e)
      by None e = sym (ap (λ (s : Result Step Untaken). on_step s (λ _. l) b) (no_step size len e))

  -- the window, by the login of the port
  pub taking_window_lem : (f W : List ℕ) → taking_window v h f start W ≡ window_after (login_of p from) h f start W
  unfolding taking_window window_after
  taking_window_lem f W = ap (λ (m : Option ℕ). on_found m (λ _. window_after v.login h f start W) W) (view_seat u p from fine) ∙ by (find_login p from) refl
    where
      by : (m : Option ℕ) → find_login p from ≡ m → on_found m (λ _. window_after v.login h f start W) W ≡ window_after (login_of p from) h f start W
      by (Some i) e = ap (λ (l : Login). window_after l h f start W) (view_is u p from fine)
      by None e = sym (ap (λ (l : Login). window_after l h f start W) (sym (view_is u p from fine)) ∙ rw (no_step (length f) (length W) e))
