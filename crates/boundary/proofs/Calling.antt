-- What a function of the boundary was told step by step, and what it comes to: the answer of its entry. Assumes nothing.
use Rattle.std.specs.Prelude.{Option, Some, None, Ok, Err, Result, unwrap_or}
use Rattle.std.proofs.lemmas.List.{get_or_default}
use native.Mathlib.Omega.{arith}
use Prim.Native.Nat.{ℕ, ◌<◌, ◌≤◌}
use mathlib.Core.Path.{◌≡◌, refl, sym, ap, ◌∙◌}
use mathlib.Core.Bool.{Bool, true, false}
use mathlib.Core.List.{List}
use lib.ListN.{length, get_or}
use borrow.Author.Tests.{lt-ltb, le-ltb}
use Rattle.frame.specs.declared.Header.{Header}
use Rattle.frame.specs.Head.{header_of}
use Rattle.refusal.specs.declared.Refusal.{Refusal}
use Rattle.refusal.specs.declared.Refusal.TheVariants.{ShortBuffer}
use Rattle.state.specs.declared.Own.{Own}
use Rattle.state.specs.declared.Port.{Port}
use Rattle.state.specs.declared.Unit.{Unit as TheUnit}
use Rattle.state.specs.declared.Change.{Change}
use Rattle.state.specs.Changes.{no_login, empty_login, own_of, login_at}
use Rattle.state.specs.Tables.{login_in}
use Rattle.calls.specs.declared.Sight.{Sight}
use Rattle.calls.specs.declared.Turn.{Turn}
use Rattle.calls.specs.declared.View.{View}
use Rattle.calls.specs.View.{seat_of, sight_of, view_from, view_of}
use Rattle.calls.specs.Turn.{stored_at}
use Rattle.taking.specs.Taking.{taking_turn, taking_buffer, taking_window}
use Rattle.arrival.specs.declared.Form.{Form}
use Rattle.arrival.specs.Arrival.{short_buffer, judged_by}
use Rattle.drive.specs.declared.Answer.{Answer}
use Rattle.drive.specs.declared.Drive.{Drive}
use Rattle.drive.specs.declared.Event.{Event}
use Rattle.drive.specs.Drive.{change_of, event_answer}
use Rattle.drive.specs.Entry.{frame_in, frame_in_buffer, frame_in_window, next_frame, next_frame_buffer}
use Rattle.drive.specs.Turn.{unproven_at, passed_turn, passed_buffer, next_out_turn, next_out_buffer}
use Rattle.drive.proofs.Turns.{next_out_buffer_lem}
use Rattle.drive.proofs.Ways.{frame_short, frame_short_buffer, frame_short_window, next_short, next_short_buffer}
use Rattle.boundary.specs.Boundary.{code_of, Tells, Gives, is_data_form}
use Rattle.boundary.specs.Settled.{settled_of, happened_said, happened_of}
use Rattle.boundary.proofs.Answers as answers
use Rattle.boundary.proofs.Answers.{refusal_given, next_stores, event_happens}
use Rattle.boundary.proofs.Lent.{with_port}

-- what is told of an answer in one number
pub told : {a : Answer} {said : Result ℕ Refusal} {after : Drive} {n : ℕ} → n ≡ code_of said → Gives a said after → Tells a n after
told e g = (e ∙ ap code_of g.0, g.1)

-- the place that is looked at, the first where there is no seat, is one of the table
pub seat_inside : (seat : Option ℕ) {at : ℕ} → at ≡ unwrap_or seat 0 → ((i : ℕ) → seat ≡ Some i → i < 8) → at < 8
seat_inside (Some i) e h = rw e (h i refl)
seat_inside None e h = rw e (omega arith)

-- what is seen, with the login that was read there: where there is no seat it does not count
at_seat : (u : TheUnit) (p : Port) (s : Sight) (seat : Option ℕ) → view_from u (own_of p) s seat (get_or p.logins (unwrap_or seat 0) empty_login) ≡ view_from u (own_of p) s seat (login_in p seat)
unfolding view_from login_at
at_seat u p s (Some i) = refl
at_seat u p s None = refl

pub seen_at : (u : TheUnit) (p : Port) (s : Sight) (seat : Option ℕ) {at : ℕ} {o : Own} {v : View} → v ≡ view_from u o s seat (get_or p.logins at no_login) → o ≡ own_of p → at ≡ unwrap_or seat 0 → at < length p.logins
    → v ≡ view_from u (own_of p) s seat (login_in p seat)
seen_at u p s seat {at} ev eo ea inside =
    ev ∙ rw eo (ap (view_from u (own_of p) s seat) (get_or_default p.logins at no_login empty_login inside))
    ∙ ap (λ (i : ℕ). view_from u (own_of p) s seat (get_or p.logins i empty_login)) ea ∙ at_seat u p s seat

-- what is seen of the port at an address, from the sight, the seat and the login there
pub viewed : (u : TheUnit) (p : Port) (address : ℕ) {s : Sight} {seat : Option ℕ} {v : View} → s ≡ sight_of u p → seat ≡ seat_of s.keys address → v ≡ view_from u (own_of p) s seat (login_in p seat)
    → v ≡ view_of u p address
unfolding view_of
viewed u p address es ee ev = ev ∙ rw (ee, es)

-- what a frame in leaves: what is said and the drive, the reply buffer, and the window
abbrev pub Leaves : Drive → List ℕ → ℕ → List ℕ → List ℕ → Result ℕ Refusal → Drive → List ℕ → List ℕ → Type 0
Leaves d f start W l said after l₁ W₁ = Gives (frame_in d f start W (length l)) said after × (l₁ ≡ frame_in_buffer d f start W l) × (W₁ ≡ frame_in_window d f start W (length l))

module _ (d : Drive) (f : List ℕ) (start : ℕ) (W l : List ℕ) where
  -- a buffer under 2,136 bytes
  pub frame_refused_short : length l < 2136 → Leaves d f start W l (Err ShortBuffer) d l W
  frame_refused_short s =
      let short = lt-ltb (length l) 2136 s in
      (refusal_given (frame_short d f start W (length l) short), sym (frame_short_buffer d f start W l short), sym (frame_short_window d f start W (length l) short))

  -- the header, what every call sees, the seat, whether the login there is unproven, and how the frame was judged by these
  module _ (room : 2136 ≤ length l) {h : Header} (eh : h ≡ header_of f) {s : Sight} (es : s ≡ sight_of d.unit d.port) {seat : Option ℕ} (ek : seat ≡ seat_of s.keys h.s_id)
      {b : Bool} (eb : b ≡ unproven_at seat (login_in d.port seat).proven) {j : Result Form Refusal} (ej : j ≡ judged_by s.fine b d.port.address h f) where
    roomy : short_buffer (length l) ≡ false
    roomy = le-ltb (length l) 2136 room

    seated : seat ≡ seat_of (sight_of d.unit d.port).keys (header_of f).s_id
    seated = ek ∙ rw (es, eh)

    judged_is : j ≡ judged_by (sight_of d.unit d.port).fine (unproven_at (seat_of (sight_of d.unit d.port).keys (header_of f).s_id) (login_in d.port (seat_of (sight_of d.unit d.port).keys (header_of f).s_id)).proven) d.port.address (header_of f) f
    judged_is = ej ∙ rw (eb, seated, es, eh)

    -- refused
    pub frame_refused : {x : Refusal} → j ≡ Err x → Leaves d f start W l (Err x) d l W
    frame_refused e = answers.frame_refused d f start W l roomy (sym judged_is ∙ e)

    -- passed: a data frame's turn, or another's
    module _ {k : Form} (e : j ≡ Ok k) {v : View} (ev : v ≡ view_from d.unit (own_of d.port) s seat (login_in d.port seat)) where
      seen_is : v ≡ view_of d.unit d.port (header_of f).s_id
      unfolding view_of
      seen_is = ev ∙ rw (seated, es)

      pub frame_taken : {y : Bool} → y ≡ is_data_form k → y ≡ true → {t : Turn} → t ≡ taking_turn v h (length f) start (length W) (length l) → {said : Result ℕ Refusal} {after : Port} {l₁ W₁ : List ℕ} → l₁ ≡ taking_buffer v h (length f) start (length W) l
          → W₁ ≡ taking_window v h f start W → said ≡ t.said → after ≡ stored_at t.at t.login d.port → Leaves d f start W l said (with_port d after) l₁ W₁
      frame_taken ey held et el ew er ea = rw (er, ea, el, ew, et, seen_is, eh) (answers.frame_data d f start W l roomy (sym judged_is ∙ e) (sym ey ∙ held))

      pub frame_passed : {y : Bool} → y ≡ is_data_form k → y ≡ false → {t : Turn} → t ≡ passed_turn v h f (length l) → {said : Result ℕ Refusal} {after : Port} {l₁ : List ℕ} → l₁ ≡ passed_buffer v h f l
          → said ≡ t.said → after ≡ settled_of d.port s.keys t → Leaves d f start W l said (with_port d after) l₁ W
      frame_passed ey failed et el er ea = rw (er, ea, el, et, seen_is, es, eh) (answers.frame_other d f start W l roomy (sym judged_is ∙ e) (sym ey ∙ failed))

-- what a next frame leaves
abbrev pub Sends : Drive → ℕ → ℕ → ℕ → List ℕ → List ℕ → Result ℕ Refusal → Drive → List ℕ → Type 0
Sends d a x start W l said after l₁ = Gives (next_frame d a x start W (length l)) said after × (l₁ ≡ next_frame_buffer d a x start W l)

module _ (d : Drive) (a x start : ℕ) (W l : List ℕ) where
  pub next_refused_short : length l < 2136 → Sends d a x start W l (Err ShortBuffer) d l
  next_refused_short s =
      let short = lt-ltb (length l) 2136 s in
      (refusal_given (next_short d a x start W (length l) short), sym (next_short_buffer d a x start W l short))

  pub next_given : 2136 ≤ length l → {v : View} → v ≡ view_of d.unit d.port a → {t : Turn} → t ≡ next_out_turn v a x start W (length l) → {said : Result ℕ Refusal} {after : Port} {l₁ : List ℕ} → l₁ ≡ next_out_buffer v a x start W l
      → said ≡ t.said → after ≡ stored_at t.at t.login d.port → Sends d a x start W l said (with_port d after) l₁
  next_given room ev et el er ea =
      let roomy = le-ltb (length l) 2136 room in
      rw (er, ea, el, et, ev) (next_stores d a x start W (length l) roomy, next_out_buffer_lem d a x start W l roomy)

-- what an event leaves
pub event_given : (d : Drive) (e : Event) {s : Sight} → s ≡ sight_of d.unit d.port → {c : Change} → c ≡ change_of e → {said : Result ℕ Refusal} {after : Port} → said ≡ happened_said s.fine → after ≡ happened_of d.port s c
    → Gives (event_answer d e) said (with_port d after)
event_given d e es ec er ea = rw (er, ea, ec, es) (event_happens d e)
