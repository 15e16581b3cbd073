-- Each entry is the answer to its turn, and a next frame changes no login but the one it stores. Assumes nothing.
use Rattle.std.specs.Prelude.{Option, Some, None, Ok, Err, Result}
use Prim.Native.Nat.{ℕ}
use mathlib.Core.Path.{◌≡◌, refl, sym, ap, ◌∙◌, subst}
use mathlib.Core.Bool.{Bool, true, false, cond, not, ◌&&◌, ◌||◌, or-false}
use mathlib.Core.List.{List, [], ◌∷◌}
use native.Mathlib.Omega.{arith}
use lib.Dec.{T, eqb, eqb→eq}
use borrow.Author.Tests.{eq-eqb}
use lib.ListN.{length}
use Rattle.tables.specs.Lists.{on_found, all}
use Rattle.tables.specs.Firsts.{first_of}
use Rattle.tables.proofs.Firsts.{first_over}
use Rattle.wire.specs.Bytes.{onto}
use Rattle.frame.specs.declared.Header.{Header}
use Rattle.frame.specs.Head.{header_of}
use Rattle.refusal.specs.declared.Refusal.{Refusal}
use Rattle.refusal.specs.declared.Refusal.TheVariants.{IllFormed, BadSize, NotOurs, BadSource, UnknownForm, Unproven, NoWrite, BadWindow}
use Rattle.refusal.specs.Refusal.{frame_order}
use Rattle.state.specs.declared.Login.{Login}
use Rattle.state.specs.declared.Port.{Port}
use Rattle.state.specs.declared.Unit.{Unit}
use Rattle.state.specs.declared.Change.TheVariants.{Keep}
use Rattle.state.specs.Changes.{own_of, login_at}
use Rattle.state.specs.Tables.{find_login, login_of}
use Rattle.formed.specs.Formed.{login_fine, well_formed}
use Rattle.formed.proofs.Parts.{formed_parts}
use Rattle.reply.specs.declared.Reply.TheVariants as reply
use Rattle.reply.specs.Reply.{bytes_of, sent_of, written_of}
use Rattle.calls.specs.declared.Decision.{Decision}
use Rattle.calls.specs.declared.View.{View}
use Rattle.calls.specs.declared.Turn.{Turn}
use Rattle.calls.specs.View.{view_of}
use Rattle.calls.specs.Turn.{Decided, served_in, refused_turn, sent_turn, decided_by}
use Rattle.calls.proofs.Views.{view_own, view_fine, view_seat, view_is, view_login}
use Rattle.calls.proofs.Decisions.{by_cond, on_cond, answers_is, refused_stays}
use Rattle.link.proofs.Turns.{link_turn_lem, abts_turn_lem}
use Rattle.command.proofs.Turns.{command_turn_lem}
use Rattle.serve.specs.Next.{next_of, next_buffer}
use Rattle.serve.specs.Turn.{next_turn, next_turn_buffer}
use Rattle.serve.proofs.Turns.{next_turn_lem, next_buffer_lem, next_keeps}
use Rattle.arrival.specs.declared.Form.{Form}
use Rattle.taking.specs.declared.Step.{Step}
use Rattle.taking.specs.declared.Untaken.{Untaken}
use Rattle.taking.specs.declared.Step.TheVariants as step
use Rattle.taking.specs.declared.Untaken.TheVariants as untaken
use Rattle.taking.specs.Taking.{is_data, step_in, no_write, uncovered, applies_data, on_step, served_data, window_after, data_decided, taking_turn, taking_buffer, taking_window}
use Rattle.taking.proofs.Turns.{served_decided, taking_turn_lem, taking_buffer_lem, taking_window_lem}
use Rattle.arrival.specs.declared.Form.TheVariants.{Link, Done, Abort, Command, Data}
use Rattle.arrival.specs.Arrival.{short_buffer, unproven_login, form_of, applies_to, judged_by}
use Rattle.arrival.proofs.Passes.{data_form, is_data_form}
use Rattle.drive.specs.declared.Drive.{Drive}
use Rattle.drive.specs.declared.Answer.{Answer}
use Rattle.drive.specs.Drive.{refused}
use Rattle.drive.specs.Entry.{applies, decided_of, decided_in, reply_bytes, answered, frame_in, frame_in_buffer, window_of, frame_in_window, next_answer, next_frame, next_frame_buffer}
use Rattle.drive.specs.Turn.{unproven_at, unproven_in, arrived_in, on_judged, decision_as, decision_of, passed_turn, passed_buffer, arrived_turn, arrived_buffer, arrived_window, next_out_turn, next_out_buffer, answer_to}

-- a judgement is a refusal or a pass, not both
not_both : (x : Refusal) (k : Form) → Err x ≡ Ok k → ⊥
not_both x k e = let z : ◌≡◌ {A = ℕ} 0 1 = cc in omega arith

module _ (d : Drive) where
  abbrev u : Unit
  u = d.unit

  abbrev p : Port
  p = d.port

  -- a refusal leaves the drive
  pub stays_is : (x : Refusal) → answer_to d (refused_turn x) ≡ refused x d
  stays_is x = ap (λ (q : Port). refused x (record { unit = d.unit; port = q })) (refused_stays p x)

  module _ (w : well_formed u p ≡ true) where
    fine : all (login_fine u p.address) p.logins ≡ true
    fine = (formed_parts w).logins

    unproven_is : (a : ℕ) → unproven_in (view_of u p a) ≡ unproven_login p a
    unfolding unproven_at unproven_login
    unproven_is a = rw (view_seat u p a fine) (by (find_login p a) refl)
      where
        by : (s : Option ℕ) → find_login p a ≡ s → on_found s (λ _. not (eqb (view_of u p a).login.proven 1)) false ≡ on_found s (λ i. not (eqb (login_at p i).proven 1)) false
        by (Some i) e = ap (λ (l : Login). not (eqb l.proven 1)) (view_login u p a fine i e)
        by None e = refl

  -- a frame in, with a window W that starts at a block
  module _ (f : List ℕ) (start : ℕ) (W : List ℕ) where
    abbrev h : Header
    h = header_of f

    abbrev v : View
    v = view_of u p (header_of f).s_id

    abbrev len : ℕ
    len = length W

    -- the tests of all numbers but 1, by what is told of the state and by the sender's login
    abbrev tests : Bool → Bool → ℕ → Login → Refusal → Bool
    tests fine unproven own l x = applies_data h (step_in l h (length f) start len) x || applies_to false fine unproven own h f x

    -- f of the first of these that applies
    abbrev tested : {B : Type 0} → (Refusal → B) → B → Bool → Bool → ℕ → Login → B
    tested g b fine unproven own l = first_of (tests fine unproven own l) (IllFormed ∷ BadSize ∷ NotOurs ∷ BadSource ∷ UnknownForm ∷ Unproven ∷ NoWrite ∷ BadWindow ∷ []) g b

    -- it is tested by what its sender sees as it is by the drive
    tested_is : {B : Type 0} (g : Refusal → B) (b : B)
        → tested g b v.fine (unproven_in v) v.own.address v.login ≡ tested g b (well_formed u p) (unproven_login p h.s_id) p.address (login_of p h.s_id)
    unfolding own_of
    tested_is g b = (λ i. tested g b (view_fine u p h.s_id i) (unproven_in v) (view_own u p h.s_id i).address v.login) ∙ by (well_formed u p) refl
      where
        by : (x : Bool) → well_formed u p ≡ x → tested g b x (unproven_in v) p.address v.login ≡ tested g b x (unproven_login p h.s_id) p.address (login_of p h.s_id)
        by false w = refl
        by true w = λ i. tested g b true (unproven_is w h.s_id i) p.address (view_is u p h.s_id (fine w) i)

    -- what a data frame comes to
    abbrev coming : Result Step Untaken
    coming = step_in v.login h (length f) start len

    -- 11 and 10 are a data frame's, by what it comes to
    data_first : {B : Type 0} (g : Refusal → B) (b : B) → first_of (applies_data h coming) (NoWrite ∷ BadWindow ∷ []) g b ≡ cond (is_data h) (on_step coming g b) b
    data_first {B} g b = by (is_data h) coming
      where
        by : (x : Bool) (s : Result Step Untaken) → cond (x && no_write s) (g NoWrite) (cond (x && uncovered s) (g BadWindow) b) ≡ cond x (on_step s g b) b
        by false s = refl
        by true (Err untaken.NoWrite) = refl
        by true (Ok (step.Fault i code)) = refl
        by true (Err untaken.Uncovered) = refl
        by true (Ok (step.Take i k)) = refl

    -- and come after the numbers by what arrived
    abbrev came : {B : Type 0} → (Refusal → B) → B → Result Form Refusal → B
    came g b j = on_judged j g (λ _. cond (is_data h) (on_step coming g b) b)

    came_first : {B : Type 0} (g : Refusal → B) (b : B) → tested g b v.fine (unproven_in v) v.own.address v.login ≡ came g b (arrived_in v h f)
    unfolding arrived_in judged_by
    came_first g b =
        rw (or-false (is_data h && no_write coming), or-false (is_data h && uncovered coming))
        (sym (first_over (λ (j : Result Form Refusal). on_judged j g (λ _. first_of (applies_data h coming) (NoWrite ∷ BadWindow ∷ []) g b))
        (applies_to false v.fine (unproven_in v) v.own.address h f) (IllFormed ∷ BadSize ∷ NotOurs ∷ BadSource ∷ UnknownForm ∷ Unproven ∷ []) Err (Ok (form_of h.r_ctl))))
        ∙ ap (λ (z : _). on_judged (arrived_in v h f) g (λ _. z)) (data_first g b)

    -- so, where there is room, the first number that applies is told by what arrived, and then by what a data frame comes to
    first_came : {B : Type 0} (g : Refusal → B) (b : B) (room : ℕ) → short_buffer room ≡ false → first_of (applies d f start len room) frame_order g b ≡ came g b (arrived_in v h f)
    first_came g b room e = roomy ∙ sym (tested_is g b) ∙ came_first g b
      where
        roomy : first_of (applies d f start len room) frame_order g b ≡ tested g b (well_formed u p) (unproven_login p h.s_id) p.address (login_of p h.s_id)
        roomy = rw e

    abbrev result : Answer
    result = answered d h (decided_in d f start len)

    abbrev written : List ℕ → List ℕ
    written l = onto (reply_bytes d h (decided_in d f start len)) l

    abbrev left : List ℕ
    left = window_of d (form_of h.r_ctl) f start W

    pub frame_came : (room : ℕ) → short_buffer room ≡ false → frame_in d f start W room ≡ came (λ x. refused x d) result (arrived_in v h f)
    unfolding frame_in
    frame_came room e = first_came (λ x. refused x d) result room e

    pub buffer_came : (l : List ℕ) → short_buffer (length l) ≡ false → frame_in_buffer d f start W l ≡ came (λ _. l) (written l) (arrived_in v h f)
    unfolding frame_in_buffer
    buffer_came l e = first_came (λ _. l) (written l) (length l) e

    pub window_came : (room : ℕ) → short_buffer room ≡ false → frame_in_window d f start W room ≡ came (λ _. W) left (arrived_in v h f)
    unfolding frame_in_window
    window_came room e = first_came (λ _. W) left room e

    -- one that arrived well is of a drive that is well formed
    pub arrived_fine : (k : Form) → arrived_in v h f ≡ Ok k → well_formed u p ≡ true
    unfolding arrived_in judged_by
    arrived_fine k e = by (well_formed u p) refl
      where
        by : (b : Bool) → well_formed u p ≡ b → b ≡ true
        by true w = refl
        by false w = absurd (not_both IllFormed k (sym (ap (λ (b : Bool). judged_by b (unproven_in v) v.own.address h f) (view_fine u p h.s_id ∙ w)) ∙ e))

    -- a decision that makes of the port what is decided, once its reply is written
    module _ (w : well_formed u p ≡ true) (t : Decision) (r : Decided) (is : decided_by p t ≡ r) where
      sent_answer : (room : ℕ) → short_buffer room ≡ false → answer_to d (sent_turn (sent_of v.own h t.reply [] room) t) ≡ answered d h r
      unfolding sent_of reply_bytes
      sent_answer room e = rw e (λ i. record { said = Ok (length (bytes_of (view_own u p h.s_id i) h (is i).reply [])); drive = record { unit = u; port = (is i).port } })

      sent_buffer : (l : List ℕ) → short_buffer (length l) ≡ false → written_of v.own h t.reply [] l ≡ onto (reply_bytes d h r) l
      unfolding written_of reply_bytes
      sent_buffer l e = rw e (λ i. onto (bytes_of (view_own u p h.s_id i) h (is i).reply []) l)

    -- no data frame: what is decided on what its sender sees is what the definitions of record say of the whole port
    module _ (w : well_formed u p ≡ true) (other : is_data h ≡ false) where
      not_data : (k : Form) → form_of h.r_ctl ≡ k → (k ≡ Data → ⊥)
      not_data k e z = let q = data_form h.r_ctl (e ∙ z) in let t : ◌≡◌ {A = Bool} true false = sym (eq-eqb h.r_ctl 0x01 q) ∙ other in subst T t tt

      decided_is : decided_by p (decision_of v h f) ≡ decided_in d f start len
      unfolding decision_of
      decided_is = by (form_of h.r_ctl) (not_data (form_of h.r_ctl) refl)
        where
          by : (k : Form) → (k ≡ Data → ⊥) → decided_by p (decision_as v h k f) ≡ decided_of u p h k f start len
          by Link n = link_turn_lem u p (fine w) h f
          by Done n = answers_is p reply.Nothing
          by Abort n = abts_turn_lem u p (fine w) h
          by Command n = command_turn_lem u p (fine w) h f
          by Data n = absurd (n refl)

      other_window : W ≡ left
      other_window = by (form_of h.r_ctl) (not_data (form_of h.r_ctl) refl)
        where
          by : (k : Form) → (k ≡ Data → ⊥) → W ≡ window_of d k f start W
          by Link n = refl
          by Done n = refl
          by Abort n = refl
          by Command n = refl
          by Data n = absurd (n refl)

    -- a data frame: its form, and so what is decided of it and what it leaves in the window
    module _ (w : well_formed u p ≡ true) (is_data_lem : is_data h ≡ true) where
      form_is : form_of h.r_ctl ≡ Data
      form_is = is_data_form h.r_ctl (eqb→eq h.r_ctl 0x01 (subst T (sym is_data_lem) tt))

      data_decided_lem : decided_in d f start len ≡ data_decided p h (length f) start len
      data_decided_lem = ap (λ (k : Form). decided_of u p h k f start len) form_is

      served_is : (i : ℕ) → find_login p h.s_id ≡ Some i → decided_by p (served_in i (served_data v.login h (length f) start len)) ≡ decided_in d f start len
      served_is i at = served_decided u p (fine w) h start (length f) len i at ∙ sym data_decided_lem

      data_answer : (room : ℕ) → short_buffer room ≡ false → answer_to d (taking_turn v h (length f) start len room) ≡ on_step coming (λ x. refused x d) result
      data_answer room s =
          taking_turn_lem u p (fine w) h start (answer_to d) (λ x. refused x d) result (length f) len room stays_is
          (λ i at. sent_answer w (served_in i (served_data v.login h (length f) start len)) (decided_in d f start len) (served_is i at) room s)

      data_buffer : (l : List ℕ) → short_buffer (length l) ≡ false → taking_buffer v h (length f) start len l ≡ on_step coming (λ _. l) (written l)
      data_buffer l s =
          taking_buffer_lem u p (fine w) h start (length f) len l (written l)
          (λ i at. sent_buffer w (served_in i (served_data v.login h (length f) start len)) (decided_in d f start len) (served_is i at) l s)

      -- a step that is refused leaves the window
      data_window : taking_window v h f start W ≡ on_step coming (λ _. W) left
      unfolding window_after
      data_window =
          taking_window_lem u p (fine w) h start f W
          ∙ ap (λ (l : Login). window_after l h f start W) (sym (view_is u p h.s_id (fine w)))
          ∙ by coming refl
        where
          left_is : window_after v.login h f start W ≡ left
          left_is = ap (λ (l : Login). window_after l h f start W) (view_is u p h.s_id (fine w)) ∙ sym (ap (λ (k : Form). window_of d k f start W) form_is)

          by : (s : Result Step Untaken) → coming ≡ s → window_after v.login h f start W ≡ on_step s (λ _. W) left
          by (Err untaken.NoWrite) e = rw e
          by (Ok (step.Fault i code)) e = left_is
          by (Err untaken.Uncovered) e = rw e
          by (Ok (step.Take i k)) e = left_is

    -- arrived well: a frame in is the answer to its turn, and buffer and window are what that leaves
    module _ (k : Form) (e : arrived_in v h f ≡ Ok k) where
      pub frame_turn_lem : (room : ℕ) → short_buffer room ≡ false → answer_to d (arrived_turn v h f start len room) ≡ frame_in d f start W room
      unfolding arrived_turn passed_turn
      frame_turn_lem room s =
          by_cond (λ t. answer_to d t ≡ cond (is_data h) (on_step coming (λ x. refused x d) result) result) (is_data h)
          (λ y. data_answer (arrived_fine k e) y room s ∙ sym (rw y))
          (λ n. sent_answer (arrived_fine k e) (decision_of v h f) (decided_in d f start len) (decided_is (arrived_fine k e) n) room s ∙ sym (rw n))
          ∙ sym (frame_came room s ∙ rw e)

      pub frame_turn_buffer : (l : List ℕ) → short_buffer (length l) ≡ false → arrived_buffer v h f start len l ≡ frame_in_buffer d f start W l
      unfolding arrived_buffer passed_buffer
      frame_turn_buffer l s =
          by_cond (λ m. m ≡ cond (is_data h) (on_step coming (λ _. l) (written l)) (written l)) (is_data h)
          (λ y. data_buffer (arrived_fine k e) y l s ∙ sym (rw y))
          (λ n. sent_buffer (arrived_fine k e) (decision_of v h f) (decided_in d f start len) (decided_is (arrived_fine k e) n) l s ∙ sym (rw n))
          ∙ sym (buffer_came l s ∙ rw e)

      pub frame_turn_window : (room : ℕ) → short_buffer room ≡ false → arrived_window v h f start W ≡ frame_in_window d f start W room
      unfolding arrived_window
      frame_turn_window room s =
          by_cond (λ m. m ≡ cond (is_data h) (on_step coming (λ _. W) left) left) (is_data h)
          (λ y. data_window (arrived_fine k e) y ∙ sym (rw y))
          (λ n. other_window (arrived_fine k e) n ∙ sym (rw n))
          ∙ sym (window_came room s ∙ rw e)

  -- a next frame out is the answer to its turn, and the buffer is what that leaves
  module _ (a x start : ℕ) (W : List ℕ) where
    pub next_out_turn_lem : (room : ℕ) → short_buffer room ≡ false → answer_to d (next_out_turn (view_of u p a) a x start W room) ≡ next_frame d a x start W room
    unfolding next_out_turn next_frame
    next_out_turn_lem room s = rw s (ap (λ (b : Bool). answer_to d (cond b (next_turn (view_of u p a) a x start W room) (refused_turn IllFormed))) (view_fine u p a) ∙ by (well_formed u p) refl)
      where
        by : (b : Bool) → well_formed u p ≡ b → answer_to d (cond b (next_turn (view_of u p a) a x start W room) (refused_turn IllFormed)) ≡ cond (not b) (refused IllFormed d) (next_answer d (next_of u p a x start W))
        by true w = ap (next_answer d) (next_turn_lem u p a x start W (fine w) room s)
        by false w = stays_is IllFormed

    pub next_out_buffer_lem : (l : List ℕ) → short_buffer (length l) ≡ false → next_out_buffer (view_of u p a) a x start W l ≡ next_frame_buffer d a x start W l
    unfolding next_out_buffer next_frame_buffer
    next_out_buffer_lem l s = rw s (ap (λ (b : Bool). cond b (next_turn_buffer (view_of u p a) a x start W l) l) (view_fine u p a) ∙ by (well_formed u p) refl)
      where
        by : (b : Bool) → well_formed u p ≡ b → cond b (next_turn_buffer (view_of u p a) a x start W l) l ≡ cond (not b) l (next_buffer u p a x start W l)
        by true w = next_buffer_lem u p a x start W (fine w) l s
        by false w = refl

-- a next frame changes no login but the one it stores
pub next_out_keeps : (v : View) (a x start : ℕ) (W : List ℕ) (room : ℕ) → (next_out_turn v a x start W room).change ≡ Keep
unfolding next_out_turn
next_out_keeps v a x start W room = on_cond (λ (t : Turn). t.change ≡ Keep) v.fine (next_keeps v a x start W room) refl
