-- The ways through the entries and through what they come to, over plain values. Assumes nothing.
use Rattle.std.specs.Prelude.{Err, Ok, Result}
use Prim.Native.Nat.{ℕ, ◌≤◌, ◌<◌}
use mathlib.Core.Path.{◌≡◌, refl, sym, ap, ◌∙◌}
use mathlib.Core.Bool.{Bool, true, false, cond, ◌&&◌}
use mathlib.Core.List.{List, []}
use borrow.Author.Tests.{lt-ltb, le-ltb, eq-eqb, ne_eqb}
use lib.ListN.{length}
use Rattle.tables.specs.Firsts.{NoneOf, IsFirst}
use Rattle.tables.proofs.Firsts.{FirstSays, at_first, at_none, first_says}
use Rattle.tables.proofs.Bools.{or_left}
use Rattle.frame.specs.declared.Header.{Header}
use Rattle.frame.specs.Head.{header_of}
use Rattle.refusal.specs.declared.Refusal.{Refusal}
use Rattle.refusal.specs.declared.Refusal.TheVariants.{ShortBuffer, IllFormed}
use Rattle.refusal.specs.Refusal.{frame_order}
use Rattle.reply.specs.Reply.{sent_of, written_of}
use Rattle.calls.specs.declared.View.{View}
use Rattle.calls.specs.declared.Decision.{Decision}
use Rattle.calls.specs.declared.Turn.{Turn}
use Rattle.calls.specs.View.{view_of}
use Rattle.calls.specs.Turn.{refused_turn, sent_turn}
use Rattle.serve.specs.Turn.{next_turn, next_turn_buffer}
use Rattle.taking.specs.Taking.{is_data, no_write, uncovered, taking_turn, taking_buffer, taking_window}
use Rattle.arrival.specs.declared.Form.{Form}
use Rattle.arrival.specs.Arrival.{short_buffer}
use Rattle.arrival.proofs.Passes.{Passes, passed, passes}
use Rattle.drive.specs.declared.Drive.{Drive}
use Rattle.drive.specs.declared.Answer.{Answer}
use Rattle.drive.specs.Drive.{refused}
use Rattle.drive.specs.Entry.{data_step, applies, decided_in, answered, frame_in, frame_in_buffer, frame_in_window, next_frame, next_frame_buffer}
use Rattle.drive.specs.Turn.{arrived_in, decision_of, passed_turn, passed_buffer, arrived_turn, arrived_buffer, arrived_window, next_out_turn, next_out_buffer, answer_to}
use Rattle.drive.proofs.Turns.{frame_came, buffer_came, window_came, frame_turn_lem, frame_turn_buffer, frame_turn_window}

-- no number applies to a frame in: what arrived passes, and a data frame is for an open WRITE, with a window that covers it or a fault
pub record PassesIn (d : Drive) (f : List ℕ) (start len room : ℕ) : Type 0 where
  pub arrived : Passes d.unit d.port (header_of f) f room
  pub open_write : (is_data (header_of f) && no_write (data_step d f start len)) ≡ false
  pub covers : (is_data (header_of f) && uncovered (data_step d f start len)) ≡ false

module _ (d : Drive) (f : List ℕ) (start len room : ℕ) where
  pub passed_in : NoneOf (applies d f start len room) frame_order → PassesIn d f start len room
  passed_in n =
      record {
        arrived = passed d.unit d.port (header_of f) f room (n.0, (n.1.0, (n.1.1.0, (n.1.1.1.0, (n.1.1.1.1.0, (n.1.1.1.1.1.0, (n.1.1.1.1.1.1.0, tt)))))));
        open_write = or_left _ _ n.1.1.1.1.1.1.1.0;
        covers = or_left _ _ n.1.1.1.1.1.1.1.1.0;
      }

  -- and where all this holds none does
  pub passes_in : PassesIn d f start len room → NoneOf (applies d f start len room) frame_order
  passes_in s =
      let n = passes d.unit d.port (header_of f) f room s.arrived in
      (n.0, (n.1.0, (n.1.1.0, (n.1.1.1.0, (n.1.1.1.1.0, (n.1.1.1.1.1.0, (n.1.1.1.1.1.1.0, (rw s.open_write, (rw s.covers, tt)))))))))

-- a frame in is refused by the first number that applies, or it passes and is answered
pub frame_cases : (d : Drive) (f : List ℕ) (start : ℕ) (W : List ℕ) (room : ℕ) (P : Answer → Type 0) → ((x : Refusal) → IsFirst (applies d f start (length W) room) frame_order x → P (refused x d))
    → (PassesIn d f start (length W) room → P (answered d (header_of f) (decided_in d f start (length W)))) → P (frame_in d f start W room)
unfolding frame_in
frame_cases d f start W room P refuses answers = by (first_says tests frame_order (λ x. refused x d) (answered d (header_of f) (decided_in d f start (length W))) refl)
  where
    tests : Refusal → Bool
    tests = applies d f start (length W) room

    by : {y : Answer} → FirstSays tests frame_order (λ x. refused x d) (answered d (header_of f) (decided_in d f start (length W))) y → P y
    by (at_first x i e) = rw e (refuses x i)
    by (at_none n e) = rw e (answers (passed_in d f start (length W) room n))

-- a buffer that is too short is refused before all else, and left as it was
module _ (d : Drive) where
  pub frame_short : (f : List ℕ) (start : ℕ) (W : List ℕ) (room : ℕ) → short_buffer room ≡ true → frame_in d f start W room ≡ refused ShortBuffer d
  unfolding frame_in
  frame_short f start W room s = rw s

  pub frame_short_buffer : (f : List ℕ) (start : ℕ) (W l : List ℕ) → short_buffer (length l) ≡ true → frame_in_buffer d f start W l ≡ l
  unfolding frame_in_buffer
  frame_short_buffer f start W l s = rw s

  pub frame_short_window : (f : List ℕ) (start : ℕ) (W : List ℕ) (room : ℕ) → short_buffer room ≡ true → frame_in_window d f start W room ≡ W
  unfolding frame_in_window
  frame_short_window f start W room s = rw s

  pub next_short : (a x start : ℕ) (W : List ℕ) (room : ℕ) → short_buffer room ≡ true → next_frame d a x start W room ≡ refused ShortBuffer d
  unfolding next_frame
  next_short a x start W room s = rw s

  pub next_short_buffer : (a x start : ℕ) (W l : List ℕ) → short_buffer (length l) ≡ true → next_frame_buffer d a x start W l ≡ l
  unfolding next_frame_buffer
  next_short_buffer a x start W l s = rw s

-- what `frame_in` answers
module _ (d : Drive) (f : List ℕ) (start : ℕ) (W l : List ℕ) where
  abbrev Says : Answer → List ℕ → List ℕ → Type 0
  Says r l₁ W₁ = (r ≡ frame_in d f start W (length l)) × ((l₁ ≡ frame_in_buffer d f start W l) × (W₁ ≡ frame_in_window d f start W (length l)))

  pub says_short : length l < 2136 → (r : Answer) → r ≡ refused ShortBuffer d → Says r l W
  says_short s r e =
      let b = lt-ltb (length l) 2136 s in
      (e ∙ sym (frame_short d f start W (length l) b), (sym (frame_short_buffer d f start W l b), sym (frame_short_window d f start W (length l) b)))

  module _ (room : 2136 ≤ length l) (h : Header) (eh : h ≡ header_of f) (v : View) (ev : v ≡ view_of d.unit d.port h.s_id) (j : Result Form Refusal) (ej : j ≡ arrived_in v h f) where
    roomy : short_buffer (length l) ≡ false
    roomy = le-ltb (length l) 2136 room

    view_as : v ≡ view_of d.unit d.port (header_of f).s_id
    view_as = ev ∙ ap (λ (g : Header). view_of d.unit d.port g.s_id) eh

    judged_as : {k : Result Form Refusal} → j ≡ k → arrived_in (view_of d.unit d.port (header_of f).s_id) (header_of f) f ≡ k
    judged_as e = sym (rw (view_as, eh) at ej) ∙ e

    pub says_refused : (x : Refusal) (r : Answer) → j ≡ Err x → r ≡ refused x d → Says r l W
    says_refused x r e er = (
      er ∙ sym (frame_came d f start W (length l) roomy ∙ rw (judged_as e)),
      (sym (buffer_came d f start W l roomy ∙ rw (judged_as e)), sym (window_came d f start W (length l) roomy ∙ rw (judged_as e))),
    )

    pub says_arrived : (k : Form) (t : Turn) (l₁ W₁ : List ℕ) (r : Answer) → j ≡ Ok k → t ≡ arrived_turn v h f start (length W) (length l) → l₁ ≡ arrived_buffer v h f start (length W) l
        → W₁ ≡ arrived_window v h f start W → r ≡ answer_to d t → Says r l₁ W₁
    says_arrived k t l₁ W₁ r e et el ew er = (
      er ∙ ap (answer_to d) (rw (view_as, eh) at et) ∙ frame_turn_lem d f start W k (judged_as e) (length l) roomy,
      ((rw (view_as, eh) at el) ∙ frame_turn_buffer d f start W k (judged_as e) l roomy, (rw (view_as, eh) at ew) ∙ frame_turn_window d f start W k (judged_as e) (length l) roomy),
    )

module _ (v : View) (h : Header) (f : List ℕ) where
  -- what `passed_turn` answers
  pub turn_passed : (l : List ℕ) (d : Decision) (n : ℕ) (l₁ : List ℕ) (t : Turn) → d ≡ decision_of v h f → n ≡ sent_of v.own h d.reply [] (length l) → l₁ ≡ written_of v.own h d.reply [] l → t ≡ sent_turn n d
      → (t ≡ passed_turn v h f (length l)) × (l₁ ≡ passed_buffer v h f l)
  unfolding passed_turn passed_buffer
  turn_passed l d n l₁ t ed en el et = rw (et, en, el, ed) (refl, refl)

  -- what `arrived_turn` answers: of a data frame, and of another
  module _ (start : ℕ) (W l : List ℕ) where
    abbrev Comes : Turn → List ℕ → List ℕ → Type 0
    Comes t l₁ W₁ = (t ≡ arrived_turn v h f start (length W) (length l)) × ((l₁ ≡ arrived_buffer v h f start (length W) l) × (W₁ ≡ arrived_window v h f start W))

    pub comes_data : (t : Turn) (l₁ W₁ : List ℕ) → h.r_ctl ≡ 0x01 → t ≡ taking_turn v h (length f) start (length W) (length l) → l₁ ≡ taking_buffer v h (length f) start (length W) l → W₁ ≡ taking_window v h f start W → Comes t l₁ W₁
    unfolding arrived_turn arrived_buffer arrived_window
    comes_data t l₁ W₁ c et el ew = rw (eq-eqb h.r_ctl 0x01 c) (et, (el, ew))

    pub comes_other : (t : Turn) (l₁ : List ℕ) → (h.r_ctl ≡ 0x01 → ⊥) → t ≡ passed_turn v h f (length l) → l₁ ≡ passed_buffer v h f l → Comes t l₁ W
    unfolding arrived_turn arrived_buffer arrived_window
    comes_other t l₁ c et el = rw (ne_eqb h.r_ctl 0x01 c) (et, (el, refl))

-- what `next_turn` answers of a state that is well formed
module _ (v : View) (w : v.fine ≡ true) (a x start : ℕ) (W l : List ℕ) where
  pub turn_served : (t : Turn) (l₁ : List ℕ) → t ≡ next_turn v a x start W (length l) → l₁ ≡ next_turn_buffer v a x start W l → (t ≡ next_out_turn v a x start W (length l)) × (l₁ ≡ next_out_buffer v a x start W l)
  unfolding next_out_turn next_out_buffer
  turn_served t l₁ et el = (
    et ∙ sym (ap (λ (b : Bool). cond b (next_turn v a x start W (length l)) (refused_turn IllFormed)) w),
    el ∙ sym (ap (λ (b : Bool). cond b (next_turn_buffer v a x start W l) l) w),
  )
