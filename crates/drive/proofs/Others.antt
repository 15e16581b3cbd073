-- After any call that is none of its own, the login of an address is what the turn's change of every login makes of it, and its record is as it was, but where its host moved; its own next frame leaves its record too. Assumes nothing.
use Rattle.std.specs.Prelude.{Err, Ok, Result}
use Prim.Native.Nat.{ℕ}
use mathlib.Core.Path.{◌≡◌, refl, sym, ap, ◌∙◌, subst}
use mathlib.Core.Bool.{Bool, true, false, cond, not}
use mathlib.Core.List.{List}
use lib.Dec.{T, eqb}
use lib.ListN.{length}
use Rattle.frame.specs.Head.{header_of}
use Rattle.reply.specs.declared.Reply.TheVariants as reply
use Rattle.refusal.specs.declared.Refusal.{Refusal}
use Rattle.refusal.specs.declared.Refusal.TheVariants.{ShortBuffer}
use Rattle.state.specs.declared.Port.{Port}
use Rattle.state.specs.declared.Unit.{Unit}
use Rattle.state.specs.Changes.{has_address, login_at, with_exchange, changed_of, changed_all}
use Rattle.state.specs.Tables.{login_of}
use Rattle.state.proofs.Places.{found_has, open_place}
use Rattle.formed.specs.Formed.{well_formed}
use Rattle.formed.proofs.Parts.{formed_parts}
use Rattle.calls.specs.declared.Turn.{Turn}
use Rattle.calls.specs.declared.View.{View}
use Rattle.calls.specs.View.{view_of}
use Rattle.calls.specs.Turn.{answers_only, refused_turn}
use Rattle.calls.specs.Others.{Another, Leaves, Elsewhere, LeavesLogin}
use Rattle.calls.proofs.Decisions.{by_cond, on_cond}
use Rattle.calls.proofs.Others as calls
use Rattle.link.specs.Login.{Moves}
use Rattle.link.specs.Record.{record_of}
use Rattle.link.proofs.Records as records
use Rattle.link.proofs.Services.{same_kept}
use Rattle.link.proofs.Others.{link_another, abts_another, link_leaves, abts_leaves}
use Rattle.command.proofs.Logins.{command_another, command_leaves}
use Rattle.serve.specs.Next.{exchange_of, full_of, next_exchange, Step, Refused, Frame, step_of, moved_on, next_at, next_of}
use Rattle.serve.proofs.Steps.{passed}
use Rattle.serve.proofs.Turns.{next_keeps, next_another}
use Rattle.arrival.specs.declared.Form.{Form}
use Rattle.arrival.specs.declared.Form.TheVariants.{Link, Done, Abort, Command, Data}
use Rattle.taking.specs.Taking.{is_data, taking_turn}
use Rattle.taking.proofs.Others.{taking_keeps, taking_another}
use Rattle.arrival.specs.Arrival.{short_buffer, form_of}
use Rattle.arrival.proofs.Passes.{link_form}
use Rattle.drive.specs.declared.Drive.{Drive}
use Rattle.drive.specs.declared.Answer.{Answer}
use Rattle.drive.specs.Entry.{frame_in, next_frame}
use Rattle.drive.specs.Turn.{arrived_in, on_judged, decision_as, decision_of, passed_turn, arrived_turn, next_out_turn, answer_to}
use Rattle.drive.specs.Others.{OfOthers, frame, done, next, Unmoved, turn_in, turn_out, others_answer, turn_of}
use Rattle.drive.proofs.Turns.{stays_is, frame_came, frame_turn_lem, next_out_turn_lem}
use Rattle.drive.proofs.Ways.{frame_short, next_short}

module _ (d : Drive) (w : well_formed d.unit d.port ≡ true) where
  abbrev u : Unit
  u = d.unit

  abbrev p : Port
  p = d.port

  -- a turn stores nothing of address a, once its change was made
  abbrev Aside : ℕ → Turn → Type 0
  Aside a t = Another (changed_all t.change p) a t.at t.login

  -- and its change leaves a's record
  abbrev Spares : ℕ → Turn → Type 0
  Spares a t = Leaves a (login_of p a) t.change

  -- what is decided of a frame of another sender, or of an answer
  module _ (f : List ℕ) (a : ℕ) (n : a ≡ (header_of f).s_id → ⊥) where
    decided_aside : (k : Form) → Elsewhere p a (decision_as (view_of u p (header_of f).s_id) (header_of f) k f)
    decided_aside Link = link_another u p (formed_parts w).logins (header_of f) a n f
    decided_aside Done = tt
    decided_aside Abort = abts_another u p (formed_parts w).logins (header_of f) a n
    decided_aside Command = command_another u p (header_of f) f (formed_parts w).logins a n
    decided_aside Data = tt

    decided_spares : (k : Form) → (k ≡ Link → (header_of f).r_ctl ≡ 0x22) → (Moves p a (header_of f) f → ⊥) → LeavesLogin p a (decision_as (view_of u p (header_of f).s_id) (header_of f) k f)
    decided_spares Link r still = link_leaves u p (formed_parts w).logins (header_of f) a n f (r refl) still
    decided_spares Done r still = tt
    decided_spares Abort r still = abts_leaves u p (formed_parts w).logins (header_of f) a n
    decided_spares Command r still = command_leaves u p (header_of f) f (formed_parts w).logins a n
    decided_spares Data r still = tt

  -- a frame in comes to its turn, which is a refusal, that of a data frame, or what is decided of any other
  module _ (f : List ℕ) (start : ℕ) (W : List ℕ) (room : ℕ) where
    abbrev len : ℕ
    len = length W

    abbrev v : View
    v = view_of u p (header_of f).s_id

    turn_in_lem : answer_to d (turn_in d f start len room) ≡ frame_in d f start W room
    unfolding turn_in
    turn_in_lem = by (short_buffer room) refl
      where
        arrives : Result Form Refusal → Turn
        arrives j = on_judged j refused_turn (λ _. arrived_turn v (header_of f) f start len room)

        on : (j : Result Form Refusal) → short_buffer room ≡ false → arrived_in v (header_of f) f ≡ j → answer_to d (arrives j) ≡ frame_in d f start W room
        on (Err x) s e = stays_is d x ∙ sym (frame_came d f start W room s ∙ rw e)
        on (Ok k) s e = frame_turn_lem d f start W k e room s

        by : (s : Bool) → short_buffer room ≡ s → answer_to d (cond s (refused_turn ShortBuffer) (arrives (arrived_in v (header_of f) f))) ≡ frame_in d f start W room
        by true s = stays_is d ShortBuffer ∙ sym (frame_short d f start W room s)
        by false s = on (arrived_in v (header_of f) f) s refl

    turn_cases : (P : Turn → Type 0) → ((x : Refusal) → P (refused_turn x)) → (is_data (header_of f) ≡ true → P (taking_turn v (header_of f) (length f) start len room))
        → P (passed_turn v (header_of f) f room) → P (turn_in d f start len room)
    unfolding turn_in arrived_turn
    turn_cases P refuses takes passes = on_cond P (short_buffer room) (refuses ShortBuffer) (by (arrived_in v (header_of f) f))
      where
        by : (j : Result Form Refusal) → P (on_judged j refused_turn (λ _. cond (is_data (header_of f)) (taking_turn v (header_of f) (length f) start len room) (passed_turn v (header_of f) f room)))
        by (Err x) = refuses x
        by (Ok k) = by_cond P (is_data (header_of f)) takes (λ _. passes)

    in_aside : (a : ℕ) → (is_data (header_of f) ≡ true → Aside a (taking_turn v (header_of f) (length f) start len room)) → Elsewhere p a (decision_of v (header_of f) f) → Aside a (turn_in d f start len room)
    unfolding passed_turn
    in_aside a t e = turn_cases (Aside a) (λ _. tt) t e

    in_spares : (a : ℕ) → LeavesLogin p a (decision_of v (header_of f) f) → Spares a (turn_in d f start len room)
    unfolding passed_turn
    in_spares a e = turn_cases (Spares a) (λ _. tt) (λ _. subst (Leaves a (login_of p a)) (sym (taking_keeps v (header_of f) (length f) start len room)) tt) e

  -- and a next frame to its own
  module _ (b x start : ℕ) (W : List ℕ) (room : ℕ) where
    turn_out_lem : answer_to d (turn_out d b x start W room) ≡ next_frame d b x start W room
    unfolding turn_out
    turn_out_lem = by (short_buffer room) refl
      where
        by : (s : Bool) → short_buffer room ≡ s → answer_to d (cond s (refused_turn ShortBuffer) (next_out_turn (view_of u p b) b x start W room)) ≡ next_frame d b x start W room
        by true s = stays_is d ShortBuffer ∙ sym (next_short d b x start W room s)
        by false s = next_out_turn_lem d b x start W room s

    out_aside : (a : ℕ) → (a ≡ b → ⊥) → Aside a (turn_out d b x start W room)
    unfolding turn_out next_out_turn
    out_aside a n = on_cond (Aside a) (short_buffer room) tt (on_cond (Aside a) (view_of u p b).fine (next_another u p b x start W (formed_parts w).logins room a n) tt)

    out_spares : (a : ℕ) → Spares a (turn_out d b x start W room)
    unfolding turn_out next_out_turn
    out_spares a =
        let v = view_of u p b in
        on_cond (Spares a) (short_buffer room) tt (on_cond (Spares a) v.fine (subst (Leaves a (login_of p a)) (sym (next_keeps v b x start W room)) tt) tt)

  -- an answer is no data frame, and nothing is decided of it
  answers_nothing : (f : List ℕ) → (header_of f).r_ctl ≡ 0x23 → decision_of (view_of u p (header_of f).s_id) (header_of f) f ≡ answers_only reply.Nothing
  unfolding decision_of form_of
  answers_nothing f r = rw r

  answer_other : (f : List ℕ) → (header_of f).r_ctl ≡ 0x23 → is_data (header_of f) ≡ true → ⊥
  answer_other f r y = subst T (sym y ∙ ap (λ (c : ℕ). eqb c 0x01) r) tt

  module _ {a : ℕ} where
    turn_is : (c : OfOthers a) → answer_to d (turn_of d c) ≡ others_answer d c
    turn_is (frame f start W room n) = turn_in_lem f start W room
    turn_is (done f start W room r) = turn_in_lem f start W room
    turn_is (next b x start W room n) = turn_out_lem b x start W room

    turn_aside : (c : OfOthers a) → Aside a (turn_of d c)
    unfolding decision_of
    turn_aside (frame f start W room n) =
        in_aside f start W room a (λ _. taking_another u p (formed_parts w).logins (header_of f) (length f) start (length W) room a n) (decided_aside f a n (form_of (header_of f).r_ctl))
    turn_aside (done f start W room r) = in_aside f start W room a (λ y. absurd (answer_other f r y)) (subst (Elsewhere p a) (sym (answers_nothing f r)) tt)
    turn_aside (next b x start W room n) = out_aside b x start W room a n

    turn_spares : (c : OfOthers a) → Unmoved d c → Spares a (turn_of d c)
    unfolding decision_of
    turn_spares (frame f start W room n) still = in_spares f start W room a (decided_spares f a n (form_of (header_of f).r_ctl) (link_form (header_of f).r_ctl) still)
    turn_spares (done f start W room r) still = in_spares f start W room a (subst (LeavesLogin p a) (sym (answers_nothing f r)) tt)
    turn_spares (next b x start W room n) still = out_spares b x start W room a

    -- the login of a after a call of others: what the turn's change of every login makes of it
    pub others_see : (c : OfOthers a) → login_of (others_answer d c).drive.port a ≡ changed_of (turn_of d c).change (login_of p a)
    others_see c = ap (λ (r : Answer). login_of r.drive.port a) (sym (turn_is c)) ∙ calls.others_see p (formed_parts w).distinct (turn_of d c) a (turn_aside c)

    -- and where its host did not move that change is none that ends or unproves it, so a's record is as it was
    pub others_record : (c : OfOthers a) → Unmoved d c → record_of (others_answer d c).drive.port a ≡ record_of p a
    others_record c still =
        ap (λ (r : Answer). record_of r.drive.port a) (sym (turn_is c)) ∙ records.others_record p (formed_parts w).distinct (turn_of d c) a (turn_aside c) (turn_spares c still)

-- a next frame changes exchanges alone, and so the record of its own address is as it was too
own_at : (u : Unit) (p : Port) (a x start : ℕ) (W : List ℕ) (s : Step) → step_of p a x start (length W) ≡ s → record_of (next_at s u p a x W).port a ≡ record_of p a
unfolding moved_on with_exchange has_address
own_at u p a x start W (Refused y) e = refl
own_at u p a x start W (Frame i j k) e =
    let at = open_place p a x i j (passed p a x start (length W) i j k e).stands in
    same_kept p a i at (with_exchange (login_at p i) j (next_exchange (full_of p i) (exchange_of p i j))) (found_has p a i at) refl

abbrev Stays : Drive → ℕ → Answer → Type 0
Stays d a r = record_of r.drive.port a ≡ record_of d.port a

pub own_record : (d : Drive) (a x start : ℕ) (W : List ℕ) (room : ℕ) → record_of (next_frame d a x start W room).drive.port a ≡ record_of d.port a
unfolding next_frame next_of
own_record d a x start W room =
    on_cond (Stays d a) (short_buffer room) refl
    (on_cond (Stays d a) (not (well_formed d.unit d.port)) refl (own_at d.unit d.port a x start W (step_of d.port a x start (length W)) refl))
