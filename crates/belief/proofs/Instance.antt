-- The drive keeps the laws, so demand 3 holds of it. Assumes nothing.
use Rattle.std.specs.Prelude.{Option, Some, None}
use Prim.Native.Nat.{ℕ}
use mathlib.Core.Path.{◌≡◌, refl, sym, ap, ◌∙◌, subst}
use mathlib.Core.Bool.{Bool, true, false, cond, not}
use mathlib.Core.List.{List}
use mathlib.Core.Logic.{◌⊎◌, inl, inr}
use lib.Dec.{eqb}
use lib.ListN.{length}
use borrow.Author.Tests.{eqb-true}
use Rattle.tables.proofs.Bools.{and_left, and_right, apart}
use Rattle.wire.specs.Bytes.{name_of}
use Rattle.frame.specs.Head.{header_of}
use Rattle.params.specs.Words.{params_of}
use Rattle.refusal.specs.declared.Refusal.TheVariants.{ShortBuffer, IllFormed}
use Rattle.state.specs.declared.Login.{Login}
use Rattle.state.specs.Changes.{is_used, has_name}
use Rattle.state.specs.Tables.{free_login, login_of}
use Rattle.state.proofs.Places.{open_place}
use Rattle.formed.specs.Formed.{well_formed}
use Rattle.formed.proofs.Parts.{formed_parts}
use Rattle.link.specs.Link.{link_of}
use Rattle.link.specs.Login.{named_in, host_gone, Accepts, Moves}
use Rattle.link.specs.Record.{Record, out, held, kept_from, record_at, record_of, doubted}
use Rattle.link.proofs.Exactly.{accepts}
use Rattle.link.proofs.Moved.{moved_out}
use Rattle.link.proofs.Room.{full_unnamed}
use Rattle.link.proofs.Records.{record_in, record_is, expired, power_record, reset_record, over_record}
use Rattle.serve.specs.Next.{next_of}
use Rattle.serve.specs.Whole.{is_sent}
use Rattle.serve.proofs.Moving.{next_only}
use Rattle.arrival.specs.Arrival.{short_buffer, form_of}
use Rattle.drive.specs.declared.Drive.{Drive}
use Rattle.drive.specs.declared.Answer.{Answer}
use Rattle.drive.specs.declared.Event.TheVariants.{LoopReset, TimeOver, PowerOn}
use Rattle.drive.specs.Drive.{refused, after_event, event_answer}
use Rattle.calls.specs.Turn.{Decided}
use Rattle.drive.specs.Entry.{decided_in, frame_in, next_answer, next_frame}
use Rattle.drive.specs.Others as calls
use Rattle.drive.proofs.Ways.{frame_cases}
use Rattle.drive.proofs.Made.{event_answered}
use Rattle.drive.proofs.Keeping.{frame_kept, next_frame_kept, event_fine}
use Rattle.drive.proofs.Others.{others_record, own_record}
use Rattle.belief.specs.Host.{none, other, received}
use Rattle.demands.proofs.Ending.{moved_or_not}
use Rattle.belief.specs.Side.{OwnRecord, NotOwn, Held, Unasked, Laws}
use Rattle.belief.specs.Demand3.{pass, World, arrives, step, Demand3}
use Rattle.belief.specs.Wire.{heard_next, Named, PlogiOf, Others, frame, answer, next, elsewhere, ToOthers, others, others_heard, Ending, power_on, time_over, after_ending, ends, the_drive}
use Rattle.belief.proofs.Keep.{demand3}
use Rattle.belief.proofs.Heard.{elsewhere_refused, own_heard, others_unheard}
use Rattle.belief.proofs.Takes.{found_held, host_takes}

-- a next frame comes out only where there is a login
sent_held : (d : Drive) (a x start : ℕ) (W : List ℕ) (room : ℕ) → is_sent (next_frame d a x start W room).said ≡ true → Held (record_of d.port a)
unfolding next_frame
sent_held d a x start W room = by (short_buffer room) (well_formed d.unit d.port)
  where
    by : (s w : Bool)
        → is_sent (cond s (refused ShortBuffer d) (cond (not w) (refused IllFormed d) (next_answer d (next_of d.unit d.port a x start W)))).said ≡ true → Held (record_of d.port a)
    by true w e = apart e refl
    by false false e = apart e refl
    by false true e =
        let m = next_only d.unit d.port a x start W e in
        found_held d.port a m.i (open_place d.port a x m.i m.j m.stands)

-- a next frame is heard where one comes out, and changes no record
given_unasked : (t : Bool) (r r' : Record) → (t ≡ true → Held r) → r' ≡ r → Unasked r (cond t other none) r'
given_unasked true r r' h e = (h refl, e)
given_unasked false r r' h e = e

call_unasked : (a : ℕ) (d : Drive) → well_formed d.unit d.port ≡ true → (x start : ℕ) (W l : List ℕ)
    → Unasked (record_of d.port a) (heard_next a d a x start W l) (record_of (next_frame d a x start W (length l)).drive.port a)
call_unasked a d w x start W l =
    rw (own_heard a d w x start W l) (given_unasked (is_sent (next_frame d a x start W (length l)).said) _ _ (sent_held d a x start W (length l)) (own_record d a x start W (length l)))

-- a login by whose end its host moved is that of another port name than the host's
moved_not_own : (a name : ℕ) (d : Drive) (f : List ℕ) → (PlogiOf name f → ⊥) → Moves d.port a (header_of f) f → NotOwn (Named name) (record_of d.port a)
unfolding has_name
moved_not_own a name d f unused m own =
    unused (record { form = record { routing = m.link; source = refl }; coded = m.plogi; sized = m.size }, its (record_of d.port a) (record_is d.port a) own)
  where
    l : Login
    l = login_of d.port a

    used : is_used l ≡ true
    used = and_left (is_used l) (eqb (name_of l.port_name) (named_in f)) m.name

    same : name_of l.port_name ≡ named_in f
    same = eqb-true (name_of l.port_name) (named_in f) (and_right (is_used l) (eqb (name_of l.port_name) (named_in f)) m.name)

    stands : record_in l ≡ record_at l
    stands = rw used

    its : (r : Record) → r ≡ record_in l → OwnRecord (Named name) r → Named name (kept_from (params_of f 28))
    its r e o = sym same ∙ subst (OwnRecord (Named name)) (e ∙ stands) o

-- and where the PLOGI is not refused, it is accepted, and no record is left
moved_record : (a : ℕ) (d : Drive) (f : List ℕ) (start : ℕ) (W : List ℕ) (room : ℕ) → well_formed d.unit d.port ≡ true → ((header_of f).s_id ≡ a → ⊥) → Moves d.port a (header_of f) f
    → (record_of (frame_in d f start W room).drive.port a ≡ record_of d.port a) ⊎ (record_of (frame_in d f start W room).drive.port a ≡ out)
unfolding form_of
moved_record a d f start W room w n m =
    frame_cases d f start W room (λ (r : Answer). (record_of r.drive.port a ≡ record_of d.port a) ⊎ (record_of r.drive.port a ≡ out)) (λ _ _. inl refl)
    (λ _. inr (ap (λ (r : Decided). record_of r.port a) linked ∙ by (free_login (host_gone d.port (header_of f) f)) refl))
  where
    linked : decided_in d f start (length W) ≡ link_of d.port (header_of f) f
    linked = rw m.link

    by : (g : Option ℕ) → free_login (host_gone d.port (header_of f) f) ≡ g → record_of (link_of d.port (header_of f) f).port a ≡ out
    by (Some i) e =
        let taken : Accepts d.port (header_of f) f = record { size = m.size; tests = m.tests; place = i; free = e } in
        rw (accepts d.port (header_of f) f m.plogi taken) (moved_out d.port (formed_parts w).distinct (header_of f) f taken a (λ z. n (sym z)) m.name)
    by None e = apart m.name (full_unnamed d.port (header_of f).s_id (named_in f) e a)

-- this host's record stays, or it is another's and has ended
abbrev StaysOr : ℕ → ℕ → Drive → Drive → Type 0
StaysOr a name d e = (record_of e.port a ≡ record_of d.port a) ⊎ (NotOwn (Named name) (record_of d.port a) × (record_of e.port a ≡ out))

-- so it is, whatever other ports send, and whatever is sent to them
pass_record : (a name : ℕ) (d : Drive) (x : Others a name) → well_formed d.unit d.port ≡ true → ToOthers d x → StaysOr a name d (others d x)
pass_record a name d (frame f start W l known n o) w m =
    elim (moved_or_not d.port a (header_of f) f) [
      | yes moves ↦ by (moved_record a d f start W (length l) w n moves) (moved_not_own a name d f o moves)
      | no still ↦ inl (others_record d w (calls.frame f start W (length l) (λ e. n (sym e))) still)
    ]
  where
    by : (record_of (frame_in d f start W (length l)).drive.port a ≡ record_of d.port a) ⊎ (record_of (frame_in d f start W (length l)).drive.port a ≡ out) → NotOwn (Named name) (record_of d.port a)
        → StaysOr a name d (frame_in d f start W (length l)).drive
    by (inl e) g = inl e
    by (inr e) g = inr (g, e)
pass_record a name d (answer f start W l known r) w m = inl (others_record d w (calls.done f start W (length l) r) tt)
pass_record a name d (next b ox start W l n) w m = inl (others_record d w (calls.next b ox start W (length l) (λ e. n (sym e))) tt)
pass_record a name d (elsewhere f start W l) w m = inl (ap (λ (e : Drive). record_of e.port a) (elsewhere_refused a d f start W l m).0)

pass_fine : (a name : ℕ) (d : Drive) (x : Others a name) → well_formed d.unit d.port ≡ true → ToOthers d x → well_formed (others d x).unit (others d x).port ≡ true
pass_fine a name d (frame f start W l known n o) w m = frame_kept d f start W (length l) known w
pass_fine a name d (answer f start W l known r) w m = frame_kept d f start W (length l) known w
pass_fine a name d (next b ox start W l n) w m = next_frame_kept d b ox start W (length l) w
pass_fine a name d (elsewhere f start W l) w m = rw (elsewhere_refused a d f start W l m).0 w

-- and the host hears nothing of it
pass_unasked : (a name : ℕ) (d : Drive) (x : Others a name) → well_formed d.unit d.port ≡ true → ToOthers d x
    → Unasked (record_of d.port a) (others_heard d x) (record_of (others d x).port a) ⊎ (NotOwn (Named name) (record_of d.port a) × (others_heard d x ≡ none))
pass_unasked a name d x w m = by (pass_record a name d x w m)
  where
    quiet : others_heard d x ≡ none
    quiet = others_unheard a name d w x m

    by : StaysOr a name d (others d x)
        → Unasked (record_of d.port a) (others_heard d x) (record_of (others d x).port a) ⊎ (NotOwn (Named name) (record_of d.port a) × (others_heard d x ≡ none))
    by (inl e) = inl (rw quiet e)
    by (inr (n, e)) = inr (n, quiet)

-- power on and the time over: what is no loss of memory leaves the record, and a loss ends it
power_is : (r : Record) → out ≡ cond (ends power_on r) out r
power_is out = refl
power_is (held p v k) = refl

expired_is : (r : Record) → expired r ≡ cond (ends time_over r) out r
expired_is out = refl
expired_is (held p true k) = refl
expired_is (held p false k) = refl

ending_record : (a : ℕ) (d : Drive) (x : Ending) → well_formed d.unit d.port ≡ true → record_of (after_ending d x).port a ≡ cond (ends x (record_of d.port a)) out (record_of d.port a)
unfolding after_event
ending_record a d power_on w = ap (λ (y : Answer). record_of y.drive.port a) (event_answered d PowerOn w) ∙ power_record d.port (formed_parts w).distinct a ∙ power_is (record_of d.port a)
ending_record a d time_over w =
    ap (λ (y : Answer). record_of y.drive.port a) (event_answered d TimeOver w) ∙ over_record d.port (formed_parts w).distinct a ∙ expired_is (record_of d.port a)

ending_fine : (d : Drive) (x : Ending) → well_formed d.unit d.port ≡ true → well_formed (after_ending d x).unit (after_ending d x).port ≡ true
ending_fine d power_on w = event_fine d PowerOn w
ending_fine d time_over w = event_fine d TimeOver w

reset_doubts : (a : ℕ) (d : Drive) → well_formed d.unit d.port ≡ true → record_of (event_answer d LoopReset).drive.port a ≡ doubted (record_of d.port a)
unfolding after_event
reset_doubts a d w = ap (λ (y : Answer). record_of y.drive.port a) (event_answered d LoopReset w) ∙ reset_record d.port (formed_parts w).distinct a

pub drive_laws : (a name : ℕ) → Laws (the_drive a name)
drive_laws a name =
    record {
      take_wf = λ d f w. frame_kept d f.bytes f.start f.window (length f.buffer) f.known w;
      call_wf = λ d c w. next_frame_kept d a c.ox c.start c.window (length c.buffer) w;
      pass_wf = λ d x w m. pass_fine a name d x w m;
      reset_wf = λ d w. event_fine d LoopReset w;
      lapse_wf = λ d x w. ending_fine d x w;
      owns = λ f. f.named;
      takes = λ d f w. host_takes a d w f.bytes f.start f.window f.buffer f.request f.makes;
      calls = λ d c w. call_unasked a d w c.ox c.start c.window c.buffer;
      passes = λ d x w m. pass_unasked a name d x w m;
      resets = λ d w. reset_doubts a d w;
      lapses = λ d x w. ending_record a d x w;
    }

-- "all from other ports, change nothing": neither what the host believes nor the drive's record for it, but that of another's login
pub others_change_nothing : (a name : ℕ) (w : World (the_drive a name)) → well_formed w.drive.unit w.drive.port ≡ true → (x : Others a name) (b : Bool) → ToOthers w.drive x
    → ((step (the_drive a name) w (pass x b)).belief ≡ w.belief)
    × StaysOr a name w.drive (step (the_drive a name) w (pass x b)).drive
others_change_nothing a name w k x b m = (ap (λ y. received (arrives b y) w.belief) (others_unheard a name w.drive k x m) ∙ silent b, pass_record a name w.drive x k m)
  where
    silent : (t : Bool) → received (arrives t none) w.belief ≡ w.belief
    silent true = refl
    silent false = refl

-- demand 3, of the drive itself: every history over its entries, for the host of any address and any port name
pub demand_3 : (a name : ℕ) → Demand3 (the_drive a name)
demand_3 a name = demand3 (the_drive a name) (drive_laws a name)
