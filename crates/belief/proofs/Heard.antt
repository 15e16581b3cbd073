-- What the host of an address hears of each call, read off the buffer: of a frame in what answers it, where the host is its sender; of a next frame that frame, where it is for the host. Assumes nothing.
use Rattle.std.specs.Prelude.{Result, ℕ}
use Rattle.refusal.specs.declared.Refusal.{Refusal}
use Prim.Native.Nat.{ℕ, ◌≤◌}
use mathlib.Core.Path.{◌≡◌, refl, sym, ap, ◌∙◌}
use mathlib.Core.Bool.{Bool, true, false, cond, not}
use mathlib.Core.List.{List, []}
use lib.Dec.{eqb}
use lib.ListN.{length}
use borrow.Author.Tests.{ltb-false, eqb-true, eq-eqb, ne_eqb}
use Rattle.frame.specs.Head.{header_of}
use Rattle.refusal.specs.declared.Refusal.TheVariants.{ShortBuffer, IllFormed}
use Rattle.state.specs.Changes.{own_of}
use Rattle.state.specs.Kinds.{is_write}
use Rattle.formed.specs.Formed.{well_formed}
use Rattle.serve.specs.Next.{has_more, ready_reply, next_reply, source_of, asked_by, exchange_of, full_of, Step, Refused, Frame, step_of, frame_bytes, next_at, next_of, buffer_at, next_buffer}
use Rattle.serve.specs.Whole.{is_sent}
use Rattle.serve.proofs.Steps.{passed}
use Rattle.reply.specs.declared.DataFrame.{DataFrame}
use Rattle.reply.specs.declared.Response.{Response}
use Rattle.reply.specs.declared.Reply.{Reply}
use Rattle.reply.specs.declared.Reply.TheVariants as reply
use Rattle.reply.specs.Reply.{silent}
use Rattle.arrival.specs.Arrival.{short_buffer, form_of}
use Rattle.drive.specs.declared.Drive.{Drive}
use Rattle.drive.specs.Drive.{refused}
use Rattle.drive.specs.Entry.{decided_in, reply_bytes, frame_in, next_answer, next_frame, next_frame_buffer}
use Rattle.drive.proofs.Ways.{PassesIn, passes_in, frame_cases}
use Rattle.drive.proofs.Keeping.{source_valid}
use Rattle.demands.proofs.Judges.{small_address}
use Rattle.demands.proofs.Decoding.{named_small}
use Rattle.demands.proofs.Refusals.{frame_refuses, frame_answers}
use Rattle.belief.specs.Host.{none, other}
use Rattle.belief.specs.Wire.{heard_of, heard_in, heard_next, Others, frame, answer, next, elsewhere, ToOthers, others_heard}
use Rattle.belief.proofs.Reading.{sounds, quiet, reads, sent_is}

-- a reply that sounds `other` where it is one
abbrev Plain : Reply → Type 0
Plain r = sounds r ≡ cond (not (silent r)) other none

-- a next frame is data, FCP_XFER_RDY, "nothing while data is awaited", or a response
next_plain : (more write awaited : Bool) (x y : ℕ) (d : DataFrame) (r : Response) → Plain (cond more (cond write (cond awaited reply.Nothing (reply.Ready x y)) (reply.Data d)) (reply.Respond r))
next_plain true true true x y d r = refl
next_plain true true false x y d r = refl
next_plain true false awaited x y d r = refl
next_plain false write awaited x y d r = refl

module _ (a : ℕ) (d : Drive) where
  -- "addresses swapped": what answers a frame that passes is for its sender
  pub passed_heard : (f : List ℕ) (start : ℕ) (W l : List ℕ) → PassesIn d f start (length W) (length l)
      → heard_in a d f start W l ≡ cond (eqb (header_of f).s_id a) (sounds (decided_in d f start (length W)).reply) none
  unfolding reply_bytes
  passed_heard f start W l s =
      let t = frame_answers d f start W l (passes_in d f start (length W) (length l) s) in
      rw (t.0, t.1)
      (reads a (own_of d.port) (header_of f) (decided_in d f start (length W)).reply [] l (ltb-false (length l) 2136 s.arrived.long)
      (small_address (header_of f).s_id (source_valid d.port.address (header_of f).s_id s.arrived.from)))

  -- nothing that a frame of another sender draws is heard by the host
  pub frame_unheard : (f : List ℕ) (start : ℕ) (W l : List ℕ) → ((header_of f).s_id ≡ a → ⊥) → heard_in a d f start W l ≡ none
  frame_unheard f start W l n =
      frame_cases d f start W (length l) (λ _. heard_in a d f start W l ≡ none) (λ x i. rw (frame_refuses d f start W l x i).0) (λ s. passed_heard f start W l s ∙ rw (ne_eqb (header_of f).s_id a n))

  -- nor is anything drawn by an answer
  done_unheard : (f : List ℕ) (start : ℕ) (W l : List ℕ) → (header_of f).r_ctl ≡ 0x23 → heard_in a d f start W l ≡ none
  unfolding form_of
  done_unheard f start W l r =
      frame_cases d f start W (length l) (λ _. heard_in a d f start W l ≡ none) (λ x i. rw (frame_refuses d f start W l x i).0) (λ s. passed_heard f start W l s ∙ rw r (quiet (eqb (header_of f).s_id a) false))

  -- a frame to another port is refused: nothing is heard of it, and nothing changes
  pub elsewhere_refused : (f : List ℕ) (start : ℕ) (W l : List ℕ) → ((header_of f).d_id ≡ d.port.address → ⊥) → ((frame_in d f start W (length l)).drive ≡ d) × (heard_in a d f start W l ≡ none)
  elsewhere_refused f start W l n =
      frame_cases d f start W (length l) (λ r. (r.drive ≡ d) × (heard_in a d f start W l ≡ none)) (λ x i. (refl, rw (frame_refuses d f start W l x i).0))
      (λ s. absurd (n (eqb-true (header_of f).d_id d.port.address s.arrived.here)))

  module _ (w : well_formed d.unit d.port ≡ true) (b x start : ℕ) (W l : List ℕ) where
    -- what is heard of a call for the next frame to address b
    abbrev Hears : Result ℕ Refusal → List ℕ → Type 0
    Hears s m = heard_of a s m ≡ cond (eqb b a) (cond (is_sent s) other none) none

    next_at_lem : (s : Step) → step_of d.port b x start (length W) ≡ s → 2136 ≤ length l → Hears (next_at s d.unit d.port b x W).said (buffer_at s d.unit d.port b x W l)
    unfolding frame_bytes next_reply ready_reply asked_by
    next_at_lem (Refused y) e room = quiet false (eqb b a)
    next_at_lem (Frame i j k) e room =
        let o = exchange_of d.port i j in
        let r = next_reply (full_of d.port i) o in
        let h = asked_by d.port.address b x in
        let source = source_of d.unit o k W in
        reads a (own_of d.port) h r source l room (named_small d.unit d.port b x i j k W w (passed d.port b x start (length W) i j k e).stands)
        ∙ ap (λ y. cond (eqb b a) y none) (next_plain (has_more o) (is_write o) (eqb o.awaited 1) _ _ _ _ ∙ ap (λ t. cond t other none) (sym (sent_is (own_of d.port) h r source)))

    -- the host hears it where b is its address
    pub next_heard : heard_next a d b x start W l ≡ cond (eqb b a) (cond (is_sent (next_frame d b x start W (length l)).said) other none) none
    unfolding next_frame next_frame_buffer next_of next_buffer
    next_heard = by (short_buffer (length l)) (well_formed d.unit d.port) refl
      where
        by : (s v : Bool) → short_buffer (length l) ≡ s
            → Hears (cond s (refused ShortBuffer d) (cond (not v) (refused IllFormed d) (next_answer d (next_of d.unit d.port b x start W)))).said (cond s l (cond (not v) l (next_buffer d.unit d.port b x start W l)))
        by true v e = quiet false (eqb b a)
        by false false e = quiet false (eqb b a)
        by false true e = next_at_lem (step_of d.port b x start (length W)) refl (ltb-false (length l) 2136 e)

    pub next_unheard : (b ≡ a → ⊥) → heard_next a d b x start W l ≡ none
    next_unheard n = next_heard ∙ rw (ne_eqb b a n)

-- a next frame to the host is heard exactly where one is given, which is not while data are awaited, and changes nothing that it believes
pub own_heard : (a : ℕ) (d : Drive) (w : well_formed d.unit d.port ≡ true) (x start : ℕ) (W l : List ℕ) → heard_next a d a x start W l ≡ cond (is_sent (next_frame d a x start W (length l)).said) other none
own_heard a d w x start W l = next_heard a d w a x start W l ∙ rw (eq-eqb a a refl)

-- nothing that another port's call draws is heard by the host, nor that its own frame to another port draws
pub others_unheard : (a name : ℕ) (d : Drive) → well_formed d.unit d.port ≡ true → (x : Others a name) → ToOthers d x → others_heard d x ≡ none
others_unheard a name d w (frame f start W l known n o) m = frame_unheard a d f start W l n
others_unheard a name d w (answer f start W l known r) m = done_unheard a d f start W l r
others_unheard a name d w (next b x start W l n) m = next_unheard a d w b x start W l n
others_unheard a name d w (elsewhere f start W l) m = (elsewhere_refused a d f start W l m).1
