-- No frame in makes a drive ill formed, so a made drive is never refused with 2. Assumes nothing.
use mathlib.Core.Path.{◌≡◌}
use mathlib.Core.Bool.{Bool, true, false, not}
use mathlib.Core.List.{List}
use Prim.Native.Nat.{ℕ}
use lib.Dec.{eqb}
use lib.ListN.{length}
use borrow.Author.Tests.{not-false}
use Rattle.tables.proofs.Bools.{or_left, or_right}
use Rattle.wire.specs.Layout.{AllBytes}
use Rattle.frame.specs.declared.Header.{Header}
use Rattle.frame.specs.Head.{header_of}
use Rattle.address.specs.Address.{valid_address}
use Rattle.state.specs.declared.Port.{Port}
use Rattle.state.specs.declared.Unit.{Unit}
use Rattle.formed.specs.Formed.{well_formed}
use Rattle.calls.proofs.Decisions.{on_cond}
use Rattle.link.proofs.Keeping.{link_kept, abts_kept}
use Rattle.command.proofs.Keeping.{command_kept}
use Rattle.serve.proofs.Keeping.{next_kept}
use Rattle.taking.proofs.Keeping.{data_kept}
use Rattle.arrival.specs.declared.Form.{Form}
use Rattle.arrival.specs.declared.Form.TheVariants.{Link, Done, Abort, Command, Data}
use Rattle.arrival.specs.Arrival.{short_buffer, bad_source, form_of}
use Rattle.drive.specs.declared.Drive.{Drive}
use Rattle.drive.specs.declared.Answer.{Answer}
use Rattle.drive.specs.declared.Event.{Event}
use Rattle.drive.specs.Drive.{event_answer}
use Rattle.drive.specs.Entry.{decided_of, frame_in, next_frame}
use Rattle.drive.proofs.Ways.{frame_cases}
use Rattle.drive.proofs.Made.{event_kept, event_answered}

-- a sender that passes is a valid address and not ours
pub source_valid : (own from : ℕ) → bad_source own from ≡ false → valid_address from ≡ true
unfolding bad_source
source_valid own from e = not-false (valid_address from) (or_left (not (valid_address from)) (eqb from own) e)

pub source_other : (own from : ℕ) → bad_source own from ≡ false → eqb from own ≡ false
unfolding bad_source
source_other own from e = or_right (not (valid_address from)) (eqb from own) e

pub decided_kept : (u : Unit) (p : Port) (h : Header) (k : Form) (f : List ℕ) (start len : ℕ) → AllBytes f → bad_source p.address h.s_id ≡ false → well_formed u p ≡ true
    → well_formed u (decided_of u p h k f start len).port ≡ true
decided_kept u p h Link f start len known from w = link_kept u p h f (source_valid p.address h.s_id from) (source_other p.address h.s_id from) w
decided_kept u p h Done f start len known from w = w
decided_kept u p h Abort f start len known from w = abts_kept u p h.s_id h.ox_id h.rx_id w
decided_kept u p h Command f start len known from w = command_kept u p h f known w
decided_kept u p h Data f start len known from w = data_kept u p h (length f) start len w

-- a drive that is well formed
abbrev pub fine : Drive → Bool
fine d = well_formed d.unit d.port

abbrev Kept : Answer → Type 0
Kept a = fine a.drive ≡ true

-- every frame of bytes keeps a drive well formed, refused or answered
pub frame_kept : (d : Drive) (f : List ℕ) (start : ℕ) (W : List ℕ) (room : ℕ) → AllBytes f → fine d ≡ true → fine (frame_in d f start W room).drive ≡ true
frame_kept d f start W room known w =
    frame_cases d f start W room Kept (λ x _. w) (λ s. decided_kept d.unit d.port (header_of f) (form_of (header_of f).r_ctl) f start (length W) known s.arrived.from w)

-- every next frame out keeps a drive well formed, refused or given
pub next_frame_kept : (d : Drive) (a x start : ℕ) (W : List ℕ) (room : ℕ) → fine d ≡ true → fine (next_frame d a x start W room).drive ≡ true
unfolding next_frame
next_frame_kept d a x start W room w =
    on_cond Kept (short_buffer room) w (on_cond Kept (not (fine d)) w (next_kept d.unit d.port a x start W w))

-- and every event
pub event_fine : (d : Drive) (e : Event) → fine d ≡ true → fine (event_answer d e).drive ≡ true
event_fine d e w = rw (event_answered d e w) (event_kept e d w)
