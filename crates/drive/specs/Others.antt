-- The calls that are none of the port's at an address, and what each comes to, as the theorems say it.
use Rattle.std.specs.Prelude.{ℕ, ◌≡◌, cond, List, length}
use Rattle.frame.specs.Head.{header_of}
use Rattle.refusal.specs.declared.Refusal.TheVariants.{ShortBuffer}
use Rattle.calls.specs.declared.Turn.{Turn}
use Rattle.calls.specs.View.{view_of}
use Rattle.calls.specs.Turn.{refused_turn}
use Rattle.arrival.specs.Arrival.{short_buffer}
use Rattle.link.specs.Login.{Moves}
use Rattle.drive.specs.declared.Drive.{Drive}
use Rattle.drive.specs.declared.Answer.{Answer}
use Rattle.drive.specs.Entry.{frame_in, next_frame}
use Rattle.drive.specs.Turn.{arrived_in, on_judged, arrived_turn, next_out_turn}

-- a frame in of another sender than a, the answer (23h) of any port to a request, a next frame for another address
pub data OfOthers (a : ℕ) : Type 0 where
  frame : (f : List ℕ) (start : ℕ) (W : List ℕ) (room : ℕ) → (a ≡ (header_of f).s_id → ⊥) → OfOthers a
  done : (f : List ℕ) (start : ℕ) (W : List ℕ) (room : ℕ) → (header_of f).r_ctl ≡ 0x23 → OfOthers a
  next : (b x start : ℕ) (W : List ℕ) (room : ℕ) → (a ≡ b → ⊥) → OfOthers a

-- such a call is none by which the host of a has moved: no PLOGI "whose parameters pass" with the port name of a's login (02, 1)
abbrev pub Unmoved : {a : ℕ} → Drive → OfOthers a → Type 0
Unmoved {a} d (frame f start W room n) = Moves d.port a (header_of f) f → ⊥
Unmoved d (done f start W room r) = Unit {0}
Unmoved d (next b x start W room n) = Unit {0}

-- what a frame in and a next frame come to, by the refusals in their order
unfoldable pub turn_in : Drive → List ℕ → ℕ → ℕ → ℕ → Turn
turn_in d f start len room =
    let v = view_of d.unit d.port (header_of f).s_id in
    cond (short_buffer room) (refused_turn ShortBuffer) (on_judged (arrived_in v (header_of f) f) refused_turn (λ _. arrived_turn v (header_of f) f start len room))

unfoldable pub turn_out : Drive → ℕ → ℕ → ℕ → List ℕ → ℕ → Turn
turn_out d a x start W room = cond (short_buffer room) (refused_turn ShortBuffer) (next_out_turn (view_of d.unit d.port a) a x start W room)

-- the answer to such a call, and what it comes to
abbrev pub others_answer : {a : ℕ} → Drive → OfOthers a → Answer
others_answer d (frame f start W room n) = frame_in d f start W room
others_answer d (done f start W room r) = frame_in d f start W room
others_answer d (next b x start W room n) = next_frame d b x start W room

abbrev pub turn_of : {a : ℕ} → Drive → OfOthers a → Turn
turn_of d (frame f start W room n) = turn_in d f start (length W) room
turn_of d (done f start W room r) = turn_in d f start (length W) room
turn_of d (next b x start W room n) = turn_out d b x start W room
