-- The drives that theorems over all histories of calls speak of.
use Rattle.std.specs.Prelude.{◌≡◌, true, List, ℕ}
use Rattle.wire.specs.Layout.{AllBytes}
use Rattle.state.specs.declared.Setup.{Setup}
use Rattle.formed.specs.Formed.{setup_rules}
use Rattle.drive.specs.declared.Drive.{Drive}
use Rattle.drive.specs.declared.Event.{Event}
use Rattle.drive.specs.Drive.{made_from, event_answer}
use Rattle.drive.specs.Entry.{frame_in, next_frame}

-- a drive made from a setup that keeps its rules, and driven by any calls: frames of bytes, next frames, events, each with any buffer and window
pub data Driven : Drive → Type 0 where
  made : (s : Setup) → setup_rules s ≡ true → Driven (made_from s)
  frame : {d : Drive} (f : List ℕ) (start : ℕ) (W : List ℕ) (room : ℕ) → AllBytes f → Driven d → Driven (frame_in d f start W room).drive
  next : {d : Drive} (a x start : ℕ) (W : List ℕ) (room : ℕ) → Driven d → Driven (next_frame d a x start W room).drive
  event : {d : Drive} (e : Event) → Driven d → Driven (event_answer d e).drive
