-- A drive that was made and driven only by the entries is well formed, so it never draws refusal 2. Assumes nothing.
use mathlib.Core.Path.{◌≡◌}
use mathlib.Core.Bool.{true}
use Rattle.drive.specs.declared.Drive.{Drive}
use Rattle.drive.proofs.Made.{made_formed}
use Rattle.drive.proofs.Keeping.{fine, frame_kept, next_frame_kept, event_fine}
use Rattle.demands.specs.Driven.{Driven, made, frame, next, event}

pub driven_fine : {d : Drive} → Driven d → fine d ≡ true
driven_fine (made s e) = made_formed s e
driven_fine (frame {d} f start W room known r) = frame_kept d f start W room known (driven_fine r)
driven_fine (next {d} a x start W room r) = next_frame_kept d a x start W room (driven_fine r)
driven_fine (event {d} e r) = event_fine d e (driven_fine r)
