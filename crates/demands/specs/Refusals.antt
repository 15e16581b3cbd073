-- When each refusal applies to a next frame out (document 01, "Numbers returned for refused calls").
use Rattle.std.specs.Prelude.{ℕ, Bool, false, not, List, length}
use Rattle.refusal.specs.declared.Refusal.{Refusal}
use Rattle.refusal.specs.declared.Refusal.TheVariants.{ShortBuffer, IllFormed, BadSize, NotOurs, BadSource, UnknownForm, Unproven, BadSetup, NoExchange, BadWindow, NoWrite}
use Rattle.formed.specs.Formed.{well_formed}
use Rattle.serve.specs.Refusals.{applies_next}
use Rattle.arrival.specs.Arrival.{short_buffer}
use Rattle.drive.specs.declared.Drive.{Drive}

-- "When", of each number, for a next frame of address a and OX_ID x with the window W from block start on and the buffer l; the others are not given to a next frame
abbrev pub applies_out : Drive → ℕ → ℕ → ℕ → List ℕ → List ℕ → Refusal → Bool
applies_out d a x start W l ShortBuffer = short_buffer (length l)
applies_out d a x start W l IllFormed = not (well_formed d.unit d.port)
applies_out d a x start W l BadSize = false
applies_out d a x start W l NotOurs = false
applies_out d a x start W l BadSource = false
applies_out d a x start W l UnknownForm = false
applies_out d a x start W l Unproven = applies_next d.port a x start (length W) Unproven
applies_out d a x start W l BadSetup = false
applies_out d a x start W l NoExchange = applies_next d.port a x start (length W) NoExchange
applies_out d a x start W l BadWindow = applies_next d.port a x start (length W) BadWindow
applies_out d a x start W l NoWrite = false
