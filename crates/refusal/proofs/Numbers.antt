-- The range of the numbers. Assumes nothing.
use Prim.Native.Nat.{◌≤◌, ◌<◌}
use native.Mathlib.Omega.{arith}
use Rattle.refusal.specs.declared.Refusal.{Refusal}
use Rattle.refusal.specs.declared.Refusal.TheVariants.{ShortBuffer, IllFormed, BadSize, NotOurs, BadSource, UnknownForm, Unproven, BadSetup, NoExchange, BadWindow, NoWrite}
use Rattle.refusal.specs.Refusal.{number_of}

-- the numbers are 1 to 11
pub numbers : (x : Refusal) → (0 < number_of x) × (number_of x ≤ 11)
numbers ShortBuffer = (omega arith, omega arith)
numbers IllFormed = (omega arith, omega arith)
numbers BadSize = (omega arith, omega arith)
numbers NotOurs = (omega arith, omega arith)
numbers BadSource = (omega arith, omega arith)
numbers UnknownForm = (omega arith, omega arith)
numbers Unproven = (omega arith, omega arith)
numbers BadSetup = (omega arith, omega arith)
numbers NoExchange = (omega arith, omega arith)
numbers BadWindow = (omega arith, omega arith)
numbers NoWrite = (omega arith, omega arith)
