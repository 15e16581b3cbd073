-- The loop of `formed::numbers::places_fine`: the whole is fine exactly where what is left is. Assumes nothing.
use Rattle.std.proofs.Common.{◌≡◌, length}
use Rattle.formed.specs.Keys.{places_fine}
use Rattle.formed.proofs.numbers.places_fine.Given as goal

abbrev pub invariant-loop-place : goal.invariant-loop-place
invariant-loop-place g l = let k = g.K.Known in places_fine k.number k.apart l.left ≡ places_fine k.number k.apart l.fn.places

abbrev pub decreases-loop-place : goal.decreases-loop-place
decreases-loop-place g l = length l.left
