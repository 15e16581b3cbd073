-- The loop of `wire::put_front`: the first i elements of `src` stand over the front of `out`. Assumes nothing.
use Rattle.std.proofs.Common.{◌≡◌, ◌++◌, length, take, drop}
use Rattle.wire.proofs.put_front.Given as goal

abbrev pub invariant-loop-i : goal.invariant-loop-i
invariant-loop-i l = (length l.out ≡ length l.fn.out) × (l.out ≡ take l.i l.src ++ drop l.i l.fn.out)
