-- `wire::put_front` meets its contract: the end of its loop is `front_all`. Assumes nothing.
use Rattle.std.proofs.Common.{arith, ◌∙◌}
use Rattle.wire.proofs.Fronts.{front_all}
use Rattle.wire.proofs.put_front.Goals as goal

pub returns : goal.returns
returns c = c.loop-i.invariant.1 ∙ front_all c.args.src.now c.args.out.now c.loop-i.i (omega arith)
