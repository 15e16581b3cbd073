-- `boundary::event` meets its contract: what is seen, the change, and what happens. Assumes nothing.
use Rattle.boundary.proofs.Calling.{told, event_given}
use Rattle.boundary.proofs.event.Goals as goal

pub returns : goal.returns
returns c = told c.code.ensures (event_given c.args.d.now c.args.e c.sight_of-s.ensures c.change_of.ensures c.happen.ensures.0 c.happen.ensures.1)
