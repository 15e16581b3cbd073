-- `boundary::settle` meets its contract: the logins that are reached are changed, but for that at the turn's place, which is stored. Assumes nothing.
use Rattle.std.proofs.Common.{ap, ◌∙◌}
use Rattle.calls.specs.Turn.{stored_at}
use Rattle.boundary.specs.Settled.{settled_of}
use Rattle.boundary.proofs.settle.Goals as goal

pub returns : goal.returns
unfolding settled_of
returns c =
    let t = c.args.t in
    (c.store.ensures.0, c.store.ensures.1 ∙ ap (stored_at t.at t.login) c.reach.ensures)
