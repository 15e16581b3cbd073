-- The loop of `boundary::reach`: the logins before place i are done. Assumes nothing.
use Rattle.boundary.specs.Settled.{marks_of, spared_marks, reached_by}
use Rattle.boundary.proofs.Reached.{Reached}
use Rattle.boundary.proofs.reach.Given as goal

abbrev pub invariant-loop-i : goal.invariant-loop-i
invariant-loop-i l =
    let ms = spared_marks (marks_of l.fn.c l.fn.keys) l.fn.spared in
    Reached l.fn.c ms (reached_by l.fn.c ms l.fn.p.logins) l.logins l.i
