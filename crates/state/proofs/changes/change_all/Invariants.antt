-- The loop of `state::changes::change_all`: the change was made at each login before this one. Assumes nothing.
use Rattle.std.proofs.Common.{map}
use Rattle.tables.proofs.Loops.{Mapped}
use Rattle.state.specs.Changes.{no_login, changed_of}
use Rattle.state.proofs.changes.change_all.Given as goal

abbrev pub invariant-loop-l : goal.invariant-loop-l
invariant-loop-l l = Mapped no_login (changed_of l.fn.c) (map (changed_of l.fn.c) l.fn.p.logins) l.l-items 8 l.l-index
