-- The loop of `formed::exchange::Terms::numbers`: the number of each exchange before i is stored. Assumes nothing.
use Rattle.std.proofs.Common.{map}
use Rattle.tables.proofs.Loops.{Filled}
use Rattle.state.specs.Changes.{empty_exchange}
use Rattle.formed.specs.Keys.{exchange_number}
use Rattle.formed.proofs.exchange.Terms.numbers.Given as goal

abbrev pub invariant-loop-i : goal.invariant-loop-i
invariant-loop-i l =
    let number = exchange_number l.fn.self.unit l.fn.self.full l.fn.self.paired in Filled empty_exchange number (map number l.fn.t) l.numbers l.fn.t 8 l.i
