-- `state::searches::free_exchange` meets its contract: the search looked for a free place. Assumes nothing.
use Rattle.std.proofs.Common.{rules}
use Rattle.std.proofs.lemmas.Iterator.{YieldsList-from_slice}
use borrow.Author.Tests.{tests}
use Rattle.tables.proofs.Chains.{within_by_chain}
use Rattle.state.specs.Changes.{empty_exchange, is_closed}
use Rattle.state.specs.Tables.{free_exchange}
use Rattle.state.proofs.searches.free_exchange.Goals as goal

pub returns : goal.returns
unfolding free_exchange
returns c = within_by_chain is_closed _ empty_exchange 8 (search rules) c.position.ensures.ran (YieldsList-from_slice c.args.l.places cc) (λ x b q k. (search (rules, tests), cc))
