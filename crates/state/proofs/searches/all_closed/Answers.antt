-- `state::searches::all_closed` meets its contract: each place was asked. Assumes nothing.
use Rattle.std.proofs.Common.{rules}
use Rattle.std.proofs.lemmas.Iterator.{YieldsList-from_slice}
use borrow.Author.Tests.{tests}
use Rattle.tables.proofs.Chains.{all_by_chain}
use Rattle.state.specs.Changes.{is_closed}
use Rattle.state.proofs.searches.all_closed.Goals as goal

pub returns : goal.returns
returns c = all_by_chain is_closed _ c.all.ensures.ran (YieldsList-from_slice c.args.t cc) (λ x b q k. (search (rules, tests), cc))
