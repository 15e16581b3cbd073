-- `state::searches::place_of` meets its contract: the search looked for the OX_ID. Assumes nothing.
use Rattle.std.proofs.Common.{rules}
use Rattle.std.proofs.lemmas.Iterator.{YieldsList-from_slice}
use borrow.Author.Tests.{tests}
use Rattle.tables.proofs.Chains.{within_by_chain}
use Rattle.state.specs.Changes.{empty_exchange}
use Rattle.state.specs.Tables.{has_id, find_exchange}
use Rattle.state.proofs.searches.place_of.Goals as goal

pub returns : goal.returns
unfolding find_exchange
returns c = within_by_chain (has_id c.args.ox_id) _ empty_exchange 8 (search rules) c.position.ensures.ran (YieldsList-from_slice c.args.l.now.places cc) (λ x b q k. (search (rules, tests), cc))
