-- `calls::find_any` meets its contract: the search looked for a key that is any of the three. Assumes nothing.
use Rattle.std.proofs.Common.{rules}
use Rattle.std.proofs.lemmas.Iterator.{YieldsList-from_slice}
use borrow.Author.Tests.{tests}
use Rattle.tables.proofs.Chains.{first_by_chain}
use Rattle.tables.proofs.Searches.{within}
use Rattle.formed.proofs.Keys.{no_key}
use Rattle.calls.specs.View.{is_any, find_any}
use Rattle.calls.proofs.find_any.Goals as goal

pub returns : goal.returns
unfolding find_any
returns c =
    let sought = is_any c.args.a c.args.b c.args.name in
    within no_key sought _ 8 (search rules) (first_by_chain sought _ c.position.ensures.ran (YieldsList-from_slice _ cc) (λ x b q k. search (rules, tests)))
