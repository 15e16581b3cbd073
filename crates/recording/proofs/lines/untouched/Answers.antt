-- `recording::lines::untouched` meets its contract: the law of `all` over a slice. Assumes nothing.
use Rattle.std.proofs.Common.{rules}
use Rattle.std.proofs.lemmas.Iterator.{YieldsList-from_slice}
use borrow.Author.Tests.{tests}
use lib.Dec.{eqb}
use Rattle.tables.proofs.Chains.{all_by_chain}
use Rattle.recording.specs.Answers.{all_fill}
use Rattle.recording.proofs.lines.untouched.Goals as goal

pub returns : goal.returns
unfolding all_fill
returns c = all_by_chain (λ b. eqb b 0x5a) _ c.all.ensures.ran (YieldsList-from_slice c.args.lent.now cc) (λ x b q k. (search (rules, tests), cc))
