-- `formed::setup_rules` meets its contract: the rules of the setup's parts. Assumes nothing.
use Rattle.formed.proofs.setup_rules.Goals as goal

pub returns : goal.returns
returns c = c.rules_keep.ensures c.args.s.identity
