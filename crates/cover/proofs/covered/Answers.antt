-- `cover::covered` meets its contract, by the difference of the two blocks. Assumes nothing.
use Rattle.std.proofs.Common.{◌∙◌}
use Rattle.cover.proofs.Covers.{cover_after, cover_before}
use Rattle.cover.proofs.covered.Goals as goal

pub returns-then-start-block : goal.returns-then-start-block
returns-then-start-block c = c.after_start.ensures ∙ cover_after _ _ _ _ _ c.if-start-block.true

pub returns-else-start-block : goal.returns-else-start-block
returns-else-start-block c = c.before_start.ensures ∙ cover_before _ _ _ _ _ c.if-start-block.false
