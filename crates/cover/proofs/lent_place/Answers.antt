-- `cover::lent_place` meets its contract: a law for each way. Assumes nothing.
use Rattle.std.proofs.Common.{sym, ◌∙◌}
use Rattle.cover.proofs.Covers.{lent_too_long, lent_too_many, lent_is}
use Rattle.cover.proofs.lent_place.Goals.{then-too_long-via-then-too_long, then-too_long-via-else-too_long+then-too_long-2}
use Rattle.cover.proofs.lent_place.Goals as goal

pub returns-then-too_long : goal.returns-then-too_long
returns-then-too_long c =
    elim c.then-too_long.branch [
      | then-too_long-via-then-too_long w ↦ lent_too_long _ _ _ _ (sym c.too_long.ensures ∙ w.if-too_long.true)
      | then-too_long-via-else-too_long+then-too_long-2 w ↦
          lent_too_many _ _ _ _ (sym c.too_long.ensures ∙ w.if-too_long.false) (sym w.too_long-else-too_long.ensures ∙ w.if-too_long-2.true)
    ]

pub returns : goal.returns
returns c = lent_is _ _ _ _ (sym c.too_long.ensures ∙ c.if-too_long.false) c.covered.ensures
