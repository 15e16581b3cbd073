-- `cover::fits_at` meets its contract: what is past the largest number is past the window. Assumes nothing.
use Rattle.std.proofs.Common.{◌∙◌, arith}
use Rattle.cover.proofs.Covers.{fits, fits_not}
use Rattle.cover.proofs.fits_at.Goals as goal

pub returns-in_err-checked_add : goal.returns-in_err-checked_add
returns-in_err-checked_add c = c.from_residual.ensures ∙ (let h = c.in_err-checked_add.ensures in fits_not _ _ _ (omega (arith, h)))

pub returns-then-branch-len : goal.returns-then-branch-len
returns-then-branch-len c = (let h = c.in_ok-checked_add.ensures in fits _ _ _ (omega (arith, h)))

pub returns-else-branch-len : goal.returns-else-branch-len
returns-else-branch-len c = (let h = c.in_ok-checked_add.ensures in fits_not _ _ _ (omega (arith, h)))
