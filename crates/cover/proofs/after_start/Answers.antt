-- `cover::after_start` meets its contract: what is past the largest number is past the window. Assumes nothing.
use Rattle.std.proofs.Common.{◌∙◌, arith}
use Rattle.cover.proofs.Covers.{fits_not}
use Rattle.cover.proofs.after_start.Goals as goal

pub returns-in_err-checked_mul : goal.returns-in_err-checked_mul
returns-in_err-checked_mul c = c.from_residual.ensures ∙ (let h = c.in_err-checked_mul.ensures in fits_not _ _ _ (omega (arith, h)))

pub returns-in_err-at : goal.returns-in_err-at
returns-in_err-at c =
    c.from_residual-in_err-at.ensures ∙ (let h = c.in_err-at.ensures in let k = c.in_ok-checked_mul.ensures in fits_not _ _ _ (omega (arith, h, k)))
