-- Document 01's known numbers of the residual: wanted 1,024 with FCP_DL 1,000 and 2,048. Assumes nothing.
use mathlib.Core.Path.{◌≡◌, refl}
use Rattle.reply.specs.declared.Residual.TheVariants.{Exact, Over, Under}
use Rattle.residual.specs.Residual.{residual_of}

pub known : (residual_of 1024 1000 ≡ Over 24) × (residual_of 1024 2048 ≡ Under 1024) × (residual_of 1024 1024 ≡ Exact)
unfolding residual_of
known = (refl, refl, refl)
