-- The residual of a command, in natural numbers (document 01, "Commands").
use Rattle.std.specs.Prelude.{ℕ, ◌-◌, cond, ltb}
use Rattle.reply.specs.declared.Residual.{Residual}
use Rattle.reply.specs.declared.Residual.TheVariants.{Exact, Over, Under}

-- "The signed difference of wanted and FCP_DL above 0 sets flag 04h, below 0 flag 08h, FCP_RESID its size"
unfoldable pub residual_of : ℕ → ℕ → Residual
residual_of wanted expected = cond (ltb expected wanted) (Over (wanted - expected)) (cond (ltb wanted expected) (Under (expected - wanted)) Exact)
