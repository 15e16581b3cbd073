-- `formed::login::used_fine` meets its contract: each test that was made is one of the definition. Assumes nothing.
use Rattle.std.proofs.Common.{sym, ◌∙◌, arith, rules}
use Rattle.formed.specs.Formed.{used_fine}
use Rattle.formed.proofs.Keys.{exchanges_are}
use Rattle.formed.proofs.Sizes.{stored_size}
use Rattle.formed.proofs.login.used_fine.Goals as goal
use Rattle.formed.proofs.login.used_fine.Goals.{else-flags_fine-via-then-flags_fine+then-address_fine+then-params_fine+else-full-gt0, else-flags_fine-via-then-flags_fine+then-address_fine+else-params_fine, else-flags_fine-via-then-flags_fine+else-address_fine, else-flags_fine-via-else-flags_fine}

pub returns-then-full-gt0 : goal.returns-then-full-gt0
unfolding used_fine
returns-then-full-gt0 c =
    rw (sym c.flags_fine.ensures ∙ c.if-flags_fine.true, sym c.address_fine.ensures ∙ c.if-address_fine.true, sym c.params_fine.ensures ∙ c.if-params_fine.true)
    (exchanges_are _ _ c.args.l c.full_frame-full.ensures c.numbers.ensures c.places_fine.ensures)

-- a size that passes is not 0
pub returns-else-flags_fine : goal.returns-else-flags_fine
unfolding used_fine
returns-else-flags_fine c =
    elim c.else-flags_fine.branch [
      | else-flags_fine-via-then-flags_fine+then-address_fine+then-params_fine+else-full-gt0 w ↦ (let s = stored_size c.args.l (sym w.params_fine.ensures ∙ w.if-params_fine.true) in
          absurd (omega (arith, s, c.full_frame-full.ensures, w.if-full-gt0.false)))
      | else-flags_fine-via-then-flags_fine+then-address_fine+else-params_fine w ↦ search rules
      | else-flags_fine-via-then-flags_fine+else-address_fine w ↦ search rules
      | else-flags_fine-via-else-flags_fine w ↦ search rules
    ]
