-- Whether a request is spared is told by the service of its code; a code of no service is not. Assumes nothing.
use Rattle.std.specs.Prelude.{Ok, Err}
use mathlib.Core.Path.{◌≡◌, sym, ap}
use mathlib.Core.Bool.{false}
use Prim.Native.Nat.{ℕ}
use Rattle.params.specs.declared.Service.{Service}
use Rattle.params.specs.declared.Service.TheVariants.{Plogi, Logo, Pdisc, Adisc}
use Rattle.params.specs.Services.{code_of, service_with}
use Rattle.params.proofs.Services.{has_code, none_has}
use Rattle.arrival.specs.Arrival.{spared}

pub of_service : (code : ℕ) (s : Service) → service_with code ≡ Ok s → spared 0x22 (code_of s) ≡ spared 0x22 code
of_service code s e = ap (spared 0x22) (sym (has_code code s e))

pub of_none : (code : ℕ) → service_with code ≡ Err record {} → spared 0x22 code ≡ false
unfolding spared
of_none code e = rw (none_has code e Plogi, none_has code e Logo, none_has code e Pdisc, none_has code e Adisc)
