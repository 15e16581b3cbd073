-- The service that is found by a code has that code, and where none is found none has it. Assumes nothing.
use Rattle.std.specs.Prelude.{Result, Ok, Err}
use mathlib.Core.Path.{◌≡◌}
use mathlib.Core.Bool.{false}
use Prim.Native.Nat.{ℕ}
use native.Mathlib.Omega.{arith}
use lib.Dec.{eqb}
use borrow.Author.Tests.{eqb-true}
use Rattle.tables.specs.Firsts.{NoneOf}
use Rattle.tables.proofs.Firsts.{then_first, then_none}
use Rattle.params.specs.declared.Service.{Service}
use Rattle.params.specs.declared.Service.TheVariants.{Plogi, Logo, Rrq, Prli, Prlo, Pdisc, Adisc}
use Rattle.params.specs.declared.OtherCode.{OtherCode}
use Rattle.params.specs.Services.{code_of, services, service_with}

other : (s : Service) → ◌≡◌ {A = Result Service OtherCode} (Ok s) (Err record {}) → ⊥
other s e = let z : ◌≡◌ {A = ℕ} 0 1 = cc in omega arith

-- the service that is found has the code
pub has_code : (code : ℕ) (s : Service) → service_with code ≡ Ok s → code ≡ code_of s
unfolding service_with
has_code code s e = eqb-true code (code_of s) (then_first (λ (t : Service). eqb code (code_of t)) services Ok (Err record {}) other (λ x y q. cc) s e).this

-- none is found: no service has the code
pub none_has : (code : ℕ) → service_with code ≡ Err record {} → (s : Service) → eqb code (code_of s) ≡ false
unfolding service_with
none_has code e = by (then_none (λ (t : Service). eqb code (code_of t)) services Ok (Err record {}) other e)
  where
    by : NoneOf (λ (t : Service). eqb code (code_of t)) services → (s : Service) → eqb code (code_of s) ≡ false
    by n Plogi = n.0
    by n Logo = n.1.0
    by n Rrq = n.1.1.0
    by n Prli = n.1.1.1.0
    by n Prlo = n.1.1.1.1.0
    by n Pdisc = n.1.1.1.1.1.0
    by n Adisc = n.1.1.1.1.1.1.0
