-- Accepted exactly when no test fails, and rejected by a test exactly when it is the first that fails.
-- Assumes nothing.
use Rattle.std.specs.Prelude.{Result, ⊤, Ok, Err}
use mathlib.Core.Path.{◌≡◌}
use mathlib.Core.Bool.{false}
use Prim.Native.Nat.{ℕ}
use native.Mathlib.Omega.{arith}
use Rattle.tables.specs.Firsts.{NoneOf, IsFirst}
use Rattle.tables.proofs.Firsts.{none_always, first_then, none_then, then_first, then_none}
use Rattle.params.specs.declared.Params.{Params}
use Rattle.params.specs.declared.Fault.{Fault}
use Rattle.params.specs.declared.Fault.TheVariants.{BufferSize, PortName, NodeName, ClassThree, DataSize, ConcurrentSequences, OpenSequences}
use Rattle.params.specs.Words.{fails, faults, verdict_of}

other : (f : Fault) → ◌≡◌ {A = Result ⊤ Fault} (Err f) (Ok tt) → ⊥
other f e = let z : ◌≡◌ {A = ℕ} 0 1 = cc in omega arith

module _ (p : Params) where
  -- every test is in the list
  each : NoneOf (fails p) faults → (f : Fault) → fails p f ≡ false
  each n BufferSize = n.0
  each n PortName = n.1.0
  each n NodeName = n.1.1.0
  each n ClassThree = n.1.1.1.0
  each n DataSize = n.1.1.1.1.0
  each n ConcurrentSequences = n.1.1.1.1.1.0
  each n OpenSequences = n.1.1.1.1.1.1.0

  -- accepted: no test fails
  pub accepted : verdict_of p ≡ Ok tt → (f : Fault) → fails p f ≡ false
  unfolding verdict_of
  accepted e = each (then_none (fails p) faults Err (Ok tt) other e)

  -- no test fails: accepted
  pub accepts_then : ((f : Fault) → fails p f ≡ false) → verdict_of p ≡ (Ok tt)
  unfolding verdict_of
  accepts_then h = none_then (fails p) faults Err (Ok tt) (none_always (fails p) h faults)

  -- rejected by a test: it is the first that fails
  pub rejected : (f : Fault) → verdict_of p ≡ Err f → IsFirst (fails p) faults f
  unfolding verdict_of
  rejected f e = then_first (fails p) faults Err (Ok tt) other (λ x y q. cc) f e

  -- the first test that fails: rejected by it
  pub rejects_then : (f : Fault) → IsFirst (fails p) faults f → verdict_of p ≡ Err f
  unfolding verdict_of
  rejects_then f i = first_then (fails p) faults Err (Ok tt) i
