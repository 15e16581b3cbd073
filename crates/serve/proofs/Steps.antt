-- What a frame that is given tells of the call: no refusal held. And where none holds a frame is given. Assumes nothing.
use Rattle.std.specs.Prelude.{Option, Some, None}
use mathlib.Core.Path.{◌≡◌, refl, ap}
use mathlib.Core.Bool.{Bool, true, false, cond, not}
use Prim.Native.Nat.{ℕ, ◌≤◌}
use native.Mathlib.Omega.{arith}
use lib.Dec.{eqb, ltb}
use borrow.Author.Tests.{eqb-true, eq-eqb, ltb-false, le-ltb}
use Rattle.tables.specs.Lists.{on_found}
use Rattle.refusal.specs.declared.Refusal.{Refusal}
use Rattle.refusal.specs.declared.Refusal.TheVariants.{Unproven, BadWindow}
use Rattle.state.specs.declared.Port.{Port}
use Rattle.state.specs.Standing.{Standing}
use Rattle.state.specs.Standing as standing
use Rattle.state.specs.Changes.{login_at}
use Rattle.state.specs.Tables.{lookup_of}
use Rattle.serve.specs.Next.{place_of, window_place, exchange_of, full_of, Step, Refused, Frame, open_step, step_at, step_of}

-- the exchange is open, its login proven, the window short enough and, where it must, covering
pub record Passed (p : Port) (a x start len i j k : ℕ) : Type 0 where
  pub stands : lookup_of p a x ≡ standing.Open i j
  pub proven : (login_at p i).proven ≡ 1
  pub short : len ≤ 65536
  pub place : place_of (full_of p i) (exchange_of p i j) start len ≡ Some k

never : {A : Type 0} {y : Refusal} {i j k : ℕ} → Refused y ≡ Frame i j k → A
never e = let z : ◌≡◌ {A = ℕ} 0 1 = cc in absurd (omega arith)

module _ (m n i j k : ℕ) where
  from_place : (f : Option ℕ) → on_found f (λ h. Frame m n h) (Refused BadWindow) ≡ Frame i j k → (m ≡ i) × (n ≡ j) × (f ≡ Some k)
  from_place (Some h) e = ((cc), (cc), ap Some (cc))
  from_place None e = never e

  from_window : (b : Bool) (f : Option ℕ) → on_found (cond b None f) (λ h. Frame m n h) (Refused BadWindow) ≡ Frame i j k → (b ≡ false) × (m ≡ i) × (n ≡ j) × (f ≡ Some k)
  from_window true f e = never e
  from_window false f e = let t = from_place f e in (refl, t.0, t.1, t.2)

  from_tests : (b : Bool) (s : Step) → cond (not b) (Refused Unproven) s ≡ Frame i j k → (b ≡ true) × (s ≡ Frame i j k)
  from_tests true s e = (refl, e)
  from_tests false s e = never e

from_standing : (p : Port) (a x start len i j k : ℕ) (s : Standing) → lookup_of p a x ≡ s → step_at s p start len ≡ Frame i j k → Passed p a x start len i j k
unfolding open_step window_place
from_standing p a x start len i j k standing.NoLogin o e = never e
from_standing p a x start len i j k (standing.NoExchange m) o e = never e
from_standing p a x start len i j k (standing.Open m n) o e =
    let f = place_of (full_of p m) (exchange_of p m n) start len in
    let t = from_tests m n i j k (eqb (login_at p m).proven 1) (on_found (cond (ltb 65536 len) None f) (λ h. Frame m n h) (Refused BadWindow)) e in
    let h = from_window m n i j k (ltb 65536 len) f t.1 in
    let proven = eqb-true (login_at p m).proven 1 t.0 in
    let i-is = h.1 in
    let j-is = h.2 in
    let place = h.3 in
    record { stands = (cc); proven = (cc); short = ltb-false 65536 len h.0; place = (cc) }

pub passed : (p : Port) (a x start len i j k : ℕ) → step_of p a x start len ≡ Frame i j k → Passed p a x start len i j k
unfolding step_of
passed p a x start len i j k e = from_standing p a x start len i j k (lookup_of p a x) refl e

pub given : {p : Port} {a x start len i j k : ℕ} → Passed p a x start len i j k → step_of p a x start len ≡ Frame i j k
unfolding step_of open_step window_place
given {p} {a} {x} {start} {len} {i} {j} {k} h = rw (h.stands, eq-eqb (login_at p i).proven 1 h.proven, le-ltb 65536 len h.short, h.place)
