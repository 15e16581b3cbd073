-- A next frame is refused by the first of 9, 7, 10 that applies, and given where none does. Assumes nothing.
use Rattle.std.specs.Prelude.{Some, None, Ok, Err, Result, ℕ}
use Rattle.refusal.specs.declared.Refusal.{Refusal}
use mathlib.Core.Path.{◌≡◌, refl}
use mathlib.Core.Bool.{Bool, true, false, cond, not, ◌&&◌, ◌||◌}
use mathlib.Core.List.{List}
use Prim.Native.Nat.{ℕ}
use lib.Dec.{eqb, ltb}
use lib.ListN.{length}
use Rattle.tables.specs.Lists.{on_found}
use Rattle.tables.specs.Firsts.{first_of}
use Rattle.cover.specs.Cover.{cover_of}
use Rattle.refusal.specs.declared.Refusal.TheVariants.{NoExchange, Unproven, BadWindow}
use Rattle.state.specs.declared.Port.{Port}
use Rattle.state.specs.declared.Unit.{Unit}
use Rattle.state.specs.Standing.{Standing}
use Rattle.state.specs.Standing as standing
use Rattle.state.specs.Changes.{login_at}
use Rattle.state.specs.Tables.{lookup_of}
use Rattle.serve.specs.Next.{reads_more, place_of, window_place, exchange_of, Refused, Frame, open_step, step_at, step_of, next_at, next_of}
use Rattle.serve.specs.Refusals.{covers, no_exchange, unproven_there, bad_window, applies_next, served_order}

module _ (u : Unit) (p : Port) (a x start : ℕ) (W : List ℕ) where
  -- s is the refusal of the first of the three tests that holds, or a frame was given
  record By (none unproven window : Bool) (s : Result ℕ Refusal) : Type 0 where
    n : ℕ
    is : s ≡ cond none (Err NoExchange) (cond unproven (Err Unproven) (cond window (Err BadWindow) (Ok n)))

  -- the window, by its length and by what it holds
  by_window : (i j m k : ℕ) (long reads held : Bool)
      → By false false (long || reads && not held) (next_at (on_found (cond long None (cond reads (cond held (Some m) None) (Some k))) (λ h. Frame i j h) (Refused BadWindow)) u p a x W).said
  by_window i j m k true reads held = record { n = 0; is = refl }
  by_window i j m k false true true = record { n = _; is = refl }
  by_window i j m k false true false = record { n = 0; is = refl }
  by_window i j m k false false held = record { n = _; is = refl }

  by_proven : (i j : ℕ) (b : Bool) → eqb (login_at p i).proven 1 ≡ b → By false (not b) (bad_window p start (length W) (standing.Open i j)) (next_at (open_step (login_at p i) i j start (length W)) u p a x W).said
  unfolding open_step window_place place_of cover_of
  by_proven i j true e =
      rw e (by_window i j _ _ (ltb 65536 (length W)) (reads_more (exchange_of p i j)) (covers p start (length W) i j))
  by_proven i j false e = rw e record { n = 0; is = refl }

  by_standing : (s : Standing) → By (no_exchange s) (unproven_there p s) (bad_window p start (length W) s) (next_at (step_at s p start (length W)) u p a x W).said
  by_standing standing.NoLogin = record { n = 0; is = refl }
  by_standing (standing.NoExchange i) = record { n = 0; is = refl }
  by_standing (standing.Open i j) = by_proven i j (eqb (login_at p i).proven 1) refl

  -- the refusal of the first that applies, or a frame of n bytes
  pub record NextSays : Type 0 where
    pub n : ℕ
    pub is : (next_of u p a x start W).said ≡ first_of (applies_next p a x start (length W)) served_order Err (Ok n)

  pub next_says : NextSays
  unfolding next_of step_of
  next_says = let b = by_standing (lookup_of p a x) in record { n = b.n; is = b.is }
