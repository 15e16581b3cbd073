-- Drives that demand 3 itself keeps out, whatever else they do.
-- Assumes nothing.
use Rattle.std.specs.Prelude.{◌≡◌, true, false}
use Rattle.link.specs.Record.{Kept, held}
use Rattle.belief.specs.Host.{plogi, logo, acc, rjt, dlogo}
use Rattle.belief.specs.Side.{Side, Held}

-- s is any well-formed state, f a PLOGI with the names and parameters l
pub record KeptOut (D : Side) : Type 0 where
  -- One that replies and stores nothing: no frame of the host changes the record. It cannot accept both a PLOGI and a LOGO.
  pub demand_stores : ((s : D.State) (f : D.Sent) → D.login (D.take s f) ≡ D.login s) →
      (s : D.State) (f g : D.Sent) (l : Kept) → D.Wf s →
      D.asks f ≡ plogi l → D.answer s f ≡ acc → D.asks g ≡ logo → D.answer s g ≡ acc → ⊥
  -- One that keeps the old login after a rejected PLOGI.
  pub demand_drops_old : (s : D.State) (f : D.Sent) (l : Kept) → D.Wf s → Held (D.login s) →
      D.asks f ≡ plogi l → D.answer s f ≡ rjt → D.login (D.take s f) ≡ D.login s → ⊥
  -- What is no loss of memory leaves the login of an accepted PLOGI: a drive that ends it then is kept out too.
  pub demand_remembers : (s : D.State) (f : D.Sent) (l : Kept) (x : D.Lapse) → D.Wf s →
      D.asks f ≡ plogi l → D.answer s f ≡ acc → D.loses (D.take s f) x ≡ false → held false true l ≡ D.login (D.lapse (D.take s f) x)
  -- One that sends a host that is logged in a LOGO which it did not ask for, say in answer to another port's command: where the LOGO is lost the login must stand, where it arrives it must not.
  pub demand_no_logo : (s : D.State) (f : D.Sent) (l : Kept) (x : D.Else) → D.Wf s →
      D.asks f ≡ plogi l → D.answer s f ≡ acc → D.Aside (D.take s f) x → D.says (D.take s f) x ≡ dlogo → ⊥
