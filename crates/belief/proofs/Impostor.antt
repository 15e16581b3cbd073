-- Drives that the laws keep out, and those that demand 3 itself does (`specs/Impostor.antt`).
-- Assumes nothing.
use mathlib.Core.Path.{◌≡◌, refl, sym, ◌∙◌, ap, subst}
use mathlib.Core.Bool.{true, false}
use mathlib.Core.List.{[], ◌∷◌}
use Rattle.link.specs.Record.{Kept, out, held}
use Rattle.belief.specs.Host.{Belief, unsure, sure, Request, plogi, logo, Answer, acc, rjt, MayOut, hears, received}
use Rattle.belief.specs.Side.{Side, Laws, Held, OnPlogi, OnLogo, Meets}
use Rattle.belief.specs.Demand3.{Event, send, pass, heard, lapse, World, step, Follows, loss, Agrees, Fine, some, Demand3}
use Rattle.belief.specs.Impostor.{KeptOut}

module _ (D : Side) (laws : Laws D) where
  -- the record after an accepted PLOGI, and after an accepted LOGO
  pub accepted : (s : D.State) (f : D.Sent) (l : Kept) → D.Wf s → D.asks f ≡ plogi l → D.answer s f ≡ acc → D.login (D.take s f) ≡ held false true l
  accepted s f l k q a =
      subst (λ (x : Answer). OnPlogi l x (D.login (D.take s f))) a
      (subst (λ (x : Request). Meets (D.login s) x (D.answer s f) (D.login (D.take s f))) q (laws.takes s f k))

  pub left : (s : D.State) (f : D.Sent) → D.Wf s → D.asks f ≡ logo → D.answer s f ≡ acc → D.login (D.take s f) ≡ out
  left s f k q a =
      subst (λ (x : Answer). OnLogo x (D.login (D.take s f))) a
      (subst (λ (x : Request). Meets (D.login s) x (D.answer s f) (D.login (D.take s f))) q (laws.takes s f k))

  pub rejected : (s : D.State) (f : D.Sent) (l : Kept) → D.Wf s → D.asks f ≡ plogi l → D.answer s f ≡ rjt → D.login (D.take s f) ≡ out
  rejected s f l k q a =
      subst (λ (x : Answer). OnPlogi l x (D.login (D.take s f))) a
      (subst (λ (x : Request). Meets (D.login s) x (D.answer s f) (D.login (D.take s f))) q (laws.takes s f k))

  -- One that replies and stores nothing: no frame of the host changes the record. It cannot accept both a PLOGI and a LOGO.
  pub stores_nothing : ((s : D.State) (f : D.Sent) → D.login (D.take s f) ≡ D.login s) →
      (s : D.State) (f g : D.Sent) (l : Kept) → D.Wf s →
      D.asks f ≡ plogi l → D.answer s f ≡ acc → D.asks g ≡ logo → D.answer s g ≡ acc → ⊥
  stores_nothing idle s f g l k q a q₂ a₂ =
      subst Held (sym (accepted s f l k q a) ∙ idle s f ∙ (sym (idle s g) ∙ left s g k q₂ a₂)) tt

  -- One that keeps the old login after a rejected PLOGI.
  pub keeps_old : (s : D.State) (f : D.Sent) (l : Kept) → D.Wf s → Held (D.login s) →
      D.asks f ≡ plogi l → D.answer s f ≡ rjt → D.login (D.take s f) ≡ D.login s → ⊥
  keeps_old s f l k h q a e = subst Held (sym e ∙ rejected s f l k q a) h

-- From demand 3 itself, without the laws.
abbrev Sure-held : Belief → Type 0
Sure-held unsure = ⊥
Sure-held (sure r) = Held r

module _ (D : Side) (demand : Demand3 D) where
  -- after an answered PLOGI or LOGO from the start
  answered : (s : D.State) (f : D.Sent) (q : Request) (a : Answer) → D.Wf s → D.asks f ≡ q → D.answer s f ≡ a → MayOut q → some a ≡ true →
      hears q a unsure ≡ sure (D.login (D.take s f))
  answered s f q a k e h m t =
      let m' : MayOut (D.asks f) = subst MayOut (sym e) m in
      sym (ap (λ (x : Request). hears x a unsure) e) ∙ sym (ap (λ (x : Answer). hears (D.asks f) x unsure) h)
      ∙ demand.ends_doubt s [] f (record { formed = k; first = tt; then = m'; last = tt }) m' (ap some h ∙ t)

  -- an accepted PLOGI from the start, and one event more that is no loss of memory
  abbrev logged : D.State → D.Sent → Belief → World D
  logged s f b = record { drive = D.take s f; belief = b }

  then_fine : (s : D.State) (f : D.Sent) (l : Kept) (e : Event D) → D.Wf s → D.asks f ≡ plogi l → D.answer s f ≡ acc →
      Follows D (logged s f (sure (held false true l))) e → loss D (logged s f (sure (held false true l))) e ≡ false → Fine D (step D (logged s f (sure (held false true l))) e)
  then_fine s f l e k q a m n =
      let m' : MayOut (D.asks f) = subst MayOut (sym q) tt in
      let b : hears (D.asks f) (D.answer s f) unsure ≡ sure (held false true l) = ap (λ (y : Request). hears y (D.answer s f) unsure) q ∙ ap (λ (y : Answer). hears (plogi l) y unsure) a in
      let m₂ = subst (λ (y : Belief). Follows D (logged s f y) e) (sym b) m in
      let n₂ = subst (λ (y : Belief). loss D (logged s f y) e ≡ false) (sym b) n in
      subst (λ (y : Belief). Fine D (step D (logged s f y) e)) b
      (demand.sure_until s [] (send f heard) (e ∷ []) (held false true l) (record { formed = k; first = tt; then = m'; last = (m₂, tt) }) refl b (n₂, tt))

  pub kept_out : KeptOut D
  kept_out =
      record {
        demand_stores = λ idle s f g l k q a q₂ a₂.
            subst Sure-held
            (answered s f (plogi l) acc k q a tt refl ∙ ap sure (idle s f) ∙ sym (answered s g logo acc k q₂ a₂ tt refl ∙ ap sure (idle s g))) tt;
        demand_drops_old = λ s f l k h q a e. subst Sure-held (ap sure (sym e) ∙ sym (answered s f (plogi l) rjt k q a tt refl)) h;
        demand_remembers = λ s f l x k q a n. then_fine s f l (lapse x) k q a tt n;
        demand_no_logo = λ s f l x k q a m e.
            let r = D.login (D.pass (D.take s f) x) in
            let lost : held false true l ≡ r = then_fine s f l (pass x false) k q a m refl in
            let arrived : out ≡ r = subst (λ (y : Answer). Agrees (received y (sure (held false true l))) r) e (then_fine s f l (pass x true) k q a m refl) in
            subst Held (lost ∙ sym arrived) tt;
      }
