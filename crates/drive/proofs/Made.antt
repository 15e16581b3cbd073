-- A made drive is well formed, every event keeps a drive well formed, and a refusal leaves it as it was. Assumes nothing.
use Rattle.std.specs.Prelude.{Ok, Err, Result}
use mathlib.Core.Path.{◌≡◌, refl, sym, ap, ◌∙◌}
use mathlib.Core.Bool.{Bool, true, false}
use Prim.Native.Nat.{ℕ}
use native.Mathlib.Omega.{arith}
use Rattle.state.specs.declared.Setup.{Setup}
use Rattle.state.specs.Changes.{own_of}
use Rattle.formed.specs.Formed.{setup_rules, setup_of, well_formed}
use Rattle.formed.proofs.Parts.{formed_whole}
use Rattle.formed.proofs.Keeping.{empty_fine, empties_apart, change_kept}
use Rattle.drive.specs.declared.Drive.{Drive}
use Rattle.drive.specs.declared.Event.{Event}
use Rattle.refusal.specs.declared.Refusal.{Refusal}
use Rattle.refusal.specs.declared.Refusal.TheVariants.{IllFormed, BadSetup}
use Rattle.drive.specs.declared.Answer.{Answer}
use Rattle.drive.specs.Drive.{made_from, no_drive, nothing_sent, refused, new_answer, change_of, after_event, event_answer}

abbrev fine : Drive → Bool
fine d = well_formed d.unit d.port

-- a drive made from a setup that keeps its rules is well formed
pub made_formed : (s : Setup) → setup_rules s ≡ true → well_formed (made_from s).unit (made_from s).port ≡ true
unfolding made_from setup_of own_of
made_formed s e = formed_whole record { setup = e; logins = rw (empty_fine (made_from s).unit s.address); distinct = empties_apart }

-- making a drive is refused, with 8, exactly when a setup rule fails
pub new_refused : (s : Setup) → setup_rules s ≡ false → new_answer s ≡ refused BadSetup no_drive
unfolding new_answer
new_refused s e = rw e

pub new_made : (s : Setup) → setup_rules s ≡ true → new_answer s ≡ nothing_sent (made_from s)
unfolding new_answer
new_made s e = rw e

-- what stands beside a refused setup is not well formed, so every call with it is refused
pub no_drive_lem : well_formed no_drive.unit no_drive.port ≡ false
unfolding no_drive made_from well_formed setup_rules setup_of own_of
no_drive_lem = refl

-- every event keeps a drive well formed
pub event_kept : (e : Event) (d : Drive) → well_formed d.unit d.port ≡ true → well_formed (after_event e d).unit (after_event e d).port ≡ true
unfolding after_event
event_kept e d w = change_kept d.unit d.port w (change_of e)

-- an event is refused, with 2, exactly when the state is not well formed, and leaves it unchanged
pub event_refused : (d : Drive) (e : Event) → well_formed d.unit d.port ≡ false → event_answer d e ≡ refused IllFormed d
unfolding event_answer
event_refused d e w = rw w

pub event_answered : (d : Drive) (e : Event) → well_formed d.unit d.port ≡ true → event_answer d e ≡ nothing_sent (after_event e d)
unfolding event_answer
event_answered d e w = rw w

-- so a refused event hands back the drive that it was given
pub event_unchanged : (d : Drive) (e : Event) (r : Refusal) → (event_answer d e).said ≡ Err r → (event_answer d e).drive ≡ d
event_unchanged d e r = by (fine d) refl
  where
    by : (b : Bool) → fine d ≡ b → (event_answer d e).said ≡ Err r → (event_answer d e).drive ≡ d
    by true w s = let h : ◌≡◌ {A = Result ℕ Refusal} (Ok 0) (Err r) = sym (ap (λ (a : Answer). a.said) (event_answered d e w)) ∙ s in let z : ◌≡◌ {A = ℕ} 0 1 = cc in absurd (omega arith)
    by false w s = ap (λ (a : Answer). a.drive) (event_refused d e w)
