-- `boundary::make` meets its contract: what the constructor answers, or the drive as it was. Assumes nothing.
use Rattle.std.proofs.Common.{ℕ, ◌≡◌, sym, Ok, Err}
use Rattle.refusal.specs.declared.Refusal.{Refusal}
use Rattle.state.specs.declared.Setup.{Setup}
use Rattle.drive.specs.declared.Answer.{Answer}
use Rattle.drive.specs.declared.Drive.{Drive}
use Rattle.drive.specs.Drive.{refused, new_answer}
use Rattle.boundary.specs.Boundary.{make_answer}
use Rattle.boundary.proofs.make.Goals as goal

module _ (d : Drive) (s : Setup) (a : Answer) (is : a ≡ new_answer s) where
  makes : {n : ℕ} → a.said ≡ Ok n → a ≡ make_answer d s
  unfolding make_answer
  makes e = rw (sym is, e)

  makes_not : {x : Refusal} {r : Answer} → a.said ≡ Err x → r ≡ refused x d → r ≡ make_answer d s
  unfolding make_answer
  makes_not e r-is = rw (sym is, e) r-is

pub returns-in-Ok : goal.returns-in-Ok
returns-in-Ok c = makes _ _ _ c.new-a.ensures c.in-Ok.is

pub returns-in-Err : goal.returns-in-Err
returns-in-Err c = makes_not _ _ _ c.new-a.ensures c.in-Err.is c.refuse.ensures
