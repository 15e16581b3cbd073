-- "Show that no input allows two replies": said of the contracts themselves, by the names under which the prover keeps them. Were one weakened so that two answers met it, this would not hold.
use Rattle.std.specs.Prelude.{◌≡◌, List, ℕ}
use seplogic.Ra.Ura.{Ura}
use base.Logic.{SProp, ent, sep}
use prog.Memory.{Memory}
use prog.Routine.{Routine}
use types.Logic.{Logic}
use contract.Lifetimes.{Lfts}
use contract.Monad.{Fun, fact}
use Rattle.std.specs.Borrow.{Bor, MutBor}
use Rattle.state.specs.declared.Setup.{Setup}
use Rattle.drive.specs.declared.Drive.{Drive}
use Rattle.drive.specs.declared.Answer.{Answer}
use Rattle.drive.specs.declared.Event.{Event}
use Rattle.drive.specs.contracts.Drive.new as new
use Rattle.drive.specs.contracts.Drive.frame_in as frame_in
use Rattle.drive.specs.contracts.Drive.event as event
use Rattle.window.specs.contracts.next_frame as next_frame
use Rattle.boundary.specs.contracts.jhartupal_make as jhartupal_make
use Rattle.boundary.specs.contracts.jhartupal_frame as jhartupal_frame
use Rattle.boundary.specs.contracts.jhartupal_next as jhartupal_next
use Rattle.boundary.specs.contracts.jhartupal_loop_reset as jhartupal_loop_reset
use Rattle.boundary.specs.contracts.jhartupal_time_over as jhartupal_time_over
use Rattle.boundary.specs.contracts.jhartupal_power_on as jhartupal_power_on
use Rattle.judging.specs.declared.Judgement.{Judgement}
use Rattle.saying.specs.declared.End.{End}
use Rattle.saying.specs.contracts.end_line as end_line
use Rattle.judging.specs.contracts.judge as judge
use Rattle.judging.specs.contracts.line_for as line_for
use Rattle.recording.specs.declared.Session.{Session}
use Rattle.recording.specs.declared.Told.{Told}
use Rattle.recording.specs.contracts.tell as tell

-- what is lent, with other bytes, or another state, in it
abbrev pub with : {A : Type 0} → MutBor A → A → MutBor A
with x a = record { ref_ptr = x.ref_ptr; ghost_name = x.ghost_name; now = a }

module _ {M : Type 1} (𝓤 : Ura M) where
  -- of two outcomes that a promise allows each is the other
  abbrev pub One : {A : Type 0} → (A → SProp 𝓤) → Type 1
  One {A} promise = (x y : A) → ent 𝓤 (sep 𝓤 (promise x) (promise y)) (fact 𝓤 (x ≡ y))

-- for every state of the prover's world, and for all arguments: the outcome of an entry is its answer and what it leaves of all that it was lent to write
pub record OneReply {M : Type 1} {𝓤 : Ura M} (𝓛 : Logic 𝓤) (mem : Memory → SProp 𝓤) (run : Routine → Fun 𝓤) : Type 1 where
  -- by value: making a drive, a frame in, a next frame out, an event
  pub making : (s : Setup) → One 𝓤 (λ (r : Answer). (new.clauses 𝓛 mem run tt (s, tt)).ensures tt r (s, tt))
  pub frame : (κs : Lfts 3) (d : Drive) (f : Bor (List ℕ)) (start : ℕ) (W l : MutBor (List ℕ))
      → One 𝓤 (λ (o : Answer × List ℕ × List ℕ). (frame_in.clauses 𝓛 mem run κs (d, (f, (start, (W, (l, tt)))))).ensures tt o.0 (d, (f, (start, (with W o.1, (with l o.2, tt))))))
  pub next : (κs : Lfts 2) (d : Drive) (a x start : ℕ) (W : Bor (List ℕ)) (l : MutBor (List ℕ))
      → One 𝓤 (λ (o : Answer × List ℕ). (next_frame.clauses 𝓛 mem run κs (d, (a, (x, (start, (W, (l, tt))))))).ensures tt o.0 (d, (a, (x, (start, (W, (with l o.1, tt)))))))
  pub happens : (d : Drive) (e : Event) → One 𝓤 (λ (r : Answer). (event.clauses 𝓛 mem run tt (d, (e, tt))).ensures tt r (d, (e, tt)))
  -- from C, in place
  pub c_make : (κs : Lfts 2) (d : MutBor Drive) (s : Bor Setup) → One 𝓤 (λ (o : ℕ × Drive). (jhartupal_make.clauses 𝓛 mem run κs (d, (s, tt))).ensures tt o.0 (with d o.1, (s, tt)))
  pub c_frame : (κs : Lfts 4) (d : MutBor Drive) (f : Bor (List ℕ)) (start : ℕ) (W l : MutBor (List ℕ))
      → One 𝓤 (λ (o : ℕ × Drive × List ℕ × List ℕ). (jhartupal_frame.clauses 𝓛 mem run κs (d, (f, (start, (W, (l, tt)))))).ensures tt o.0 (with d o.1, (f, (start, (with W o.2, (with l o.3, tt))))))
  pub c_next : (κs : Lfts 3) (d : MutBor Drive) (a x start : ℕ) (W : Bor (List ℕ)) (l : MutBor (List ℕ))
      → One 𝓤 (λ (o : ℕ × (Drive × List ℕ)). (jhartupal_next.clauses 𝓛 mem run κs (d, (a, (x, (start, (W, (l, tt))))))).ensures tt o.0 (with d o.1.0, (a, (x, (start, (W, (with l o.1.1, tt)))))))
  pub c_loop_reset : (κs : Lfts 1) (d : MutBor Drive) → One 𝓤 (λ (o : ℕ × Drive). (jhartupal_loop_reset.clauses 𝓛 mem run κs (d, tt)).ensures tt o.0 (with d o.1, tt))
  pub c_time_over : (κs : Lfts 1) (d : MutBor Drive) → One 𝓤 (λ (o : ℕ × Drive). (jhartupal_time_over.clauses 𝓛 mem run κs (d, tt)).ensures tt o.0 (with d o.1, tt))
  pub c_power_on : (κs : Lfts 1) (d : MutBor Drive) → One 𝓤 (λ (o : ℕ × Drive). (jhartupal_power_on.clauses 𝓛 mem run κs (d, tt)).ensures tt o.0 (with d o.1, tt))
  -- the programs: a judgement and its line, the answer to a record, and what is said at the end
  pub judges : (κs : Lfts 1) (login : Bor (List ℕ)) → One 𝓤 (λ (r : Judgement). (judge.clauses 𝓛 mem run κs (login, tt)).ensures tt r (login, tt))
  pub lines : (number : ℕ) (j : Judgement) → One 𝓤 (λ (r : List ℕ). (line_for.clauses 𝓛 mem run tt (number, (j, tt))).ensures tt r (number, (j, tt)))
  pub tells : (κs : Lfts 1) (s : Session) (letter : ℕ) (body : MutBor (List ℕ))
      → One 𝓤 (λ (o : Told × List ℕ). (tell.clauses 𝓛 mem run κs (s, (letter, (body, tt)))).ensures tt o.0 (s, (letter, (with body o.1, tt))))
  pub ends : (κs : Lfts 1) (name : Bor (List ℕ)) (number : ℕ) (e : End) → One 𝓤 (λ (r : List ℕ). (end_line.clauses 𝓛 mem run κs (name, (number, (e, tt)))).ensures tt r (name, (number, (e, tt))))
