-- `drive::Drive::event` meets its contract: what is seen of the logins says whether the state is well formed. Assumes nothing.
use mathlib.Core.Path.{◌≡◌, sym, ap, ◌∙◌}
use mathlib.Core.Bool.{Bool, cond}
use Rattle.refusal.specs.declared.Refusal.TheVariants.{IllFormed}
use Rattle.state.specs.declared.Port.{Port}
use Rattle.state.specs.declared.Change.{Change}
use Rattle.state.specs.Changes.{changed_all}
use Rattle.formed.proofs.Keys.{fine_by_lem}
use Rattle.calls.specs.declared.Sight.{Sight}
use Rattle.calls.specs.View.{sight_of}
use Rattle.drive.specs.declared.Drive.{Drive}
use Rattle.drive.specs.declared.Event.{Event}
use Rattle.drive.specs.Drive.{refused, nothing_sent, after_event, event_answer}
use Rattle.drive.proofs.Drive.event.Goals as goal

-- by the test of the sight
by_sight : (d : Drive) (e : Event) {s : Sight} {b : Bool} → s ≡ sight_of d.unit d.port → s.fine ≡ b → event_answer d e ≡ cond b (nothing_sent (after_event e d)) (refused IllFormed d)
unfolding event_answer
by_sight d e is b = ap (λ (z : Bool). cond z (nothing_sent (after_event e d)) (refused IllFormed d)) (sym (fine_by_lem d.unit d.port) ∙ sym (ap (λ (s : Sight). s.fine) is) ∙ b)

pub returns-then-sight_of : goal.returns-then-sight_of
unfolding after_event
returns-then-sight_of c =
    let d = c.args.self in
    ap (λ (q : Port). nothing_sent (record { unit = d.unit; port = q })) (c.change_all.ensures ∙ ap (λ (x : Change). changed_all x d.port) c.change_of.ensures)
    ∙ sym (by_sight d c.args.e c.sight_of.ensures c.if-sight_of.true)

pub returns-else-sight_of : goal.returns-else-sight_of
returns-else-sight_of c = c.refuse.ensures ∙ sym (by_sight c.args.self c.args.e c.sight_of.ensures c.if-sight_of.false)
