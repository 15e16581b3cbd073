-- `boundary::reach` meets its contract: each login that is touched is changed where it stands, and the others are passed over. Assumes nothing.
use Rattle.std.proofs.Common.{ap, sym, ◌∙◌, ◌≡◌, ◌<◌, ◌≤◌, length, rules, arith}
use Rattle.state.specs.Changes.{with_logins}
use Rattle.boundary.specs.Settled.{reached_of}
use Rattle.boundary.proofs.Reached.{marks_long, mark_at, reached_pass, reached_store, reached_out}
use Rattle.boundary.proofs.reach.Goals.{then-is_touched, else-is_touched}
use Rattle.boundary.proofs.reach.Goals as goal

pub loop-i-preserved : goal.loop-i-preserved
loop-i-preserved c =
    let a = c.args in
    let long : length a.keys.now ≡ 8 = search rules in
    let here : c.loop-i.i < 8 = omega (arith, c.loop-i-test.true, long) in
    let marked = mark_at a.c a.keys.now long c.loop-i.i here a.spared ∙ sym c.is_touched.ensures in
    elim c.if-is_touched.branch [
      | then-is_touched w ↦ rw w.logins-is (reached_store (marks_long a.c a.keys.now long a.spared) here (marked ∙ w.if-is_touched.true) w.changed.ensures c.loop-i.invariant)
      | else-is_touched w ↦ rw w.logins-is (reached_pass (marks_long a.c a.keys.now long a.spared) here (marked ∙ w.if-is_touched.false) c.loop-i.invariant)
    ]

pub returns : goal.returns
unfolding reached_of
returns c =
    let a = c.args in
    let long : length a.keys.now ≡ 8 = search rules in
    let out : 8 ≤ c.loop-i.i = omega (arith, c.loop-i-test.false, long) in
    ap (with_logins a.p.now) (reached_out (marks_long a.c a.keys.now long a.spared) out c.loop-i.invariant)
