-- `boundary::store` meets its contract: the login stands at its place, or that is no place of the table. Assumes nothing.
use Rattle.std.proofs.Common.{rules, refl, length, ◌≡◌}
use Rattle.boundary.proofs.Reached.{stored_here, stored_past}
use Rattle.boundary.proofs.store.Goals as goal

pub returns-in-Some : goal.returns-in-Some
returns-in-Some c = (refl, stored_here c.args.p.now c.args.t.login c.args.t.at c.in-Some.is)

pub returns-else-i-lt-LOGINS : goal.returns-else-i-lt-LOGINS
returns-else-i-lt-LOGINS c =
    let long : length c.args.p.now.logins ≡ 8 = search rules in
    (refl, stored_past c.args.p.now c.args.t.login c.args.t.at c.in-Some.is long c.if-i-lt-LOGINS.false)
