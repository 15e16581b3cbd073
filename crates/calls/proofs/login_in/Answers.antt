-- `calls::login_in` meets its contract: the login at its place, or an empty one. Assumes nothing.
use Rattle.std.proofs.Common.{◌∙◌}
use Rattle.calls.proofs.Seats.{login_here, login_past}
use Rattle.calls.proofs.login_in.Goals.{in_default-via-in-Some+else-i-logins, in_default-via-in_default}
use Rattle.calls.proofs.login_in.Goals as goal

pub returns-in-Some : goal.returns-in-Some
returns-in-Some c = login_here c.args.p.now c.args.seat c.in-Some.is c.if-i-logins.true

pub returns-in_default : goal.returns-in_default
returns-in_default c = elim c.in_default.branch [ in_default-via-in-Some+else-i-logins w ↦ c.empty_login.ensures ∙ login_past c.args.p.now c.args.seat w.in-Some.is w.if-i-logins.false | in_default-via-in_default w ↦ c.empty_login.ensures ∙ rw w.in_default.is ]
