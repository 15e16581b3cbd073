-- `boundary::is_unproven` meets its contract: the flag is read at the seat. Assumes nothing.
use Rattle.std.proofs.Common.{◌≡◌, ◌<◌, length, rules, arith}
use Rattle.boundary.proofs.Reached.{seat_below, seat_unproven, none_unproven}
use Rattle.boundary.proofs.is_unproven.Goals as goal

pub returns-in-Some : goal.returns-in-Some
returns-in-Some c =
    let p = c.args.p.now in
    let long : length p.logins ≡ 8 = search rules in
    let below = seat_below c.args.seat c.in-Some.is c.requires in
    let inside : c.in-Some.i < length p.logins = omega (arith, long, below) in
    seat_unproven p c.args.seat c.in-Some.is inside c.unproven_at.ensures

pub returns-in-None : goal.returns-in-None
returns-in-None c = none_unproven c.args.p.now c.args.seat c.in-None.is
