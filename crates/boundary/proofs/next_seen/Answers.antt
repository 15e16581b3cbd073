-- `boundary::next_seen` meets its contract: the answer to its turn. Assumes nothing.
use Rattle.std.proofs.Common.{◌≡◌, length, rules, arith}
use Rattle.boundary.proofs.Calling.{next_given, seat_inside, seen_at, viewed}
use Rattle.boundary.proofs.next_seen.Goals as goal

pub returns : goal.returns
returns c =
    let a = c.args in
    let t = c.next_turn_from-t.ensures in
    let long : length a.d.now.port.logins ≡ 8 = search rules in
    let below = seat_inside c.seat_of-seat.result c.unwrap_or-at.ensures c.seat_of-seat.ensures.below in
    let seen = seen_at a.d.now.unit a.d.now.port a.s c.seat_of-seat.result c.see-v.ensures c.from.ensures c.unwrap_or-at.ensures (omega (arith, long, below)) in
    let view = viewed a.d.now.unit a.d.now.port a.address c.requires.seen c.seat_of-seat.ensures.is seen in
    next_given a.d.now a.address a.ox_id a.w.start a.w.bytes.now a.reply.now c.requires.room view t.0 t.1 c.store.ensures.0 c.store.ensures.1
