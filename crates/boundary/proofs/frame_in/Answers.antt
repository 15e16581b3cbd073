-- `boundary::frame_in` meets its contract: refused for its buffer or by what arrived, or what it comes to. Assumes nothing.
use Rattle.std.proofs.Common.{◌≡◌, length, rules, arith}
use Rattle.std.proofs.lemmas.Result.{err_from_is_err_and}
use Rattle.boundary.proofs.Calling.{frame_refused_short, frame_refused, seat_inside, seen_at, frame_taken, frame_passed}
use Rattle.boundary.proofs.frame_in.Goals as goal

pub returns-then-reply-lt-MOST_FRAME : goal.returns-then-reply-lt-MOST_FRAME
returns-then-reply-lt-MOST_FRAME c = let a = c.args in frame_refused_short a.d.now a.frame.now a.start a.window.now a.reply.now c.if-reply-lt-MOST_FRAME.true

pub returns-in_err-form : goal.returns-in_err-form
returns-in_err-form c =
    let a = c.args in
    let p = err_from_is_err_and c.from_residual.result c.from_residual.ensures.1 in
    rw (p.1, p.2)
    (frame_refused a.d.now a.frame.now a.start a.window.now a.reply.now c.if-reply-lt-MOST_FRAME.false c.read_header-h.ensures c.sight_of-s.ensures c.seat_of-seat.ensures.is c.is_unproven-unproven.ensures c.judge.ensures c.in_err-form.was)

pub returns-then-is_data : goal.returns-then-is_data
returns-then-is_data c =
    let a = c.args in
    let t = c.data_turn-t.ensures in
    let long : length a.d.now.port.logins ≡ 8 = search rules in
    let below = seat_inside c.seat_of-seat.result c.unwrap_or-at.ensures c.seat_of-seat.ensures.below in
    let seen = seen_at a.d.now.unit a.d.now.port c.sight_of-s.result c.seat_of-seat.result c.see-v.ensures c.from.ensures c.unwrap_or-at.ensures (omega (arith, long, below)) in
    frame_taken a.d.now a.frame.now a.start a.window.now a.reply.now c.if-reply-lt-MOST_FRAME.false c.read_header-h.ensures c.sight_of-s.ensures c.seat_of-seat.ensures.is c.is_unproven-unproven.ensures c.judge.ensures c.in_ok-form.was
    seen c.is_data.ensures c.if-is_data.true t.0 t.1 t.2 c.store.ensures.0 c.store.ensures.1

pub returns-else-is_data : goal.returns-else-is_data
returns-else-is_data c =
    let a = c.args in
    let t = c.passed_turn-t.ensures in
    let long : length a.d.now.port.logins ≡ 8 = search rules in
    let below = seat_inside c.seat_of-seat.result c.unwrap_or-at.ensures c.seat_of-seat.ensures.below in
    let seen = seen_at a.d.now.unit a.d.now.port c.sight_of-s.result c.seat_of-seat.result c.see-v.ensures c.from.ensures c.unwrap_or-at.ensures (omega (arith, long, below)) in
    frame_passed a.d.now a.frame.now a.start a.window.now a.reply.now c.if-reply-lt-MOST_FRAME.false c.read_header-h.ensures c.sight_of-s.ensures c.seat_of-seat.ensures.is c.is_unproven-unproven.ensures c.judge.ensures c.in_ok-form.was
    seen c.is_data.ensures c.if-is_data.false t.value t.reply_after c.settle.ensures.0 c.settle.ensures.1
