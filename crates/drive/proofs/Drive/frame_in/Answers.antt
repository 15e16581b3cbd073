-- `drive::Drive::frame_in` meets its contract: refused for its buffer, refused as judged, or what it comes to. Assumes nothing.
use Rattle.drive.proofs.Ways.{says_short, says_refused, says_arrived}
use Rattle.drive.proofs.Drive.frame_in.Goals as goal

pub returns-then-reply-lt-LEAST_ROOM-clause-reply_after : goal.returns-then-reply-lt-LEAST_ROOM-clause-reply_after
returns-then-reply-lt-LEAST_ROOM-clause-reply_after c = (says_short c.args.self c.args.frame.now c.args.start c.args.window.now c.args.reply.now c.if-reply-lt-LEAST_ROOM.true _ c.refuse.ensures).1.0

pub returns-then-reply-lt-LEAST_ROOM-clause-window_after : goal.returns-then-reply-lt-LEAST_ROOM-clause-window_after
returns-then-reply-lt-LEAST_ROOM-clause-window_after c = (says_short c.args.self c.args.frame.now c.args.start c.args.window.now c.args.reply.now c.if-reply-lt-LEAST_ROOM.true _ c.refuse.ensures).1.1

pub returns-in-Err-clause-value : goal.returns-in-Err-clause-value
returns-in-Err-clause-value c = (says_refused c.args.self c.args.frame.now c.args.start c.args.window.now c.args.reply.now c.if-reply-lt-LEAST_ROOM.false _ c.read_header-h.ensures _ c.look-v.ensures _ c.arrived.ensures _ _ c.in-Err.is c.refuse-in-Err.ensures).0

pub returns-in-Err-clause-reply_after : goal.returns-in-Err-clause-reply_after
returns-in-Err-clause-reply_after c = (says_refused c.args.self c.args.frame.now c.args.start c.args.window.now c.args.reply.now c.if-reply-lt-LEAST_ROOM.false _ c.read_header-h.ensures _ c.look-v.ensures _ c.arrived.ensures _ _ c.in-Err.is c.refuse-in-Err.ensures).1.0

pub returns-in-Err-clause-window_after : goal.returns-in-Err-clause-window_after
returns-in-Err-clause-window_after c = (says_refused c.args.self c.args.frame.now c.args.start c.args.window.now c.args.reply.now c.if-reply-lt-LEAST_ROOM.false _ c.read_header-h.ensures _ c.look-v.ensures _ c.arrived.ensures _ _ c.in-Err.is c.refuse-in-Err.ensures).1.1

pub returns-in-Ok-clause-value : goal.returns-in-Ok-clause-value
returns-in-Ok-clause-value c = (let t = c.arrived_turn.ensures in says_arrived c.args.self c.args.frame.now c.args.start c.args.window.now c.args.reply.now c.if-reply-lt-LEAST_ROOM.false _ c.read_header-h.ensures _ c.look-v.ensures _ c.arrived.ensures _ _ _ _ _ c.in-Ok.is t.value t.reply_after t.window_after c.after.ensures).0

pub returns-in-Ok-clause-reply_after : goal.returns-in-Ok-clause-reply_after
returns-in-Ok-clause-reply_after c = (let t = c.arrived_turn.ensures in says_arrived c.args.self c.args.frame.now c.args.start c.args.window.now c.args.reply.now c.if-reply-lt-LEAST_ROOM.false _ c.read_header-h.ensures _ c.look-v.ensures _ c.arrived.ensures _ _ _ _ _ c.in-Ok.is t.value t.reply_after t.window_after c.after.ensures).1.0

pub returns-in-Ok-clause-window_after : goal.returns-in-Ok-clause-window_after
returns-in-Ok-clause-window_after c = (let t = c.arrived_turn.ensures in says_arrived c.args.self c.args.frame.now c.args.start c.args.window.now c.args.reply.now c.if-reply-lt-LEAST_ROOM.false _ c.read_header-h.ensures _ c.look-v.ensures _ c.arrived.ensures _ _ _ _ _ c.in-Ok.is t.value t.reply_after t.window_after c.after.ensures).1.1
