-- `boundary::next_frame` meets its contract: refused for its buffer, or what the call comes to. Assumes nothing.
use Rattle.boundary.proofs.Calling.{next_refused_short}
use Rattle.boundary.proofs.next_frame.Goals as goal

pub returns-then-reply-lt-MOST_FRAME : goal.returns-then-reply-lt-MOST_FRAME
returns-then-reply-lt-MOST_FRAME c = let a = c.args in next_refused_short a.d.now a.address a.ox_id a.start a.window.now a.reply.now c.if-reply-lt-MOST_FRAME.true
