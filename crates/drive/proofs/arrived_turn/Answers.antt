-- `drive::arrived_turn` meets its contract: a data frame has a turn of its own. Assumes nothing.
use Rattle.drive.proofs.Ways.{comes_data, comes_other}
use Rattle.drive.proofs.arrived_turn.Goals as goal

pub returns-then-h-eq-DATA-clause-reply_after : goal.returns-then-h-eq-DATA-clause-reply_after
returns-then-h-eq-DATA-clause-reply_after c = let t = c.data_turn.ensures in (comes_data c.args.v c.args.h c.args.frame.now c.args.start c.args.window.now c.args.reply.now _ _ _ c.if-h-eq-DATA.true t.value t.reply_after t.window_after).1.0

pub returns-then-h-eq-DATA-clause-window_after : goal.returns-then-h-eq-DATA-clause-window_after
returns-then-h-eq-DATA-clause-window_after c = let t = c.data_turn.ensures in (comes_data c.args.v c.args.h c.args.frame.now c.args.start c.args.window.now c.args.reply.now _ _ _ c.if-h-eq-DATA.true t.value t.reply_after t.window_after).1.1

pub returns-else-h-eq-DATA-clause-reply_after : goal.returns-else-h-eq-DATA-clause-reply_after
returns-else-h-eq-DATA-clause-reply_after c = let t = c.passed_turn.ensures in (comes_other c.args.v c.args.h c.args.frame.now c.args.start c.args.window.now c.args.reply.now _ _ c.if-h-eq-DATA.false t.value t.reply_after).1.0

pub returns-else-h-eq-DATA-clause-window_after : goal.returns-else-h-eq-DATA-clause-window_after
returns-else-h-eq-DATA-clause-window_after c = let t = c.passed_turn.ensures in (comes_other c.args.v c.args.h c.args.frame.now c.args.start c.args.window.now c.args.reply.now _ _ c.if-h-eq-DATA.false t.value t.reply_after).1.1
