-- `drive::passed_turn` meets its contract: the decision's reply is written, and told. Assumes nothing.
use Rattle.drive.proofs.Ways.{turn_passed}
use Rattle.drive.proofs.passed_turn.Goals as goal

pub returns-clause-reply_after : goal.returns-clause-reply_after
returns-clause-reply_after c = (turn_passed c.args.v c.args.h c.args.frame.now c.args.reply.now _ _ _ _ c.decide-d.ensures c.write.ensures.value c.write.ensures.reply_after c.send_turn.ensures).1
