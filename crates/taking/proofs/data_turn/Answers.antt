-- `taking::data_turn` meets its contract: a law for each way. Assumes nothing.
use Rattle.std.proofs.Common.{ap, ◌∙◌, Ok, Err}
use Rattle.taking.proofs.Ways.{says_none, says_no_write, says_fault, says_uncovered, says_taken}
use Rattle.taking.proofs.data_turn.Goals as goal

pub returns-in_default-clause-value : goal.returns-in_default-clause-value
returns-in_default-clause-value c = (says_none c.args.v c.args.h c.args.frame.now c.args.start c.args.window.now c.args.reply.now c.in_default.is c.refuse_turn.ensures).0

pub returns-in_default-clause-reply_after : goal.returns-in_default-clause-reply_after
returns-in_default-clause-reply_after c = (says_none c.args.v c.args.h c.args.frame.now c.args.start c.args.window.now c.args.reply.now c.in_default.is c.refuse_turn.ensures).1.0

pub returns-in_default-clause-window_after : goal.returns-in_default-clause-window_after
returns-in_default-clause-window_after c = (says_none c.args.v c.args.h c.args.frame.now c.args.start c.args.window.now c.args.reply.now c.in_default.is c.refuse_turn.ensures).1.1

pub returns-in-Err-NoWrite-clause-value : goal.returns-in-Err-NoWrite-clause-value
returns-in-Err-NoWrite-clause-value c = (says_no_write c.args.v c.args.h c.args.frame.now c.args.start c.args.window.now c.args.reply.now c.in-Some.is c.step_in.ensures (c.in-Err-NoWrite.is ∙ ap Err c.in-Err-NoWrite.field-0-is) c.refuse_turn-in-Err-NoWrite.ensures).0

pub returns-in-Err-NoWrite-clause-reply_after : goal.returns-in-Err-NoWrite-clause-reply_after
returns-in-Err-NoWrite-clause-reply_after c = (says_no_write c.args.v c.args.h c.args.frame.now c.args.start c.args.window.now c.args.reply.now c.in-Some.is c.step_in.ensures (c.in-Err-NoWrite.is ∙ ap Err c.in-Err-NoWrite.field-0-is) c.refuse_turn-in-Err-NoWrite.ensures).1.0

pub returns-in-Err-NoWrite-clause-window_after : goal.returns-in-Err-NoWrite-clause-window_after
returns-in-Err-NoWrite-clause-window_after c = (says_no_write c.args.v c.args.h c.args.frame.now c.args.start c.args.window.now c.args.reply.now c.in-Some.is c.step_in.ensures (c.in-Err-NoWrite.is ∙ ap Err c.in-Err-NoWrite.field-0-is) c.refuse_turn-in-Err-NoWrite.ensures).1.1

pub returns-in-Ok-Fault-clause-value : goal.returns-in-Ok-Fault-clause-value
returns-in-Ok-Fault-clause-value c = (says_fault c.args.v c.args.h c.args.frame.now c.args.start c.args.window.now c.args.reply.now c.in-Some.is c.step_in.ensures (c.in-Ok-Fault.is ∙ ap Ok c.in-Ok-Fault.field-0-is) c.end_exchange.ensures c.fault_turn.ensures.value c.fault_turn.ensures.reply_after).0

pub returns-in-Ok-Fault-clause-reply_after : goal.returns-in-Ok-Fault-clause-reply_after
returns-in-Ok-Fault-clause-reply_after c = (says_fault c.args.v c.args.h c.args.frame.now c.args.start c.args.window.now c.args.reply.now c.in-Some.is c.step_in.ensures (c.in-Ok-Fault.is ∙ ap Ok c.in-Ok-Fault.field-0-is) c.end_exchange.ensures c.fault_turn.ensures.value c.fault_turn.ensures.reply_after).1.0

pub returns-in-Ok-Fault-clause-window_after : goal.returns-in-Ok-Fault-clause-window_after
returns-in-Ok-Fault-clause-window_after c = (says_fault c.args.v c.args.h c.args.frame.now c.args.start c.args.window.now c.args.reply.now c.in-Some.is c.step_in.ensures (c.in-Ok-Fault.is ∙ ap Ok c.in-Ok-Fault.field-0-is) c.end_exchange.ensures c.fault_turn.ensures.value c.fault_turn.ensures.reply_after).1.1

pub returns-in-Err-Uncovered-clause-value : goal.returns-in-Err-Uncovered-clause-value
returns-in-Err-Uncovered-clause-value c = (says_uncovered c.args.v c.args.h c.args.frame.now c.args.start c.args.window.now c.args.reply.now c.in-Some.is c.step_in.ensures (c.in-Err-Uncovered.is ∙ ap Err c.in-Err-Uncovered.field-0-is) c.refuse_turn-in-Err-Uncovered.ensures).0

pub returns-in-Err-Uncovered-clause-reply_after : goal.returns-in-Err-Uncovered-clause-reply_after
returns-in-Err-Uncovered-clause-reply_after c = (says_uncovered c.args.v c.args.h c.args.frame.now c.args.start c.args.window.now c.args.reply.now c.in-Some.is c.step_in.ensures (c.in-Err-Uncovered.is ∙ ap Err c.in-Err-Uncovered.field-0-is) c.refuse_turn-in-Err-Uncovered.ensures).1.0

pub returns-in-Err-Uncovered-clause-window_after : goal.returns-in-Err-Uncovered-clause-window_after
returns-in-Err-Uncovered-clause-window_after c = (says_uncovered c.args.v c.args.h c.args.frame.now c.args.start c.args.window.now c.args.reply.now c.in-Some.is c.step_in.ensures (c.in-Err-Uncovered.is ∙ ap Err c.in-Err-Uncovered.field-0-is) c.refuse_turn-in-Err-Uncovered.ensures).1.1

pub returns-in-Ok-Take-clause-value : goal.returns-in-Ok-Take-clause-value
returns-in-Ok-Take-clause-value c = (says_taken c.args.v c.args.h c.args.frame.now c.args.start c.args.window.now c.args.reply.now c.in-Some.is c.step_in.ensures (c.in-Ok-Take.is ∙ ap Ok c.in-Ok-Take.field-0-is) c.data_size.ensures c.put_data.ensures c.take_turn.ensures).0

pub returns-in-Ok-Take-clause-reply_after : goal.returns-in-Ok-Take-clause-reply_after
returns-in-Ok-Take-clause-reply_after c = (says_taken c.args.v c.args.h c.args.frame.now c.args.start c.args.window.now c.args.reply.now c.in-Some.is c.step_in.ensures (c.in-Ok-Take.is ∙ ap Ok c.in-Ok-Take.field-0-is) c.data_size.ensures c.put_data.ensures c.take_turn.ensures).1.0

pub returns-in-Ok-Take-clause-window_after : goal.returns-in-Ok-Take-clause-window_after
returns-in-Ok-Take-clause-window_after c = (says_taken c.args.v c.args.h c.args.frame.now c.args.start c.args.window.now c.args.reply.now c.in-Some.is c.step_in.ensures (c.in-Ok-Take.is ∙ ap Ok c.in-Ok-Take.field-0-is) c.data_size.ensures c.put_data.ensures c.take_turn.ensures).1.1
