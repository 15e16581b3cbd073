-- `window::next_frame` meets its contract: the answer to its turn, or refusal 1. Assumes nothing.
use mathlib.Core.Path.{sym, ap, ◌∙◌}
use borrow.Author.Tests.{lt-ltb, le-ltb}
use lib.ListN.{length}
use Rattle.calls.specs.declared.View.{View}
use Rattle.drive.specs.Turn.{next_out_turn, next_out_buffer, answer_to}
use Rattle.drive.proofs.Turns.{next_out_turn_lem, next_out_buffer_lem}
use Rattle.drive.proofs.Ways.{next_short, next_short_buffer}
use Rattle.window.proofs.next_frame.Goals as goal

pub returns-then-reply-lt-MOST_FRAME : goal.returns-then-reply-lt-MOST_FRAME
returns-then-reply-lt-MOST_FRAME c =
    let a = c.args in
    let l = a.reply.now in
    let s = lt-ltb (length l) 2136 c.if-reply-lt-MOST_FRAME.true in
    (c.refuse.ensures ∙ sym (next_short a.d a.address a.ox_id a.start a.bytes.now (length l) s), sym (next_short_buffer a.d a.address a.ox_id a.start a.bytes.now l s))

pub returns : goal.returns
returns c =
    let a = c.args in
    let l = a.reply.now in
    let room = le-ltb (length l) 2136 c.if-reply-lt-MOST_FRAME.false in
    let v = c.look-v.ensures in
    let t = c.next_turn-t.ensures in
    let turn = t.0 ∙ ap (λ (w : View). next_out_turn w a.address a.ox_id a.start a.bytes.now (length l)) v in
    let left = t.1 ∙ ap (λ (w : View). next_out_buffer w a.address a.ox_id a.start a.bytes.now l) v in
    (c.after.ensures ∙ ap (answer_to a.d) turn ∙ next_out_turn_lem a.d a.address a.ox_id a.start a.bytes.now (length l) room, left ∙ next_out_buffer_lem a.d a.address a.ox_id a.start a.bytes.now l room)
