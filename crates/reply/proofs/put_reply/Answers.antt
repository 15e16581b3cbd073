-- `reply::put_reply` meets its contract: nothing, or the payload, its fill and the header before them. Assumes nothing.
use Rattle.std.proofs.Common.{refl, sym, ◌∙◌, arith}
use Rattle.reply.proofs.Laws.{framed}
use Rattle.reply.proofs.put_reply.Goals as goal

pub returns : goal.returns
returns c =
    let a = c.args in
    let loud = sym c.is_silent.ensures ∙ c.if-is_silent.false in
    let fill = c.put_fill-fill in
    let both =
    framed a.o a.h a.r a.source.now a.reply.now _ _ _ _ _ c.put_payload-payload.result fill.result (omega arith) loud c.put_payload-payload.ensures refl
    fill.ensures.value fill.ensures.out_after refl (rw c.reply_head.ensures at c.write_header.ensures) in
    record { value = both.0; reply_after = both.1 }
