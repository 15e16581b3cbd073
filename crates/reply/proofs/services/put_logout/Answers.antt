-- `reply::services::put_logout` meets its contract: the port name is a part of the words. Assumes nothing.
use Rattle.std.proofs.Common.{◌≡◌, length, sym, arith, rules}
use Rattle.wire.proofs.Parts.{part_is}
use Rattle.reply.specs.Payload.{logout_bytes}
use Rattle.reply.proofs.services.put_logout.Goals as goal

pub returns : goal.returns
unfolding logout_bytes
returns c =
    let words = c.args.own.accept in
    let n : length words ≡ 112 = search rules in
    let all = rw (c.bytes.ensures, sym (part_is 8 words 16 (omega arith))) at c.put_words_then.ensures in
    record { long = all.value; fits = omega arith; is = all.out_after }
