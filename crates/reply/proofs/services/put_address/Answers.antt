-- `reply::services::put_address` meets its contract: the address again after the names of the words. Assumes nothing.
use Rattle.std.proofs.Common.{◌≡◌, length, sym, arith, rules}
use Rattle.wire.proofs.Parts.{onto_over, part_is}
use Rattle.reply.specs.Payload.{short_bytes, address_bytes}
use Rattle.reply.proofs.services.put_address.Goals as goal

pub returns : goal.returns
unfolding address_bytes short_bytes
returns c =
    let words = c.args.own.accept in
    let n : length words ≡ 112 = search rules in
    let all = rw (c.bytes-a.ensures, sym (part_is 16 words 16 (omega arith))) at c.put_words_then-n.ensures in
    record {
      long = rw all.value;
      fits = omega arith;
      is = onto_over _ _ _ _ _ _ all.out_after (rw c.bytes-a.ensures at c.put_at.ensures) (sym all.value);
    }
