-- `recording::lines::written` meets its contract: three texts, each of which fits. Assumes nothing.
use Rattle.std.proofs.Common.{rules, arith, ◌≡◌, ◌≤◌, length, [], ◌∷◌}
use Rattle.wire.specs.Bytes.{bytes}
use Rattle.recording.specs.Answers.{answer, flag_of}
use Rattle.recording.proofs.Laws.{put_three}
use Rattle.recording.proofs.lines.written.Goals as goal

pub returns : goal.returns
unfolding answer
returns c =
    let reply = c.args.reply.now in
    let fits : length reply ≤ 4096 = search rules in
    let head : c.head.result ≡ c.args.number ∷ bytes 2 (length reply) = c.head.ensures in
    let flag : c.from.result ≡ flag_of c.args.still = search rules in
    rw (head, flag) at (put_three 4100 c.head.result reply (c.from.result ∷ []) c.new-line.ensures c.put.ensures.whole c.put-2.ensures.whole c.put-3.ensures.whole (rw head (omega arith)))
