-- `reply::commands::put_response` meets its contract: a status alone has 24 bytes. Assumes nothing.
use Rattle.std.proofs.Common.{arith}
use Rattle.reply.specs.Payload.{status_bytes}
use Rattle.reply.proofs.commands.put_response.Goals as goal

pub returns-in-Status : goal.returns-in-Status
unfolding status_bytes
returns-in-Status c =
    let all = rw (c.status-in-Status.ensures, c.flag.ensures.0, c.size.ensures) at c.put_words.ensures in
    rw c.in-Status.is (record { long = all.value; fits = omega arith; is = all.out_after })
