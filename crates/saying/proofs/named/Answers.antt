-- `saying::named` meets its contract: the name, as much of it as is said, and the word after it. Assumes nothing.
use Rattle.std.proofs.Common.{arith}
use Rattle.saying.specs.Ends.{name_text, record_word}
use Rattle.saying.proofs.Texts.{put_two}
use Rattle.saying.proofs.named.Goals as goal

pub returns-clause-text : goal.returns-clause-text
unfolding name_text
returns-clause-text c =
    put_two 96 16 c.min.result c.args.name.now record_word c.new-line.ensures c.min.ensures c.put.ensures.whole c.put-2.ensures.whole (omega arith)
