-- `serve::inquiry_bytes` meets its contract: the first eight bytes, and the identity after them. Assumes nothing.
use Rattle.std.proofs.Common.{rules, ◌≡◌, length}
use Rattle.serve.proofs.Ways.{inquiry_is}
use Rattle.serve.proofs.inquiry_bytes.Goals as goal

pub returns : goal.returns
returns c =
    let n : length c.args.identity ≡ 28 = search rules in
    inquiry_is c.args.identity _ _ c.args.kind _ n c.inquiry_first-first.ensures c.put_front.ensures c.put_at.ensures
