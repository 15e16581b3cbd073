-- `recording::setup_in` meets its contract: each field from its place, all of whose bytes are there. Assumes nothing.
use Rattle.std.proofs.Common.{rules, arith, ◌≡◌, ◌∙◌, length}
use Rattle.wire.proofs.Parts.{part_is}
use Rattle.recording.specs.Calls.{setup_in}
use Rattle.recording.proofs.setup_in.Goals as goal

pub returns : goal.returns
unfolding setup_in
returns c =
    let b = c.args.body.now in
    let long : length b ≡ 153 = search rules in
    let identity = c.part.ensures ∙ part_is 28 b 12 (omega arith) in
    let accept = c.part-2.ensures ∙ part_is 112 b 40 (omega arith) in
    λ i. record { capacity = c.read.ensures i; address = c.read-2.ensures i; identity = identity i; accept = accept i; writable = c.byte_at.ensures i }
