-- `recording::tell_data` meets its contract: the frame is copied, and the window lent from where it begins. Assumes nothing.
use Rattle.std.proofs.Common.{rules, ℕ, ◌≤◌, List, length, replicate}
use lib.ListN.{length-replicate}
use Rattle.recording.proofs.Data.{data_told, data_body}
use Rattle.recording.proofs.tell_data.Goals as goal

pub returns-clause-told_is : goal.returns-clause-told_is
returns-clause-told_is c =
    let n = c.read-n in
    let most : n.result ≤ 65535 = search rules in
    let z : List ℕ = replicate 65535 0 in
    let room : n.result ≤ length z = rw (length-replicate {A = ℕ} 65535 0) most in
    data_told c.args.body.now z c.put_front.new.out n.result n.ensures c.requires.body_in_bounds room c.put_front.ensures c.args.s c.read.ensures c.read-2.ensures c.hand_frame.ensures.told_is

pub returns-clause-body_after : goal.returns-clause-body_after
returns-clause-body_after c =
    let n = c.read-n in
    let most : n.result ≤ 65535 = search rules in
    let z : List ℕ = replicate 65535 0 in
    let room : n.result ≤ length z = rw (length-replicate {A = ℕ} 65535 0) most in
    data_body c.args.body.now z c.put_front.new.out n.result n.ensures c.requires.body_in_bounds room c.put_front.ensures c.args.s c.read.ensures c.read-2.ensures c.hand_frame.ensures.window_after
