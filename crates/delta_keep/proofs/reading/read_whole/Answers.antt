-- Nothing stands behind what was read, or something does.
use Rattle.std.proofs.Common.{◌≡◌}
use Rattle.std.proofs.lemmas.Result.{err_from_is_err_and}
use Rattle.std.proofs.Common.{◌<◌, length, drop, arith}
use Rattle.delta_keep.proofs.Faults.{ends_whole, ends_behind, ends_so, whole}
use Rattle.delta_keep.proofs.reading.read_whole.Goals as goal

pub returns-in_err-k-clause-ended : goal.returns-in_err-k-clause-ended
returns-in_err-k-clause-ended c =
    let exit = err_from_is_err_and c.from_residual.result c.from_residual.ensures.1 in
    rw (exit.1, exit.2) (ends_so c.args.bytes.now c.in_err-k.field-0.0 c.in_err-k.ensures.reads)

pub returns-in-0-clause-spelled : goal.returns-in-0-clause-spelled
returns-in-0-clause-spelled c =
    let none = rw c.unread.ensures at (let n : length c.unread.result.now ≡ 0 = omega arith in n) in
    whole c.args.bytes.now _ (drop c.in_ok-k.next c.args.bytes.now) c.in_ok-k.ensures.reads.spelled none

pub returns-in-0-clause-sizes : goal.returns-in-0-clause-sizes
returns-in-0-clause-sizes c = c.in_ok-k.ensures.reads.sizes

pub returns-in-0-clause-ended : goal.returns-in-0-clause-ended
returns-in-0-clause-ended c =
    let none = rw c.unread.ensures at (let n : length c.unread.result.now ≡ 0 = omega arith in n) in
    ends_whole c.args.bytes.now (drop c.in_ok-k.next c.args.bytes.now) c.in_ok-k.ensures.reads.walked none

pub returns-in_default-clause-ended : goal.returns-in_default-clause-ended
returns-in_default-clause-ended c =
    let more = rw c.unread.ensures at (let n : 0 < length c.unread.result.now = omega arith in n) in
    rw c.unread.ensures (ends_behind c.args.bytes.now (drop c.in_ok-k.next c.args.bytes.now) c.in_ok-k.ensures.reads.walked more)
