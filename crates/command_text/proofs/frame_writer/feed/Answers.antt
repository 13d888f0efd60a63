-- A run that ended at a byte of the piece, and a byte that was read.
use Rattle.std.proofs.Common.{◌++◌, take}
use Rattle.command_text.proofs.Feeding.{ended_at}
use Rattle.command_text.proofs.frame_writer.feed.Goals as goal

pub returns-in-Err-clause-err : goal.returns-in-Err-clause-err
returns-in-Err-clause-err g c start input feeds =
    ended_at c.args.version start _ _ _ input c.args.piece.now c.loop-byte.byte-index c.in-Err.end c.loop-byte-test.true
    (λ more f. c.in-Err.ensures.err start (input ++ take c.loop-byte.byte-index c.args.piece.now) more f)
    (c.loop-byte.invariant.0 start input feeds)
