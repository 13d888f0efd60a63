-- What is read to the end of a cut input is the cut of what the reader had left.
use Rattle.std.proofs.Common.{ap}
use Rattle.port.proofs.Cuts.{cut_known}
use Rattle.port.proofs.stream.read_cut.Goals as goal

pub returns : goal.returns
returns g c =
    cut_known (g.R.Read.remaining c.take.result.inner) (g.R.Read.remaining c.args.input) c.read_to_end.new.buf.items c.new-bytes.result.items c.take.result.limit 1048577
    (ap g.R.Read.remaining c.take.ensures.inner) c.take.ensures.limit c.new-bytes.ensures.items c.in_ok-read_to_end.ensures.bytes
