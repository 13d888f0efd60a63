-- The type of the output has few parts, and frames of the version can have all its paths.
use Rattle.std.proofs.Common.{ap, arith, rules}
use Rattle.stream_type.specs.StreamType.{size_of}
use Rattle.checked_program.proofs.acceptance.written_by.Goals as goal

pub reach-requires : goal.reach-requires
reach-requires c = omega (arith, c.requires, ap size_of c.output.ensures)

pub returns-clause-accepted : goal.returns-clause-accepted
returns-clause-accepted c = search rules
