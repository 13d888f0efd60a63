-- By this name, at this place.
use Rattle.std.proofs.Common.{rules}
use Rattle.program_text.proofs.fault.refused.Goals as goal

pub returns : goal.returns
returns c = search rules
