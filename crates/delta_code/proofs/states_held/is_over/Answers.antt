-- A wait asks whether its subject is whole.
use Rattle.std.proofs.Common.{rules}
use Rattle.delta_code.proofs.states_held.is_over.Goals as goal

pub returns : goal.returns
returns c = search rules
