-- Nothing is given, and the state stays.
use Rattle.std.proofs.Common.{◌∙◌, ap}
use Rattle.core_term.specs.Run.{quiet}
use Rattle.template_state.specs.Readers.{state_in}
use Rattle.delta_code.proofs.still.waiting.Goals as goal

pub returns-clause-run : goal.returns-clause-run
returns-clause-run c = c.quiet.ensures.run ∙ ap quiet c.in_ok-output.ensures

pub returns-clause-rest : goal.returns-clause-rest
returns-clause-rest c = c.quiet.ensures.rest ∙ ap state_in c.in_ok-state.ensures.ok
