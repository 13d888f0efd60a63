-- The templates so far are those of the bodies seen so far.
use Rattle.std.proofs.Common.{◌≡◌, take, map}
use Rattle.core_term.specs.CoreTerm.{core_body_of}
use Rattle.template_state.specs.Templates.{body_in}
use Rattle.delta_code.proofs.compiling.templates.Given as goal

abbrev pub invariant-loop-body : goal.invariant-loop-body
invariant-loop-body l = map body_in l.made.items ≡ map core_body_of (take l.body-index l.bodies)
