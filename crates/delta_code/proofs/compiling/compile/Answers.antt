-- The templates of the functions, and that of main.
use Rattle.std.proofs.Common.{map, ap, ◌∙◌}
use Rattle.core_term.specs.CoreTerm.{core_body_of}
use Rattle.delta_code.proofs.compiling.compile.Goals as goal

pub returns-clause-funs : goal.returns-clause-funs
returns-clause-funs c = c.in_ok-funs.ensures ∙ ap (map core_body_of) c.deref.ensures.value

pub returns-clause-main : goal.returns-clause-main
returns-clause-main c = c.in_ok-template.ensures
