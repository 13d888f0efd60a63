-- The marks are those of the inert functions.
use Rattle.core_term.specs.CoreTerm.{core_of}
use Rattle.delta_check.specs.Counting.{counts_in}
use Rattle.delta_check.proofs.Whole.{body_found}
use Rattle.delta_check.proofs.checking.check_body.Goals as goal

pub returns : goal.returns
returns c =
    let funs = (core_of c.args.c.now).funs in
    body_found funs (counts_in funs c.args.marks.now) c.args.b.now c.args.number c.check_node.result c.requires.marks c.check_node.ensures
