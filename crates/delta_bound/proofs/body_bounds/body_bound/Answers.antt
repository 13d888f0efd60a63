-- The bound by the measure, which is none where the measure stops at a name.
use Rattle.core_term.specs.CoreTerm.{core_of, core_body_of, fun_at}
use Rattle.core_term.specs.Inert.{is_inert_fun}
use Rattle.state_bounds.specs.TermBounds.{body_bound}
use Rattle.state_bounds.specs.ProgramBound.{number_at}
use Rattle.delta_bound.specs.Unsized.{unsized_in}
use Rattle.delta_bound.proofs.LargeBodies.{body_large}
use Rattle.delta_bound.proofs.Measures.{held_is}
use Rattle.delta_bound.proofs.body_bounds.body_bound.Goals as goal

pub returns : goal.returns
returns c =
    let funs = (core_of c.args.c.now).funs in
    let numbers = number_at c.args.numbers.now in
    let b = c.args.b.now in
    held_is c.measure.result (body_bound (fun_at funs) (is_inert_fun funs) numbers (core_body_of b)) (unsized_in funs (is_inert_fun funs) b) c.held.result (body_large funs numbers b) c.measure.ensures c.held.ensures
