-- The scope is that of the body's parameters, and the marks are those of the inert functions.
use Rattle.std.proofs.Common.{sym}
use Rattle.core_term.specs.CoreTerm.{core_of, core_body_of, fun_at}
use Rattle.core_term.specs.Inert.{is_inert_fun}
use Rattle.core_term.specs.Typing.{context_of}
use Rattle.delta_check.specs.Counting.{counts_in}
use Rattle.state_bounds.specs.TermBounds.{body_bound}
use Rattle.state_bounds.specs.ProgramBound.{number_at}
use Rattle.delta_bound.specs.BoundIn.{bound_in}
use Rattle.delta_bound.specs.Unsized.{unsized_in}
use Rattle.delta_bound.proofs.Bodies.{body-is}
use Rattle.delta_bound.proofs.FirstNodes.{body-is as first-is}
use Rattle.delta_bound.proofs.Measures.{measures_at}
use Rattle.delta_bound.proofs.body_bounds.measure.Goals as goal

pub returns : goal.returns
returns c =
    let funs = (core_of c.args.c.now).funs in
    let counts = counts_in funs c.args.inert.now in
    let numbers = number_at c.args.numbers.now in
    let b = c.args.b.now in
    let body = core_body_of b in
    measures_at c.term_bound.result (body_bound (fun_at funs) (is_inert_fun funs) numbers body) (bound_in funs counts numbers body.body (context_of body)) (unsized_in funs (is_inert_fun funs) b) (unsized_in funs counts b)
    (sym (body-is funs counts numbers body c.requires)) (sym (first-is funs counts b c.requires)) c.term_bound.ensures
