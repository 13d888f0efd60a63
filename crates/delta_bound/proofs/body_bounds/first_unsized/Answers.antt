-- The name at which the measure stops.
use Rattle.core_term.specs.CoreTerm.{core_of}
use Rattle.core_term.specs.Inert.{is_inert_fun}
use Rattle.delta_bound.specs.Unsized.{unsized_in}
use Rattle.delta_bound.proofs.Measures.{found_is}
use Rattle.delta_bound.proofs.body_bounds.first_unsized.Goals as goal

pub returns : goal.returns
returns c =
    let funs = (core_of c.args.c.now).funs in
    found_is c.measure.result _ (unsized_in funs (is_inert_fun funs) c.args.b.now) c.found.result c.measure.ensures c.found.ensures
