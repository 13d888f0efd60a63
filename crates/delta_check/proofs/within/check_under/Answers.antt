-- A term has the type exactly where nothing is found.
use Rattle.std.proofs.lemmas.Result.{err_from_is_err_and}
use Rattle.stream_type.specs.StreamType.{type_of}
use Rattle.core_term.specs.CoreTerm.{term_of, core_of}
use Rattle.delta_check.specs.Counting.{counts_in}
use Rattle.delta_check.specs.Scopes.{context_in}
use Rattle.delta_check.proofs.Contexts.{found_typed, found_first, found_untyped}
use Rattle.delta_check.proofs.within.check_under.Goals as goal

pub returns-clause-typed : goal.returns-clause-typed
returns-clause-typed c =
    found_typed (core_of c.args.c.now).funs (counts_in (core_of c.args.c.now).funs c.args.marks.now) c.requires.marks (context_in c.args.scope.now) (term_of c.args.n.now) (type_of c.args.r.now) (c.in_ok-check_node.ensures.0)

pub returns-in_err-check_node-clause-untyped : goal.returns-in_err-check_node-clause-untyped
returns-in_err-check_node-clause-untyped c =
    let exit = err_from_is_err_and c.from_residual.result c.from_residual.ensures.1 in
    rw (exit.1, exit.2)
    (found_untyped (core_of c.args.c.now).funs (counts_in (core_of c.args.c.now).funs c.args.marks.now) c.requires.marks (context_in c.args.scope.now) (term_of c.args.n.now) (type_of c.args.r.now) c.in_err-check_node.field-0.0 (c.in_err-check_node.ensures.0))

pub returns-in_err-check_node-clause-first : goal.returns-in_err-check_node-clause-first
returns-in_err-check_node-clause-first c =
    let exit = err_from_is_err_and c.from_residual.result c.from_residual.ensures.1 in
    rw (exit.1, exit.2)
    (found_first (core_of c.args.c.now).funs (counts_in (core_of c.args.c.now).funs c.args.marks.now) c.requires.marks (context_in c.args.scope.now) (term_of c.args.n.now) (type_of c.args.r.now) c.in_err-check_node.field-0.0 (c.in_err-check_node.ensures.0))
