-- A program is typed exactly where nothing is found.
use Rattle.std.proofs.lemmas.Result.{err_from_is_err_and}
use Rattle.core_term.specs.CoreTerm.{core_of}
use Rattle.delta_check.proofs.Whole.{typed_where, untyped_where}
use Rattle.delta_check.proofs.checking.check_core.Goals as goal

pub returns-in_err-check_bodies-clause-untyped : goal.returns-in_err-check_bodies-clause-untyped
returns-in_err-check_bodies-clause-untyped c =
    let exit = err_from_is_err_and c.from_residual-in_err-check_bodies.result c.from_residual-in_err-check_bodies.ensures.1 in
    rw (exit.1, exit.2) (untyped_where (core_of c.args.c.now) c.in_err-check_bodies.field-0.0 (c.in_err-check_bodies.ensures.0))

pub returns-clause-typed : goal.returns-clause-typed
returns-clause-typed c = typed_where (core_of c.args.c.now) (c.in_ok-check_bodies.ensures.0)
