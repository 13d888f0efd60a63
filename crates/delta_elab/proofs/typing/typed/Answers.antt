-- What the checker's fault says of the program.
use Rattle.std.proofs.lemmas.Result.{err_from_is_err_and}
use Rattle.delta_tree.specs.Tree.{program_of}
use Rattle.core_term.specs.CoreTerm.{core_of, core_places}
use Rattle.delta_elab.proofs.Accepting.{says-type}
use Rattle.delta_elab.proofs.typing.typed.Goals as goal

pub returns-in_err-check-clause-refused : goal.returns-in_err-check-clause-refused
returns-in_err-check-clause-refused c =
    let core = c.in_ok-core.core in
    let found = c.in_err-check.ensures in
    let exit = err_from_is_err_and c.from_residual-in_err-check.result c.from_residual-in_err-check.ensures.1 in
    rw (exit.1, exit.2) (says-type (program_of c.args.p.now) (core_of core) (core_places core) c.in_err-check.field-0.0
    c.in_ok-core.ensures.core c.in_ok-core.ensures.places found.untyped found.first found.place)
