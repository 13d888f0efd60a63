-- The declarations are looked at before the main program.
use Rattle.std.proofs.lemmas.Result.{err_from_is_err_and}
use Rattle.delta_tree.specs.Tree.{program_of}
use Rattle.delta_elab.proofs.Declaring.{first_in_declarations, first_in_main, nothing_in_program}
use Rattle.delta_elab.proofs.program_faults.check_program.Goals as goal

pub returns-in_err-types-clause-fault : goal.returns-in_err-types-clause-fault
returns-in_err-types-clause-fault c =
    let exit = err_from_is_err_and c.from_residual.result c.from_residual.ensures.1 in
    rw (exit.1, exit.2) (first_in_declarations (program_of c.args.p.now) c.in_err-types.field-0.0 (rw c.deref.ensures.value at c.in_err-types.ensures.fault))

pub returns-in_err-check_main-clause-fault : goal.returns-in_err-check_main-clause-fault
returns-in_err-check_main-clause-fault c =
    let exit = err_from_is_err_and c.from_residual-in_err-check_main.result c.from_residual-in_err-check_main.ensures.1 in
    rw (exit.1, exit.2) (first_in_main (program_of c.args.p.now) c.in_ok-types.types.items
    (rw c.deref.ensures.value at c.in_ok-types.ensures.types) (rw c.deref.ensures.value at c.in_ok-types.ensures.fine) c.in_err-check_main.field-0.0
    (rw (c.deref-2.ensures.value, c.deref-3.ensures.value) at c.in_err-check_main.ensures))

pub returns-clause-fine : goal.returns-clause-fine
returns-clause-fine c =
    nothing_in_program (program_of c.args.p.now) c.in_ok-types.types.items
    (rw c.deref.ensures.value at c.in_ok-types.ensures.types) (rw c.deref.ensures.value at c.in_ok-types.ensures.fine)
    (rw (c.deref-2.ensures.value, c.deref-3.ensures.value) at c.in_ok-check_main.ensures)
