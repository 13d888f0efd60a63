-- The kept state that was read has a first state that isn't typed.
use Rattle.std.proofs.lemmas.Result.{err_from_is_err_and}
use Rattle.core_term.specs.CoreTerm.{core_of}
use Rattle.kept_check.proofs.UntypedBytes.{of_none, form_refuses}
use Rattle.kept_check.proofs.loading.load.Goals as goal

pub returns-in-Err-At-clause-fault : goal.returns-in-Err-At-clause-fault
returns-in-Err-At-clause-fault c =
    let told = rw (c.in-Err-At.field-0-is, c.core.ensures.program) at c.in-Err-At.ensures in
    record { kept = c.in_ok-k.k; has_form = c.in_ok-k.ensures.form; has_bytes = c.in_ok-k.ensures.bytes; is_first = told }

pub returns-in-Err-At-clause-untyped : goal.returns-in-Err-At-clause-untyped
returns-in-Err-At-clause-untyped c =
    let told = rw (c.in-Err-At.field-0-is, c.core.ensures.program) at c.in-Err-At.ensures in
    of_none (core_of c.args.c.now) c.in_ok-k.k c.args.bytes.now c.in-Err-At.number c.in_ok-k.ensures.bytes c.in_ok-k.ensures.sizes told

pub returns-in_err-k-clause-untyped : goal.returns-in_err-k-clause-untyped
returns-in_err-k-clause-untyped c =
    let exit = err_from_is_err_and c.from_residual.result c.from_residual.ensures.1 in rw (exit.1, exit.2) (form_refuses (core_of c.args.c.now) c.args.bytes.now c.in_err-k.field-0.0 c.in_err-k.ensures.form)
