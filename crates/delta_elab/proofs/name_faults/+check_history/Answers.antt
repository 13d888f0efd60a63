-- In the second arm of a choice nothing is wrong before it.
use Rattle.std.proofs.Common.{◌≡◌, true, Some, None}
use Rattle.std.proofs.lemmas.Result.{err_from_is_err_and}
use Rattle.bunch.specs.Names.{put}
use Rattle.hist_value.specs.HistExpr.{expr_of}
use Rattle.delta_meaning.specs.Faults.{expr_faults}
use Rattle.delta_elab.specs.Bounds.{bound_in}
use Rattle.delta_elab.specs.FirstFault.{fault_of, said, to_say}
use Rattle.delta_elab.proofs.Firsts.{later, earlier}
use Rattle.delta_elab.proofs.name_faults.+check_history.Goals as goal

pub returns-in_err-check_history-in-Choose-2 : goal.returns-in_err-check_history-in-Choose-2
returns-in_err-check_history-in-Choose-2 t c =
    let bound = bound_in c.args.bound.now in
    let e = c.in_err-check_history-in-Choose-2.field-0.0 in
    let first : None ≡ to_say (expr_faults c.args.at (expr_of c.in-Choose.a.value) bound) =
    cc (c.in_ok-check_history-in-Choose.ensures, c.deref.ensures) in
    let second : Some (fault_of e) ≡ to_say (expr_faults c.args.at (expr_of c.in-Choose.b.value) (put c.in-Choose.x.0 true bound)) =
    cc (c.in_err-check_history-in-Choose-2.ensures, c.deref-in-Choose.ensures) in
    let exit = err_from_is_err_and c.from_residual-in_err-check_history-in-Choose-2.result c.from_residual-in_err-check_history-in-Choose-2.ensures.1 in
    rw (c.in-Choose.is, exit.1, exit.2) (later _ _ _ first (earlier _ _ _ second))

pub returns-in_ok-check_history-in-Choose-2 : goal.returns-in_ok-check_history-in-Choose-2
returns-in_ok-check_history-in-Choose-2 t c =
    let bound = bound_in c.args.bound.now in
    let first : None ≡ to_say (expr_faults c.args.at (expr_of c.in-Choose.a.value) bound) =
    cc (c.in_ok-check_history-in-Choose.ensures, c.deref.ensures) in
    let second : None ≡ to_say (expr_faults c.args.at (expr_of c.in-Choose.b.value) (put c.in-Choose.x.0 true bound)) =
    cc (c.in_ok-check_history-in-Choose-2.ensures, c.deref-in-Choose.ensures) in
    let third : said c.check_history-in-Choose-2.result ≡ to_say (expr_faults c.args.at (expr_of c.in-Choose.c.value) (put c.in-Choose.y.0 true bound)) =
    cc (c.check_history-in-Choose-2.ensures, c.deref-in-Choose-2.ensures) in
    rw c.in-Choose.is (later _ _ _ first (later _ _ _ second third))
