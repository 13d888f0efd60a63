-- What is reckoned with two, and what was seen.
use Rattle.std.proofs.Common.{sym, ap, subst}
use Rattle.std.specs.Prelude.{IfSome}
use Rattle.hist_value.specs.HistExpr.{HistExpr, expr_of}
use Rattle.hist_value.specs.HistValue.{hist_value_of}
use Rattle.hist_value.specs.Environment.{environment_of}
use Rattle.state_shapes.specs.RegisterLists.{lists_in}
use Rattle.learned_table.specs.Reckoned.{HasNow, reckoned_value}
use Rattle.learned_table.proofs.ReckonedParts.{both_have, seen_now}
use Rattle.learned_table.proofs.reckoning.+reckoned_now.Goals as goal

pub returns-in-Bin : goal.returns-in-Bin
returns-in-Bin t c =
    subst (λ (e : HistExpr). IfSome c.both_now.result (λ r. HasNow (lists_in c.args.found.now) e (environment_of c.args.past.now) (reckoned_value r))) (sym (ap expr_of c.in-Bin.is))
    (both_have (lists_in c.args.found.now) c.in-Bin.op (expr_of c.in-Bin.a.value) (expr_of c.in-Bin.b.value) (environment_of c.args.past.now)
    c.reckoned_now.result c.reckoned_now-in-Bin.result c.both_now.result
    (rw c.deref.ensures at c.reckoned_now.ensures) (rw c.deref-in-Bin.ensures at c.reckoned_now-in-Bin.ensures) c.both_now.ensures)

pub returns-in_default : goal.returns-in_default
returns-in_default t c =
    seen_now (λ v. hist_value_of v.now) (lists_in c.args.found.now) (expr_of c.args.e.now) (environment_of c.args.past.now) c.seen.result c.number_now.result c.seen.ensures c.number_now.ensures
