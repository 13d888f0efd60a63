-- An item stands in front of the items of a list, or alone.
use Rattle.std.proofs.lemmas.Result.{IfOk-from_err}
use Rattle.hist_value.proofs.ItemsBefore.{before_list, alone}
use Rattle.hist_value.proofs.evaluating.put_before.Goals as goal

pub returns-in_err-push : goal.returns-in_err-push
returns-in_err-push c = IfOk-from_err _ _ c.from_residual.ensures.0

pub returns-in_err-append-in-List : goal.returns-in_err-append-in-List
returns-in_err-append-in-List c = IfOk-from_err _ _ c.from_residual-in_err-append-in-List.ensures.0

pub returns-in-List : goal.returns-in-List
returns-in-List c = before_list c.args.v c.args.list _ c.append.new.self _ _ c.in-List.is c.new-items.ensures.items c.in_ok-push.ensures.items c.in_ok-append-in-List.ensures.items

pub returns : goal.returns
returns c = alone c.args.v c.args.list c.push.new.self _ c.in-Unit.is c.new-items.ensures.items c.in_ok-push.ensures.items
