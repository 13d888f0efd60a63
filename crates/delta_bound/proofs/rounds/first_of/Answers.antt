-- One function more, all functions, and want of memory.
use Rattle.std.proofs.Common.{◌∙◌}
use Rattle.std.specs.Prelude.{Some, None, if◌then◌else◌}
use Rattle.state_bounds.specs.ProgramBound.{is_marked}
use Rattle.delta_bound.proofs.Tables.{table-next, table-whole, no_value}
use Rattle.delta_bound.proofs.rounds.first_of.Goals as goal

pub loop-f-preserved : goal.loop-f-preserved
loop-f-preserved c =
    table-next (λ f. if is_marked c.args.reached.now f then Some 0 else None) c.loop-f.f c.loop-f.first.items c.push.new.self.items c.first_number.result c.in_ok-push.ensures.items c.loop-f.invariant c.first_number.ensures

pub returns : goal.returns
returns c =
    let funs = c.args.c.now.funs in
    table-whole (λ f. if is_marked c.args.reached.now f then Some 0 else None) c.loop-f.f c.len-f-end.result funs.items c.loop-f.first.items c.loop-f.invariant c.loop-f.auto.f-end c.loop-f-test.false (c.len-f-end.ensures ∙ funs.ok.0)

pub returns-in_err-push : goal.returns-in_err-push
returns-in_err-push c = no_value c.from_residual.result _ c.from_residual.ensures.0
