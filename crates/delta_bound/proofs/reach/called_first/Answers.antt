-- One function more, all functions, and want of memory.
use Rattle.std.proofs.Common.{◌∙◌}
use Rattle.bunch.specs.Names.{holds}
use Rattle.core_term.specs.CoreTerm.{core_of}
use Rattle.state_bounds.specs.ProgramBound.{calls_in}
use Rattle.delta_bound.proofs.Tables.{table-next, table-whole, no_value}
use Rattle.delta_bound.proofs.reach.called_first.Goals as goal

pub loop-f-preserved : goal.loop-f-preserved
loop-f-preserved c =
    table-next (λ f. holds f (calls_in (core_of c.args.c.now).main.body)) c.loop-f.f c.loop-f.marks.items c.push.new.self.items c.calls.result c.in_ok-push.ensures.items c.loop-f.invariant c.calls.ensures

pub returns : goal.returns
returns c =
    let funs = c.args.c.now.funs in
    table-whole (λ f. holds f (calls_in (core_of c.args.c.now).main.body)) c.loop-f.f c.len-f-end.result funs.items c.loop-f.marks.items c.loop-f.invariant c.loop-f.auto.f-end c.loop-f-test.false (c.len-f-end.ensures ∙ funs.ok.0)

pub returns-in_err-push : goal.returns-in_err-push
returns-in_err-push c = no_value c.from_residual.result _ c.from_residual.ensures.0
