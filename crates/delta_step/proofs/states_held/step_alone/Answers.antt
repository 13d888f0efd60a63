-- What stands in a state is what its tree has.
use Rattle.std.proofs.Common.{◌≡◌, List, map, sym, ap, ◌∙◌, subst, arith}
use Rattle.stream_type.specs.StreamType.{type_of}
use Rattle.delta_state.specs.StateTree.{StateTree, sink, var_state, sum_state, star_state, wait_state}
use Rattle.machine_parts.specs.declared.entry.Entry.{Entry}
use Rattle.delta_step.specs.Marked.{state_in, code_in}
use Rattle.machine_parts.specs.Entry.{entry_in}
use Rattle.delta_step.specs.Gives.{Gives}
use Rattle.delta_step.specs.Steps.{state_run, state_rest}
use Rattle.delta_step.proofs.states_held.step_alone.Goals as goal

pub returns-in-Sink : goal.returns-in-Sink
returns-in-Sink c =
    let is : state_in c.args.s.now ≡ sink (type_of c.in-Sink.t) = ap state_in c.in-Sink.is in
    let e = subst (λ (x : StateTree). Gives c.made.result (state_run c.args.core.now c.args.scope.now x (type_of c.args.r.now)) (state_rest c.args.core.now c.args.scope.now x (type_of c.args.r.now)) c.args.left c.args.levels) (sym is) (c.made.ensures _ _ _ _ c.sunk.ensures.run c.sunk.ensures.rest (omega arith) (omega arith)) in
    record { run = e.run; rest = e.rest; counted = e.counted; shallow = e.shallow; spent = e.spent; deep = e.deep }

pub returns-in-Var : goal.returns-in-Var
returns-in-Var c =
    let is : state_in c.args.s.now ≡ var_state c.in-Var.x.0 = ap state_in c.in-Var.is in
    let e = subst (λ (x : StateTree). Gives c.made-in-Var.result (state_run c.args.core.now c.args.scope.now x (type_of c.args.r.now)) (state_rest c.args.core.now c.args.scope.now x (type_of c.args.r.now)) c.args.left c.args.levels) (sym is) (c.made-in-Var.ensures _ _ _ _ c.named.ensures.run c.named.ensures.rest (omega arith) (omega arith)) in
    record { run = e.run; rest = e.rest; counted = e.counted; shallow = e.shallow; spent = e.spent; deep = e.deep }

pub returns-in-CaseSum : goal.returns-in-CaseSum
returns-in-CaseSum c =
    let i = c.in-CaseSum in
    let is : state_in c.args.s.now ≡ sum_state i.z.0 (type_of i.t) (map entry_in c.deref.result.now) i.x.0 (code_in i.l) i.y.0 (code_in i.m) =
    ap state_in i.is ∙ ap (λ (es : List Entry). sum_state i.z.0 (type_of i.t) (map entry_in es) i.x.0 (code_in i.l) i.y.0 (code_in i.m)) (sym c.deref.ensures.value) in
    let e = subst (λ (x : StateTree). Gives c.step_sum.result (state_run c.args.core.now c.args.scope.now x (type_of c.args.r.now)) (state_rest c.args.core.now c.args.scope.now x (type_of c.args.r.now)) c.args.left c.args.levels) (sym is) c.step_sum.ensures in
    record { run = e.run; rest = e.rest; counted = e.counted; shallow = e.shallow; spent = e.spent; deep = e.deep }

pub returns-in-CaseStar : goal.returns-in-CaseStar
returns-in-CaseStar c =
    let i = c.in-CaseStar in
    let is : state_in c.args.s.now ≡ star_state i.z.0 (type_of i.t) (map entry_in c.deref-in-CaseStar.result.now) (code_in i.l) i.y.0 i.ys.0 (code_in i.m) =
    ap state_in i.is ∙ ap (λ (es : List Entry). star_state i.z.0 (type_of i.t) (map entry_in es) (code_in i.l) i.y.0 i.ys.0 (code_in i.m)) (sym c.deref-in-CaseStar.ensures.value) in
    let e = subst (λ (x : StateTree). Gives c.step_star.result (state_run c.args.core.now c.args.scope.now x (type_of c.args.r.now)) (state_rest c.args.core.now c.args.scope.now x (type_of c.args.r.now)) c.args.left c.args.levels) (sym is) c.step_star.ensures in
    record { run = e.run; rest = e.rest; counted = e.counted; shallow = e.shallow; spent = e.spent; deep = e.deep }

pub returns-in-Wait : goal.returns-in-Wait
returns-in-Wait c =
    let i = c.in-Wait in
    let is : state_in c.args.s.now ≡ wait_state i.x.0 (type_of i.t) (map entry_in c.deref-in-Wait.result.now) (code_in i.l) =
    ap state_in i.is ∙ ap (λ (es : List Entry). wait_state i.x.0 (type_of i.t) (map entry_in es) (code_in i.l)) (sym c.deref-in-Wait.ensures.value) in
    let e = subst (λ (x : StateTree). Gives c.step_wait.result (state_run c.args.core.now c.args.scope.now x (type_of c.args.r.now)) (state_rest c.args.core.now c.args.scope.now x (type_of c.args.r.now)) c.args.left c.args.levels) (sym is) c.step_wait.ensures in
    record { run = e.run; rest = e.rest; counted = e.counted; shallow = e.shallow; spent = e.spent; deep = e.deep }
