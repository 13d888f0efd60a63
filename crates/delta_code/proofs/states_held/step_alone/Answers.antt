-- What stands in a state is what its tree has.
use Rattle.std.proofs.Common.{◌≡◌, ◌∙◌, refl, ap}
use Rattle.std.proofs.lemmas.Result.{IfOk-weaker}
use Rattle.stream_type.specs.StreamType.{type_of}
use Rattle.delta_state.specs.StateTree.{sink, var_state, sum_state, star_state, wait_state}
use Rattle.template_state.specs.Readers.{state_in, later_in, held_in}
use Rattle.delta_code.proofs.Easing.{eased_same}
use Rattle.delta_code.proofs.states_held.step_alone.Goals as goal

pub returns-in-Sink : goal.returns-in-Sink
returns-in-Sink c =
    let is : state_in c.args.s.now ≡ sink (type_of c.in-Sink.t) = ap state_in c.in-Sink.is in
    rw is (c.quiet_done.ensures _ (sink (type_of c.in-Sink.t)) _ c.args.left c.args.levels c.nothing_yet.ensures (eased_same refl))

pub returns-in-Var : goal.returns-in-Var
returns-in-Var c =
    let is : state_in c.args.s.now ≡ var_state c.in-Var.x.0 = ap state_in c.in-Var.is in
    rw is (c.quiet_done-in-Var.ensures _ (var_state c.in-Var.x.0) _ c.args.left c.args.levels (IfOk-weaker c.copied.result _ _ (λ r e. e ∙ c.stream_at.ensures) c.copied.ensures) (eased_same refl))

pub returns-in-CaseSum : goal.returns-in-CaseSum
returns-in-CaseSum c =
    let i = c.in-CaseSum in
    let is : state_in c.args.s.now ≡ sum_state i.z.0 (type_of i.t) (held_in i.held.items) i.x.0 (later_in i.l) i.y.0 (later_in i.m) = ap state_in i.is in
    rw is (c.put_done.ensures _ _ _ _ c.step_sum-gone.ensures)

pub returns-in-CaseStar : goal.returns-in-CaseStar
returns-in-CaseStar c =
    let i = c.in-CaseStar in
    let is : state_in c.args.s.now ≡ star_state i.z.0 (type_of i.t) (held_in i.held.items) (later_in i.l) i.y.0 i.ys.0 (later_in i.m) = ap state_in i.is in
    rw is (c.put_done-in-CaseStar.ensures _ _ _ _ c.step_star-gone.ensures)

pub returns-in-Wait : goal.returns-in-Wait
returns-in-Wait c =
    let i = c.in-Wait in
    let is : state_in c.args.s.now ≡ wait_state i.x.0 (type_of i.t) (held_in i.held.items) (later_in i.l) = ap state_in i.is in
    rw is (c.put_done-in-Wait.ensures _ _ _ _ c.step_wait-gone.ensures)
