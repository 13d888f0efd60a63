-- What the part gives, with the bindings round what is left.
use Rattle.std.proofs.Common.{◌∙◌, sym, subst}
use Rattle.std.proofs.lemmas.Result.{IfOk-weaker}
use Rattle.std.specs.Prelude.{Result}
use Rattle.stream_prefix.specs.Tree.{prefix_of}
use Rattle.stream_type.specs.StreamType.{type_of}
use Rattle.machine_parts.specs.declared.stop.Stop.{Stop}
use Rattle.template_state.specs.Readers.{state_in}
use Rattle.delta_code.specs.declared.told.Told.{Told}
use Rattle.delta_code.specs.GoesOn.{GoesOn}
use Rattle.delta_code.proofs.Easing.{eased_cut, eased_then, eased_same}
use Rattle.delta_code.proofs.GoingOn.{few, low, followed_on, halts_as}
use Rattle.delta_code.proofs.states_done.row_done.Goals as goal

pub returns-in-Ok : goal.returns-in-Ok
returns-in-Ok c e s n l h =
    let a = c.args in
    let k = subst (λ (r : Result Told Stop). GoesOn r e s (state_in a.a.now) n l) c.in-Ok.is h in
    followed_on c.cut.result c.followed.result e _ _ n l c.followed.ensures (IfOk-weaker c.cut.result _ _ (λ r p. p ∙ k.run) c.cut.ensures.run)
    (IfOk-weaker c.cut.result _ _ (λ r p. eased_then (eased_cut a.x.0 a.y.0 a.z.0 (type_of a.t.now) (prefix_of a.p.now) k.rest) (eased_same (sym p))) c.cut.ensures.rest) (few k) (low k)

pub returns-in-Err : goal.returns-in-Err
returns-in-Err c e s n l h =
    let k = subst (λ (r : Result Told Stop). GoesOn r e s (state_in c.args.a.now) n l) c.in-Err.is h in
    halts_as k.spent k.deep
