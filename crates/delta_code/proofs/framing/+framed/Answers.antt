-- A frame goes into what stands round it.
use Rattle.std.proofs.Common.{◌≡◌, ◌&&◌, true, false, ap, subst, rules}
use Rattle.std.proofs.lemmas.Result.{IfOk-weaker}
use Rattle.stream_type.specs.StreamType.{type_of}
use Rattle.bunch.specs.Names.{holds}
use Rattle.bunch.proofs.Tests.{and_first, and_second}
use Rattle.delta_state.specs.StateTree.{ArgumentTrees, frame_state, free_in_arguments}
use Rattle.state_rewriting.specs.Rewriting.{are_plain, composed}
use Rattle.template_state.specs.Readers.{state_in, arguments_in}
use Rattle.delta_code.specs.declared.way.Layers.{Layers}
use Rattle.delta_code.specs.Eased.{Eased}
use Rattle.delta_code.specs.Way.{within}
use Rattle.delta_code.proofs.Easing.{eased_same, eased_then, eased_unused, eased_unused_pair, eased_unused_row, eased_frames, within_eased, alias_of}
use Rattle.delta_code.proofs.framing.+framed.Goals as goal

pub framed-returns-in-None : goal.framed-returns-in-None
framed-returns-in-None t c = rw c.in-None.is (IfOk-weaker c.stays.result _ _ (λ l h s. eased_same (h s)) c.stays.ensures)

pub in_let-returns-then-arguments_use : goal.in_let-returns-then-arguments_use
in_let-returns-then-arguments_use t c =
    IfOk-weaker c.stays.result _ _ (λ l h s. eased_then (within_eased c.args.outer.value (alias_of (ap state_in c.deref.ensures) (ap arguments_in c.deref_mut.ensures.value) c.put_alias.ensures (type_of c.args.t) s)) (eased_same (h s))) c.stays.ensures

pub in_let-returns : goal.in_let-returns
in_let-returns t c =
    let none : holds c.args.x.0 (free_in_arguments (arguments_in c.put_alias.new.args)) ≡ false = search rules in
    IfOk-weaker c.framed.result _ _
    (λ l h s. eased_then (within_eased c.args.outer.value (eased_then (alias_of (ap state_in c.deref.ensures) (ap arguments_in c.deref_mut.ensures.value) c.put_alias.ensures (type_of c.args.t) s) (eased_unused none)))
    (subst (λ (o : Layers). Eased (within o (frame_state (arguments_in c.put_alias.new.args) s)) (within l s)) c.into_inner.ensures (h s)))
    c.framed.ensures

pub in_pair-returns-then-arguments_use : goal.in_pair-returns-then-arguments_use
in_pair-returns-then-arguments_use t c = IfOk-weaker c.stays.result _ _ (λ l h s. eased_same (h s)) c.stays.ensures

pub in_pair-returns : goal.in_pair-returns
in_pair-returns t c =
    let one : holds c.args.x.0 (free_in_arguments (arguments_in c.args.args.value)) ≡ false = search rules in
    let two : holds c.args.y.0 (free_in_arguments (arguments_in c.args.args.value)) ≡ false = search rules in
    IfOk-weaker c.framed.result _ _
    (λ l h s. eased_then (within_eased c.args.outer.value (eased_unused_pair one two))
    (subst (λ (o : Layers). Eased (within o (frame_state (arguments_in c.args.args.value) s)) (within l s)) c.into_inner.ensures (h s)))
    c.framed.ensures

pub in_row-returns-then-arguments_use : goal.in_row-returns-then-arguments_use
in_row-returns-then-arguments_use t c = IfOk-weaker c.stays.result _ _ (λ l h s. eased_same (h s)) c.stays.ensures

pub in_row-returns : goal.in_row-returns
in_row-returns t c =
    let one : holds c.args.x.0 (free_in_arguments (arguments_in c.args.args.value)) ≡ false = search rules in
    let two : holds c.args.y.0 (free_in_arguments (arguments_in c.args.args.value)) ≡ false = search rules in
    IfOk-weaker c.framed.result _ _
    (λ l h s. eased_then (within_eased c.args.outer.value (eased_unused_row one two))
    (subst (λ (o : Layers). Eased (within o (frame_state (arguments_in c.args.args.value) s)) (within l s)) c.into_inner.ensures (h s)))
    c.framed.ensures

pub in_frame-returns : goal.in_frame-returns
in_frame-returns t c = IfOk-weaker c.stays.result _ _ (λ l h s. eased_same (h s)) c.stays.ensures

pub in_frame-returns-then-both_plain : goal.in_frame-returns-then-both_plain
in_frame-returns-then-both_plain t c =
    let args = arguments_in c.args.around.value in
    let inner = arguments_in c.args.args.value in
    let both : (are_plain args && are_plain inner) ≡ true = search rules in
    let same : arguments_in c.compose.new.args ≡ composed args inner = search rules in
    IfOk-weaker c.framed.result _ _
    (λ l h s. eased_then (within_eased c.args.outer.value (eased_frames (and_first (are_plain args) (are_plain inner) both) (and_second (are_plain args) (are_plain inner) both)))
    (subst (λ (g : ArgumentTrees). Eased (within c.args.outer.value (frame_state g s)) (within l s)) same
    (subst (λ (o : Layers). Eased (within o (frame_state (arguments_in c.compose.new.args) s)) (within l s)) c.into_inner.ensures (h s))))
    c.framed.ensures
