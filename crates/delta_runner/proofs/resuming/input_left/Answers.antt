-- What is awaited at the kept state has the type of what is left.
use Rattle.std.proofs.Common.{Bool, List, map, ◌∙◌, ap, ap₂}
use Rattle.stream_type.specs.declared.ty.Ty.{Ty}
use Rattle.stream_type.specs.StreamType.{type_of}
use Rattle.core_term.specs.CoreTerm.{core_of}
use Rattle.machine_parts.specs.declared.awaited.Awaited.{Awaited}
use Rattle.machine_parts.specs.AwaitedTree.{awaited_in}
use Rattle.kept_state.specs.KeptPlace.{types_left}
use Rattle.kept_state.specs.KeptTyping.{types_kept}
use Rattle.delta_keep.specs.KeptView.{kept_of}
use Rattle.machine_kept.specs.KeptAwaiting.{awaited_left, awaited_type}
use Rattle.machine_kept.proofs.KeptAwaited.{type_awaited}
use Rattle.delta_runner.proofs.resuming.input_left.Goals as goal

pub returns : goal.returns
returns c =
    let d = core_of c.args.c.now in
    let k = kept_of c.args.k.now in
    let awaits = c.in_ok-awaited.ensures ∙ ap₂ (λ (ts : List Ty) (cs : List Bool). awaited_left d.main.params (types_left d.main.params (map type_of ts)) cs) c.deref.ensures.value c.deref-2.ensures.value in
    ap (λ (t : Ty). type_of t) c.into_inner.ensures
    ∙ (c.in_ok-left.ensures ∙ (ap awaited_type (ap (λ (a : Awaited). awaited_in a) c.deref-3.ensures ∙ awaits) ∙ type_awaited d.main.params (types_kept d k) k.cuts))
