-- With all of them seen, the types are those of the entries.
use Rattle.std.proofs.Common.{◌∙◌, map}
use Rattle.stream_type.specs.StreamType.{type_of}
use Rattle.delta_keep.specs.KeptView.{held_of}
use Rattle.kept_check.proofs.Contexts.{marks_are}
use Rattle.kept_check.proofs.Gathered.{map_whole, map_both}
use Rattle.kept_check.proofs.values.types_held.Goals as goal

pub returns : goal.returns
returns c = λ x.
    let held = c.args.held.now in
    let types = c.loop-entry.types.items in
    marks_are types (map held_of held) x
    (map_whole (λ e. (e.0.0, type_of e.1)) (λ e. (e.name.0, type_of e.ty.value)) types held c.loop-entry.entry-index c.loop-entry-test.false c.loop-entry.invariant
    ∙ map_both (λ h. (h.name, h.type)) held_of held)
