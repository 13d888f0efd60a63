-- With all of them seen, the types are those of the values.
use Rattle.std.proofs.Common.{◌∙◌, map}
use Rattle.stream_type.specs.StreamType.{type_of}
use Rattle.hist_value.specs.HistType.{hist_type_of, past}
use Rattle.delta_keep.specs.KeptView.{known_of}
use Rattle.kept_check.proofs.Contexts.{values_are}
use Rattle.kept_check.proofs.Gathered.{map_whole, map_both}
use Rattle.kept_check.proofs.values.value_types.Goals as goal

pub returns : goal.returns
returns c = λ d.
    let known = c.args.known.now in
    let types = c.loop-entry.types.items in
    values_are types (map known_of known) d
    (map_whole (λ e. (e.0.0, hist_type_of e.1)) (λ e. (e.name.0, past (type_of e.ty.value))) types known c.loop-entry.entry-index c.loop-entry-test.false c.loop-entry.invariant
    ∙ map_both (λ e. (e.name, past e.type)) known_of known)
