-- With all of them seen, the names are those of the entries.
use Rattle.std.proofs.Common.{◌∙◌, ap, map, refl}
use Rattle.bunch.specs.Names.{number_of}
use Rattle.delta_keep.specs.KeptView.{held_of}
use Rattle.kept_check.proofs.Gathered.{map_next, map_whole, map_both}
use Rattle.kept_check.proofs.values.names_held.Goals as goal

pub loop-entry-preserved : goal.loop-entry-preserved
loop-entry-preserved c =
    ap (map number_of) c.in_ok-push.ensures.items
    ∙ map_next number_of (λ e. e.name.0) c.loop-entry.names.items c.entry-item.result.name c.args.held.now c.loop-entry.entry-index c.entry-item.result c.loop-entry-test.true c.entry-item.is refl c.loop-entry.invariant

pub returns : goal.returns
returns c =
    let held = c.args.held.now in
    map_whole number_of (λ e. e.name.0) c.loop-entry.names.items held c.loop-entry.entry-index c.loop-entry-test.false c.loop-entry.invariant ∙ map_both (λ h. h.name) held_of held
