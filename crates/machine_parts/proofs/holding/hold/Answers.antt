-- One entry more goes on.
use Rattle.std.proofs.Common.{◌≡◌, ◌<◌, ◌∙◌, ap, sym, map, length, subst, slice_index_or, slice_set}
use Rattle.std.proofs.lemmas.List.{map-set, length-map}
use Rattle.std.proofs.Math.ListN.{get_or-map}
use Rattle.std.proofs.lemmas.List.Edits.{map_over_more}
use Rattle.stream_prefix.specs.StreamPrefix.{join}
use Rattle.delta_state.specs.StateTree.{HeldName}
use Rattle.machine_parts.specs.Entry.{entry_in}
use Rattle.machine_parts.specs.Scope.{streams_in}
use Rattle.machine_parts.proofs.holding.hold.Goals as goal

pub loop-entry-preserved : goal.loop-entry-preserved
loop-entry-preserved c =
    let es = c.loop-entry.held in
    let i = c.loop-entry.entry-index in
    let old = map entry_in c.args.held.now in
    let gone_on : HeldName → HeldName = λ h. record { name = h.name; type = h.type; prefix = join h.prefix (streams_in c.args.scope.now h.name) } in
    let inside : i < length old = rw (length-map c.args.held.now entry_in) c.loop-entry-test.true in
    let was = slice_index_or es i c.entry-item.result in
    let is : was ≡ slice_index_or es i was = subst (λ e. e ≡ slice_index_or es i e) c.entry-item.is c.entry-item.is in
    map-set entry_in es i c.hold_one.new.entry
    ∙ ap (λ h. slice_set (map entry_in es) i h) c.in_ok-hold_one.ensures
    ∙ map_over_more gone_on old (map entry_in es) i (entry_in was) inside c.loop-entry.invariant (ap entry_in is ∙ sym (get_or-map entry_in es i was))
