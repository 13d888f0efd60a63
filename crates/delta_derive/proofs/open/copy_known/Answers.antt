-- One copy more.
use Rattle.std.proofs.Common.{◌≡◌, ◌∙◌, ◌+◌, ◌∷◌, [], ◌++◌, take, ap}
use Rattle.std.proofs.lemmas.List.{take_all}
use Rattle.hist_value.specs.HistType.{hist_type_of}
use Rattle.hist_value.specs.Environment.{typed_entries_of}
use Rattle.delta_derive.proofs.HandedOn.{there}
use Rattle.delta_derive.proofs.KnownNames.{copied-next}
use Rattle.delta_derive.proofs.open.copy_known.Goals as goal

pub loop-entry-preserved : goal.loop-entry-preserved
loop-entry-preserved c =
    there c.copy_type.result (λ t. hist_type_of t ≡ hist_type_of c.entry-item.result.1) (λ t. c.put_entry.new.known.items ≡ c.loop-entry.copies.items ++ (c.entry-item.result.0, t) ∷ [])
    (typed_entries_of c.put_entry.new.known.items ≡ typed_entries_of (take (c.loop-entry.entry-index + 1) c.args.known.now)) c.copy_type.ensures c.in-Ok.ensures
    (λ t same is. ap typed_entries_of is ∙ copied-next c.args.known.now c.loop-entry.copies.items c.loop-entry.entry-index c.entry-item.result t c.loop-entry-test.true c.entry-item.is same c.loop-entry.invariant)
