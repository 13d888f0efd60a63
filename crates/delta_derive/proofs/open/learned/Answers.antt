-- The new name comes last.
use Rattle.std.proofs.Common.{◌≡◌, ◌∙◌, ◌∷◌, [], ◌++◌, ap}
use Rattle.stream_type.specs.StreamType.{type_of}
use Rattle.hist_value.specs.HistType.{hist_type_of, past}
use Rattle.hist_value.specs.Environment.{types_of, typed_entries_of}
use Rattle.bunch_rules.specs.Derivation.{learned}
use Rattle.delta_derive.proofs.HandedOn.{made_of}
use Rattle.delta_derive.proofs.KnownNames.{learned-more}
use Rattle.delta_derive.proofs.open.learned.Goals as goal

pub returns : goal.returns
returns c =
    made_of c.copy_known.result c.past.result c.with_entry.result (λ k. typed_entries_of k.items ≡ typed_entries_of c.args.known.now) (λ t. hist_type_of t ≡ past (type_of c.args.t.now)) (λ k t v. v.items ≡ k.items ++ (c.args.x, t) ∷ [])
    (λ v. types_of v.items ≡ learned c.args.x.0 (type_of c.args.t.now) (types_of c.args.known.now)) c.copy_known.ensures c.past.ensures c.with_entry.ensures
    (λ k t v same typed is. ap types_of is ∙ learned-more c.args.x t (type_of c.args.t.now) c.args.known.now k.items same typed)
