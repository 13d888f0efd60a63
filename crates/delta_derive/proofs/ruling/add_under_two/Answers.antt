-- Both names are hidden, and the part stands in its place.
use Rattle.std.proofs.Common.{◌∷◌, []}
use Rattle.std.specs.Prelude.{Some}
use Rattle.stream_type.specs.StreamType.{type_of}
use Rattle.bunch.specs.BunchTree.{tree_of}
use Rattle.hist_value.specs.Environment.{types_of}
use Rattle.core_term.specs.CoreTerm.{term_of}
use Rattle.bunch_rules.specs.Derivation.{hidden}
use Rattle.delta_derive.specs.Rearranged.{with_leaf}
use Rattle.delta_derive.specs.Claims.{claim}
use Rattle.delta_derive.specs.OpenTerms.{Adds}
use Rattle.delta_derive.proofs.HandedOn.{passed_on}
use Rattle.delta_derive.proofs.ruling.add_under_two.Goals as goal

pub returns : goal.returns
returns c =
    passed_on c.args.part c.with_leaf-bunch.result c.add_hidden_two.result (λ g. tree_of g.value) (λ w. with_leaf c.args.z.0 (tree_of w.value) (tree_of c.args.aim.now.bunch))
    (λ g valid. Adds (Some (claim (hidden c.args.y.0 (hidden c.args.x.0 (types_of c.args.aim.now.known.items))) g (term_of c.args.a.now) (type_of c.args.aim.now.result.now) ∷ [])) c.args.parts.now.items c.add_hidden_two.new.parts.items valid)
    c.with_leaf-bunch.ensures c.add_hidden_two.ensures
