-- The name is known, and its leaf is gone.
use Rattle.std.proofs.Common.{◌∷◌, []}
use Rattle.std.specs.Prelude.{Some}
use Rattle.stream_type.specs.StreamType.{type_of}
use Rattle.bunch.specs.BunchTree.{tree_of, empty}
use Rattle.hist_value.specs.Environment.{types_of}
use Rattle.core_term.specs.CoreTerm.{term_of}
use Rattle.bunch_rules.specs.Derivation.{learned}
use Rattle.delta_derive.specs.Rearranged.{with_leaf}
use Rattle.delta_derive.specs.Claims.{claim}
use Rattle.delta_derive.specs.OpenTerms.{Adds}
use Rattle.delta_derive.proofs.HandedOn.{given_two}
use Rattle.delta_derive.proofs.ruling.add_known.Goals as goal

pub returns : goal.returns
returns c =
    given_two c.learned-known.result c.without-bunch.result c.add.result (λ v. types_of v.items) (learned c.args.x.0 (type_of c.args.t.now) (types_of c.args.aim.now.known.items)) (λ g. tree_of g.value) (with_leaf c.args.x.0 empty (tree_of c.args.aim.now.bunch))
    (λ known g valid. Adds (Some (claim known g (term_of c.args.a.now) (type_of c.args.aim.now.result.now) ∷ [])) c.args.parts.now.items c.add.new.parts.items valid)
    (rw c.deref.ensures.value at c.learned-known.ensures) c.without-bunch.ensures c.add.ensures
