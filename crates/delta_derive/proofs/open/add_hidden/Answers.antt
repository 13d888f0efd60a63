-- The names are those where one is hidden.
use Rattle.std.proofs.Common.{◌∷◌, []}
use Rattle.std.specs.Prelude.{Some, IsOkAnd}
use Rattle.stream_type.specs.StreamType.{type_of}
use Rattle.bunch.specs.BunchTree.{tree_of}
use Rattle.hist_value.specs.Environment.{types_of}
use Rattle.core_term.specs.CoreTerm.{term_of}
use Rattle.bunch_rules.specs.Derivation.{hidden}
use Rattle.delta_derive.specs.Claims.{claim}
use Rattle.delta_derive.specs.OpenTerms.{Adds}
use Rattle.delta_derive.proofs.HandedOn.{given}
use Rattle.delta_derive.proofs.open.add_hidden.Goals as goal

pub returns : goal.returns
returns c =
    given c.hidden-known.result c.add.result (λ v. types_of v.items) (hidden c.args.x.0 (types_of c.args.aim.now.known.items))
    (λ known valid. IsOkAnd c.args.bunch (λ g. Adds (Some (claim known (tree_of g.value) (term_of c.args.node.now) (type_of c.args.aim.now.result.now) ∷ [])) c.args.parts.now.items c.add.new.parts.items valid))
    (rw c.deref.ensures.value at c.hidden-known.ensures) c.add.ensures
