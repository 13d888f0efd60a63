-- The test tells whether the type that is left is that of the bunch.
use Rattle.std.proofs.Common.{◌∙◌, ap₂}
use Rattle.stream_type.specs.StreamType.{type_of}
use Rattle.core_term.specs.Parts.{is_same_type}
use Rattle.kept_check.proofs.Placed.{same_told}
use Rattle.kept_check.proofs.placing.is_declared.Goals as goal

pub returns : goal.returns
returns c =
    same_told c.same.result (type_of c.type_left.result.now) (type_of c.declared_type.result.now) c.same.ensures
    ∙ ap₂ is_same_type c.type_left.ensures c.declared_type.ensures
