use Rattle.kept_state.proofs.TypedShapes.{typed_is_shaped}
use Rattle.kept_state.proofs.laws.typed_is_shaped.Goals as goal

pub returns : goal.returns
returns c = typed_is_shaped
