use Rattle.kept_state.proofs.TypedShapes.{typed_one_spelling}
use Rattle.kept_state.proofs.laws.typed_one_spelling.Goals as goal

pub returns : goal.returns
returns c = typed_one_spelling
