use Rattle.learned_steps.proofs.ShapesGo.{shapes_go_since}
use Rattle.learned_steps.proofs.laws.shapes_go_since.Goals as goal

pub returns : goal.returns
returns c = shapes_go_since
