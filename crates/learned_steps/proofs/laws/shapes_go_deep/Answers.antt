use Rattle.learned_steps.proofs.ShapesGo.{shapes_go_deep}
use Rattle.learned_steps.proofs.laws.shapes_go_deep.Goals as goal

pub returns : goal.returns
returns c = shapes_go_deep
