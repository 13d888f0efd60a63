use Rattle.learned_steps.proofs.ShapesGo.{shapes_go}
use Rattle.learned_steps.proofs.laws.shapes_go.Goals as goal

pub returns : goal.returns
returns c = shapes_go
