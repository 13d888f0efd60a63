use Rattle.delta_parse.proofs.OneAnswer.{tree_is_one}
use Rattle.delta_parse.proofs.laws.tree_is_one.Goals as goal

pub returns : goal.returns
returns c = tree_is_one
