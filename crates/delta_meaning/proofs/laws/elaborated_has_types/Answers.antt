-- What a program elaborates to has the program's types.
use Rattle.delta_meaning.proofs.KeptTypes.{elaborated_has_types}
use Rattle.delta_meaning.proofs.laws.elaborated_has_types.Goals as goal

pub returns : goal.returns
returns c = elaborated_has_types
