-- What a program elaborates to keeps what a core does.
use Rattle.delta_meaning.proofs.BoundOnce.{elaborated_is_core}
use Rattle.delta_meaning.proofs.laws.elaborated_is_core.Goals as goal

pub returns : goal.returns
returns c = elaborated_is_core
