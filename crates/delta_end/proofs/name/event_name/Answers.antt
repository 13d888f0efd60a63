use Rattle.std.proofs.Common.{refl}
use Rattle.delta_end.proofs.name.event_name.Goals as goal

pub returns-in-Ended : goal.returns-in-Ended
returns-in-Ended c = rw c.in-Ended.is refl

pub returns-in-WrongStep : goal.returns-in-WrongStep
returns-in-WrongStep c = rw c.in-WrongStep.is refl

pub returns-in-WrongLeaf : goal.returns-in-WrongLeaf
returns-in-WrongLeaf c = rw c.in-WrongLeaf.is refl

pub returns-in-EarlyCut : goal.returns-in-EarlyCut
returns-in-EarlyCut c = rw c.in-EarlyCut.is refl
