use Rattle.std.proofs.Common.{refl}
use Rattle.delta_end.proofs.name.frame_name.Goals as goal

pub returns-in-BadMagic : goal.returns-in-BadMagic
returns-in-BadMagic c = rw c.in-BadMagic.is refl

pub returns-in-LongPath : goal.returns-in-LongPath
returns-in-LongPath c = rw c.in-LongPath.is refl

pub returns-in-BadStep : goal.returns-in-BadStep
returns-in-BadStep c = rw c.in-BadStep.is refl

pub returns-in-BadLeaf : goal.returns-in-BadLeaf
returns-in-BadLeaf c = rw c.in-BadLeaf.is refl

pub returns-in-Truncated : goal.returns-in-Truncated
returns-in-Truncated c = rw c.in-Truncated.is refl
