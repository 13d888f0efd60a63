use Rattle.std.proofs.Common.{refl}
use Rattle.delta_end.proofs.name.line_name.Goals as goal

pub returns-in-BadWord : goal.returns-in-BadWord
returns-in-BadWord c = rw c.in-BadWord.is refl

pub returns-in-BigNumber : goal.returns-in-BigNumber
returns-in-BigNumber c = rw c.in-BigNumber.is refl

pub returns-in-LongPath : goal.returns-in-LongPath
returns-in-LongPath c = rw c.in-LongPath.is refl

pub returns-in-NoLeaf : goal.returns-in-NoLeaf
returns-in-NoLeaf c = rw c.in-NoLeaf.is refl

pub returns-in-Extra : goal.returns-in-Extra
returns-in-Extra c = rw c.in-Extra.is refl
