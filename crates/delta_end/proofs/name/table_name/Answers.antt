use Rattle.std.proofs.Common.{refl}
use Rattle.delta_end.proofs.name.table_name.Goals as goal

pub returns-in-Shape : goal.returns-in-Shape
returns-in-Shape c = rw c.in-Shape.is refl

pub returns-in-Long : goal.returns-in-Long
returns-in-Long c = rw c.in-Long.is refl

pub returns-in-Ragged : goal.returns-in-Ragged
returns-in-Ragged c = rw c.in-Ragged.is refl

pub returns-in-BadNumber : goal.returns-in-BadNumber
returns-in-BadNumber c = rw c.in-BadNumber.is refl
