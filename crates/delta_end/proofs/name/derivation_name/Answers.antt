use Rattle.std.proofs.Common.{refl}
use Rattle.delta_end.proofs.name.derivation_name.Goals as goal

pub returns-in-LongText : goal.returns-in-LongText
returns-in-LongText c = rw c.in-LongText.is refl

pub returns-in-BadLine : goal.returns-in-BadLine
returns-in-BadLine c = rw c.in-BadLine.is refl

pub returns-in-BadStep : goal.returns-in-BadStep
returns-in-BadStep c = rw c.in-BadStep.is refl

pub returns-in-BadRule : goal.returns-in-BadRule
returns-in-BadRule c = rw c.in-BadRule.is refl

pub returns-in-Short : goal.returns-in-Short
returns-in-Short c = rw c.in-Short.is refl

pub returns-in-Long : goal.returns-in-Long
returns-in-Long c = rw c.in-Long.is refl
