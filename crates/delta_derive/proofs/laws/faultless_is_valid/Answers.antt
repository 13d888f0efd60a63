-- The claims are written one after another.
use Rattle.delta_derive.proofs.Texts.{faultless_is_valid}
use Rattle.delta_derive.proofs.laws.faultless_is_valid.Goals as goal

pub returns : goal.returns
returns c = faultless_is_valid
