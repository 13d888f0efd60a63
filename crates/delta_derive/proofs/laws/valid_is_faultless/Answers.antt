-- By induction on what the lines write.
use Rattle.delta_derive.proofs.Texts.{valid_is_faultless}
use Rattle.delta_derive.proofs.laws.valid_is_faultless.Goals as goal

pub returns : goal.returns
returns c = valid_is_faultless
