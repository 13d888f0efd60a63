use Rattle.std.proofs.Common.{refl}
use Rattle.event_word.proofs.Words.{one_of_is_prefix}
use Rattle.event_word.proofs.laws.one_is_prefix.Goals as goal

pub returns : goal.returns
returns c = λ s x h. (one_of_is_prefix s x h, refl)
