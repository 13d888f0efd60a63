use Rattle.event_word.proofs.Reaches.{canon_within_reach}
use Rattle.event_word.proofs.laws.canon_is_within.Goals as goal

pub returns : goal.returns
returns c = λ s p h. canon_within_reach s p h
