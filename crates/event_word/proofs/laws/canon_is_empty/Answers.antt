use Rattle.event_word.proofs.Spelling.{canon-is-empty}
use Rattle.event_word.proofs.laws.canon_is_empty.Goals as goal

pub returns : goal.returns
returns c = λ s p h. canon-is-empty s p h
