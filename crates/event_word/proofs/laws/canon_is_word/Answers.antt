use Rattle.event_word.proofs.Spelling.{canon_is_word}
use Rattle.event_word.proofs.laws.canon_is_word.Goals as goal

pub returns : goal.returns
returns c = λ s p h. canon_is_word s p h
