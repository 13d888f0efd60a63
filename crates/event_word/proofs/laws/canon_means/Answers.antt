use Rattle.event_word.proofs.Spelling.{pre-canon}
use Rattle.event_word.proofs.laws.canon_means.Goals as goal

pub returns : goal.returns
returns c = λ s p h. pre-canon s p h
