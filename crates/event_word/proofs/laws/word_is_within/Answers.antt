use Rattle.event_word.proofs.Reaches.{word_within}
use Rattle.event_word.proofs.laws.word_is_within.Goals as goal

pub returns : goal.returns
returns c = λ s w h. word_within s w h
