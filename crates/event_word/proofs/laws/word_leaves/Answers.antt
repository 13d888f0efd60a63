use Rattle.event_word.proofs.Words.{after_word-pre}
use Rattle.event_word.proofs.laws.word_leaves.Goals as goal

pub returns : goal.returns
returns c = λ s w h. after_word-pre s w h
