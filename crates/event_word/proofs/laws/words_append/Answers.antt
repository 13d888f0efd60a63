use Rattle.event_word.proofs.Words.{word_front, word_back, word_join}
use Rattle.event_word.proofs.laws.words_append.Goals as goal

pub returns : goal.returns
returns c = λ s v w. (λ h. (word_front s v w h, word_back s v w h), λ h. word_join s v w h.0 h.1)
