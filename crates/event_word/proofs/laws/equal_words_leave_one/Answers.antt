use Rattle.event_word.proofs.Words.{after_word-same}
use Rattle.event_word.proofs.laws.equal_words_leave_one.Goals as goal

pub returns : goal.returns
returns c = λ s v w h k e. after_word-same s v w h k e
