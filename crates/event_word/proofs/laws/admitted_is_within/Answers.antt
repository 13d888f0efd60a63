use Rattle.event_word.proofs.Reaches.{admitted_within}
use Rattle.event_word.proofs.laws.admitted_is_within.Goals as goal

pub returns : goal.returns
returns c = λ s x h. admitted_within s x h
