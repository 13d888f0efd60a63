use Rattle.event_word.proofs.Walks.{no_fault_is_admitted}
use Rattle.event_word.proofs.laws.no_fault_is_admitted.Goals as goal

pub returns : goal.returns
returns c = λ s x. no_fault_is_admitted s x
