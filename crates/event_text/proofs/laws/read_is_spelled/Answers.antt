-- The law, as its two lemmas state it.
use Rattle.event_text.proofs.Spelled.{read_is_spelled}
use Rattle.event_text.proofs.LineLaws.{spelled_is_read}
use Rattle.event_text.proofs.laws.read_is_spelled.Goals as goal

pub returns : goal.returns
returns c line x = (λ e. read_is_spelled line x e, λ h. spelled_is_read line x h.0 h.1)
