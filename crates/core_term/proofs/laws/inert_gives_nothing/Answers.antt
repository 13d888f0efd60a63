-- An inert term gives nothing where nothing has come.
use Rattle.core_term.proofs.InertRuns.{inert_gives_nothing}
use Rattle.core_term.proofs.laws.inert_gives_nothing.Goals as goal

pub returns : goal.returns
returns c = inert_gives_nothing
