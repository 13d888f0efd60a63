-- A program whose body is inert gives nothing before anything has come.
use Rattle.core_term.proofs.InertRuns.{inert_main_gives_nothing}
use Rattle.core_term.proofs.laws.inert_main_gives_nothing.Goals as goal

pub returns : goal.returns
returns c = inert_main_gives_nothing
