-- A run that was stopped tells the event.
use Rattle.std.proofs.Common.{inl, inr, rules}
use Rattle.commands.proofs.tables_run.text_of_word.Goals as goal

pub returns-in-Err-Budget-clause-ended : goal.returns-in-Err-Budget-clause-ended
returns-in-Err-Budget-clause-ended g c = inr (inl (c.in-Err-Budget.at, search rules, c.in-Err-Budget.ensures.costly c.in-Err-Budget.at (search rules)))

pub returns-clause-ended : goal.returns-clause-ended
returns-clause-ended g c = inr (inr (c.in-Err-Deep.at, search rules, c.in-Err-Deep.ensures.deep c.in-Err-Deep.at (search rules)))
