-- What is said of the program is said of each text whose program it is.
use Rattle.checked_program.proofs.acceptance.with_core.Goals as goal

pub returns-in-Err-clause-refused : goal.returns-in-Err-clause-refused
returns-in-Err-clause-refused c text is = c.refusal_for.ensures text _ is c.in-Err.ensures.refused
