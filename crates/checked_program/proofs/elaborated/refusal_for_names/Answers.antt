-- What is wrong with names is told of the text.
use Rattle.std.proofs.Common.{◌∙◌, inr, sym}
use Rattle.checked_program.proofs.Refusing.{misnamed}
use Rattle.checked_program.proofs.elaborated.refusal_for_names.Goals as goal

pub returns-in-Some : goal.returns-in-Some
returns-in-Some c text p is found = inr (misnamed text p _ c.in-Some.why is found (sym c.in-Some.is ∙ c.refusal_of.ensures))
