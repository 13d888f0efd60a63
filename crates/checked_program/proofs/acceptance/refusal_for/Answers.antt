-- What is said of a broken rule is said of the program, and what is wrong with names and types is told as it is found.
use Rattle.std.proofs.Common.{rules, subst}
use Rattle.delta_elab.specs.declared.fault.ProgramFault.{ProgramFault}
use Rattle.delta_elab.specs.Accepted.{SaysWhy}
use Rattle.checked_program.proofs.acceptance.refusal_for.Goals as goal

pub returns-in-Type : goal.returns-in-Type
returns-in-Type c text p is says = c.refusal_for_rule.ensures text p is (subst (λ (f : ProgramFault). SaysWhy p f) c.in-Type.is says)

pub returns-in-Some : goal.returns-in-Some
returns-in-Some c = search rules
