-- A null type is told.
use Rattle.std.proofs.Common.{rules}
use Rattle.delta_check.proofs.RuleForms.{subject_some}
use Rattle.delta_check.proofs.rules.null_rule.Goals as goal

pub returns-then-null : goal.returns-then-null
returns-then-null c = search (rules, subject_some)
