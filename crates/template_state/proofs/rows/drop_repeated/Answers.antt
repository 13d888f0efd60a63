-- What is bound gives its mark at once.
use Rattle.std.proofs.Common.{rules}
use Rattle.template_state.proofs.Repeating.{repeating}
use Rattle.template_state.proofs.rows.drop_repeated.Goals as goal

pub returns-then-state_marks_at_once : goal.returns-then-state_marks_at_once
returns-then-state_marks_at_once c = search (rules, repeating)
