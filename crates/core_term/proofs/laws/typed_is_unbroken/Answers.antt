-- No rule is broken just where a program is typed.
use Rattle.core_term.proofs.Unbroken.{typed_is_unbroken}
use Rattle.core_term.proofs.laws.typed_is_unbroken.Goals as goal

pub returns : goal.returns
returns c = typed_is_unbroken
