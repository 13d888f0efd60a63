-- The numbers of the causes are those of the rules.
use Rattle.delta_check.proofs.RuleForms.{lower_then, lower_else}
use Rattle.delta_check.proofs.rules.lowest.Goals as goal

pub returns-then-number : goal.returns-then-number
returns-then-number c = λ p q h k.
    lower_then c.in-Some-Some.a c.in-Some-Some.b p q c.args.a c.args.b c.number-in-Some-Some.result c.number.result c.in-Some-Some.is-0 c.in-Some-Some.is-1 h k c.number-in-Some-Some.ensures c.number.ensures
    c.if-number.true

pub returns-else-number : goal.returns-else-number
returns-else-number c = λ p q h k.
    lower_else c.in-Some-Some.a c.in-Some-Some.b p q c.args.a c.args.b c.number-in-Some-Some.result c.number.result c.in-Some-Some.is-0 c.in-Some-Some.is-1 h k c.number-in-Some-Some.ensures c.number.ensures
    c.if-number.false
