-- Of equal parts calls are equal.
use Rattle.std.proofs.Common.{rules}
use Rattle.delta_meaning.proofs.answers.is_call.Goals as goal

pub returns-then-are_same_values : goal.returns-then-are_same_values
returns-then-are_same_values c =
    search rules
