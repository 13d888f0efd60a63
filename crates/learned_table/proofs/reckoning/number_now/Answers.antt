-- The number of what was seen.
use Rattle.std.proofs.Common.{◌≡◌}
use Rattle.hist_value.specs.HistValue.{hist_value_of}
use Rattle.filled_states.specs.Registers.{number_at}
use Rattle.other_numbers.specs.Numbers.{exchanged_value}
use Rattle.state_shapes.specs.RegisterLists.{RegisterLists, Longer, lists_in}
use Rattle.learned_table.specs.Reckoned.{reckoned_value}
use Rattle.learned_table.proofs.ReckonedParts.{some_so, there}
use Rattle.learned_table.proofs.reckoning.number_now.Goals as goal

pub returns-in-Some : goal.returns-in-Some
returns-in-Some c =
    some_so _ c.key_now.ensures
    (λ r h. there (λ v. (x : RegisterLists) → Longer (lists_in c.args.found.now) x → exchanged_value (number_at x.keys x.numbers) (hist_value_of v.now) ≡ reckoned_value r) c.args.seen c.in-Some.v c.in-Some.is h)
