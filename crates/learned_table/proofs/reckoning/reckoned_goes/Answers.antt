-- A number, or a test.
use Rattle.std.proofs.Common.{refl, ap, sym, ◌∙◌, rules}
use Rattle.std.proofs.lemmas.Int.{to_z-of_z}
use Rattle.std.specs.Int.{w64}
use Rattle.hist_value.specs.HistValue.{number}
use Rattle.filled_states.specs.Registers.{number_at}
use Rattle.state_shapes.proofs.Growing.{goes_if, goes_so}
use Rattle.learned_table.specs.Reckoned.{reckoned_value}
use Rattle.learned_table.proofs.reckoning.reckoned_goes.Goals as goal

pub returns-in-Number : goal.returns-in-Number
returns-in-Number c =
    goes_so _ c.number_reckoned.ensures (λ x e. ap reckoned_value c.in-Number.is ∙ ap number (sym (to_z-of_z w64 c.in-Number.n (search rules))) ∙ e)

pub returns-in-Test : goal.returns-in-Test
returns-in-Test c = goes_if _ refl (λ e x longer. ap reckoned_value c.in-Test.is ∙ c.is_test.ensures (number_at x.keys x.numbers) e)
