-- The path is the same, and the leaf is laid.
use Rattle.std.proofs.Common.{◌≡◌, sym, subst, rules, ◌∙◌}
use denote.Enum.Bare.{same_true}
use Rattle.event_word.specs.contracts.event.Step.{the_type}
use Rattle.other_numbers.specs.EventNumbers.{exchanged_leaf}
use Rattle.filled_states.specs.Registers.{number_at}
use Rattle.state_shapes.specs.RegisterLists.{lists_in}
use Rattle.state_shapes.proofs.Growing.{says_no, longer_still, goes_so}
use Rattle.learned_table.proofs.LaidParts.{event_with, same_path}
use Rattle.learned_table.proofs.laying.event_goes.Goals as goal

pub returns-else-eq : goal.returns-else-eq
returns-else-eq c = says_no (longer_still (lists_in c.args.found.now))

pub returns-then-eq : goal.returns-then-eq
returns-then-eq c =
    let same : c.path.result.now ≡ c.path-2.result.now = same_path _ _ c.if-eq.ensures (λ a b k. same_true the_type (search rules) a b k) in
    goes_so _ c.leaf_goes.ensures
    (λ x e. event_with _ c.args.learned.now c.args.x.now (sym c.path.ensures.steps ∙ same ∙ c.path-2.ensures.steps)
    (subst (λ l. exchanged_leaf (number_at x.keys x.numbers) l ≡ c.args.x.now.leaf) c.leaf.ensures (e ∙ c.leaf-then-eq.ensures)))
