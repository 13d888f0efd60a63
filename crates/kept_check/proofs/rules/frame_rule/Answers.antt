-- The test is that of the parameters.
use Rattle.std.proofs.Common.{◌≡◌, ◌∙◌, sym}
use Rattle.core_term.specs.FreeNames.{is_distinct}
use Rattle.delta_state.specs.StateTree.{argument_names}
use Rattle.delta_keep.specs.KeptView.{arguments_from}
use Rattle.kept_check.proofs.rules.frame_rule.Goals as goal

pub returns : goal.returns
returns c =
    let test : c.are_distinct.result ≡ is_distinct (argument_names (arguments_from c.args.args.now)) = rw (c.deref.ensures.value, c.in_ok-names.ensures) at c.are_distinct.ensures in
    (λ t. sym test ∙ t, λ d. test ∙ d)
