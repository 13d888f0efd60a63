-- Each argument in turn.
use Rattle.std.proofs.Common.{ap, ap₂, nat_lt, subst}
use Rattle.std.proofs.lemmas.Result.{IfOk-weaker}
use Rattle.delta_words.specs.ClapCommand.{Make, with_rule_if}
use Rattle.delta_words.proofs.ClapArguments.{made_none}
use Rattle.delta_words.proofs.parser.arguments.Goals as goal

pub returns : goal.returns
returns c bare =
    let takes = c.args.takes in
    let first = ap (with_rule_if (nat_lt 0 takes.operands) bare) c.operand-first.ensures.rule in
    let second = ap₂ (with_rule_if (nat_lt 1 takes.operands)) first c.operand-second.ensures.rule in
    let rest = ap₂ (with_rule_if (nat_lt 2 takes.most)) second c.operand-rest.ensures.rule in
    let budget = ap₂ (with_rule_if takes.budget) rest c.option-budget.ensures.rule in
    let v2 = ap₂ (with_rule_if takes.v2) budget c.option-v2.ensures.rule in
    let same = ap₂ (with_rule_if takes.frames) v2 c.option-frames.ensures.rule in
    IfOk-weaker c.with_arg_if.result _ _ (λ args h. subst (Make bare args.items) same h)
    (c.with_arg_if.ensures bare _ (c.with_arg_if-with_v2.ensures bare _ (c.with_arg_if-with_budget.ensures bare _ (c.with_arg_if-all.ensures bare _
    (c.with_arg_if-two.ensures bare _ (c.with_arg_if-one.ensures bare bare (made_none bare _ c.new.ensures.items)))))))
