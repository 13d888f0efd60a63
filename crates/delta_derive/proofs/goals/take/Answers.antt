-- What a rule leaves is put in front.
use Rattle.core_term.specs.CoreTerm.{core_of}
use Rattle.delta_check.specs.Counting.{counts_in}
use Rattle.bunch_rules.specs.Written.{plain_rule, rule_at}
use Rattle.std.proofs.Common.{map}
use Rattle.delta_derive.specs.LineText.{turn_of}
use Rattle.delta_derive.specs.OpenTerms.{claim_of}
use Rattle.delta_derive.specs.FirstFault.{after}
use Rattle.delta_derive.proofs.InFront.{put_first}
use Rattle.delta_derive.proofs.goals.take.Goals as goal

pub returns-in-Rule : goal.returns-in-Rule
returns-in-Rule c =
    let funs = (core_of c.args.c.now).funs in
    rw c.in-Rule.is
    (put_first c.add_parts-added.result c.put_in_front.result (after funs (counts_in funs c.args.marks.now) plain_rule (claim_of c.args.aim)) c.new-parts.result.items c.add_parts-added.new.parts.items c.args.goals.now.items c.put_in_front.new.goals.items
    c.new-parts.ensures.items c.add_parts-added.ensures c.put_in_front.ensures.moved c.put_in_front.ensures.said)

pub returns-in-RuleAt : goal.returns-in-RuleAt
returns-in-RuleAt c =
    let funs = (core_of c.args.c.now).funs in
    rw c.in-RuleAt.is
    (put_first c.add_parts_by-added.result c.put_in_front-in-RuleAt.result (after funs (counts_in funs c.args.marks.now) (rule_at (map turn_of c.in-RuleAt.path.items)) (claim_of c.args.aim)) c.new-parts-in-RuleAt.result.items c.add_parts_by-added.new.parts.items c.args.goals.now.items c.put_in_front-in-RuleAt.new.goals.items
    c.new-parts-in-RuleAt.ensures.items (rw c.deref.ensures.value at c.add_parts_by-added.ensures) c.put_in_front-in-RuleAt.ensures.moved c.put_in_front-in-RuleAt.ensures.said)
