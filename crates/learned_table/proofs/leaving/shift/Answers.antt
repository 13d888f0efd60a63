-- Where no depth is left beside one that was learned, a depth stays.
use Rattle.std.proofs.Common.{rules, ◌≡◌, length, drop, sym, ◌∙◌}
use Rattle.learned_table.proofs.Shifting.{shift-none}
use Rattle.learned_table.proofs.leaving.shift.Goals as goal

pub returns-in_default : goal.returns-in_default
returns-in_default c =
    let none : length c.loop-b.others.now ≡ 0 = search rules in
    sym (shift-none (drop c.loop-b.b-index c.args.learned.now) c.loop-b.others.now c.args.far c.args.depth none) ∙ c.loop-b.invariant
