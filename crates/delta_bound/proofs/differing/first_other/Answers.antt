-- Past the end of the numbers after them there is none that differs.
use Rattle.std.proofs.Common.{◌∙◌, ◌≤◌, length, sym}
use Rattle.delta_bound.proofs.Others.{other-end, past_end}
use Rattle.delta_bound.proofs.differing.first_other.Goals as goal

pub returns-in-None : goal.returns-in-None
returns-in-None c =
    let past : length c.args.next.now ≤ c.loop-f.f = past_end c.args.next.now c.loop-f.f c.get.result c.get.ensures.lookup c.in-None.is in
    sym (other-end c.args.numbers.now c.args.next.now c.loop-f.f past) ∙ c.loop-f.invariant
