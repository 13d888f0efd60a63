-- One step more stands in front.
use Rattle.std.proofs.Common.{arith, ◌∙◌, sym}
use Rattle.event_frame.proofs.Fronts.{behind_more}
use Rattle.event_frame.proofs.front.behind_bytes.Goals as goal

pub loop-i-preserved : goal.loop-i-preserved
loop-i-preserved c =
    record {
      within = omega (arith, c.loop-i.invariant.within);
      so_far = behind_more c.args.steps.now c.loop-i.i c.in-Some.step c.args.event c.loop-i.longer c.in-Some-under.one_more
          (omega (arith, c.loop-i-test.true)) c.loop-i.invariant.within (sym c.step_of.ensures ∙ c.in-Some.is) c.loop-i.invariant.so_far
          c.in-Some-under.ensures.path c.in-Some-under.ensures.leaf;
    }
