use Rattle.std.proofs.Common.{◌++◌, take, ◌∙◌}
use Rattle.delta_end.proofs.Growing.{grows_more, split_more}
use Rattle.delta_end.proofs.telling.say.Goals as goal

pub loop-rest-preserved : goal.loop-rest-preserved
loop-rest-preserved g c =
    let so_far = c.loop-rest.invariant.0 in (
      (
        so_far.0 ++ take c.in-Ok.count c.loop-rest.rest.now,
        split_more _ so_far.0 c.loop-rest.rest.now c.in-Ok.count so_far.1,
        grows_more _ _ _ so_far.0 _ so_far.2 c.in-Ok.ensures.told,
      ),
      c.in-Ok.ensures.cause ∙ c.loop-rest.invariant.1,
    )
