-- The second waits for the end of the first.
use Rattle.std.proofs.Common.{◌∙◌}
use Rattle.delta_state.specs.StateTree.{cat_state}
use Rattle.delta_code.proofs.GoingOn.{turn_waits, lacks_as}
use Rattle.delta_code.proofs.states_done.waits_done.Goals as goal

pub returns-in-Ok : goal.returns-in-Ok
returns-in-Ok c x y s v u later n l h waits =
    turn_waits c.args.one c.stays.result x y s v u later n l waits (c.stays.ensures.told ∙ c.in-Ok.ensures) (c.stays.ensures.state (cat_state v later)) h

pub returns-in-Err : goal.returns-in-Err
returns-in-Err c x y s v u later n l h waits = lacks_as
