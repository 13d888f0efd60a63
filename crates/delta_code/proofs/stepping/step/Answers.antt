-- Six facts of one.
use Rattle.delta_code.proofs.stepping.step.Goals as goal

pub returns : goal.returns
returns c =
    let e = c.step_state.ensures in
    record { run = e.run; rest = e.rest; counted = e.counted; shallow = e.shallow; spent = e.spent; deep = e.deep }
