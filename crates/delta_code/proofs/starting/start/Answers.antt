-- Six facts of one.
use Rattle.delta_code.proofs.starting.start.Goals as goal

pub returns : goal.returns
returns c =
    let e = c.start_term.ensures in
    record { run = e.run; rest = e.rest; counted = e.counted; shallow = e.shallow; spent = e.spent; deep = e.deep }
