-- All of the state goes on.
use Rattle.delta_code.proofs.beside.step_whole.Goals as goal

pub returns : goal.returns
returns c =
    let told = c.step_awaiting-told.ensures in
    c.settled.ensures _ _ _ _ (record { run = told.run; rest = told.rest; counted = told.counted; shallow = told.shallow; spent = told.spent; deep = told.deep })
