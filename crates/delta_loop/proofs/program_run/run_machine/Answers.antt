use Rattle.delta_loop.proofs.Opening.{ran_nothing, still_fresh}
use Rattle.delta_loop.proofs.program_run.run_machine.Goals as goal

-- the room is there before the call that writes
pub run_with-requires-clause-room : goal.run_with-requires-clause-room
run_with-requires-clause-room g c =
    still_fresh c.new-reader.result c.reserve.new.self c.new-reader.ensures.reads c.new-reader.ensures.version c.new-reader.ensures.kept c.reserve.ensures.same c.in-Ok.ensures.ok

pub returns-clause-ran : goal.returns-clause-ran
returns-clause-ran g c P begun = ran_nothing g.M.Stepper.stands P _ _ _
