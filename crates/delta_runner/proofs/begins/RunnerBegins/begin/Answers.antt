-- A session's runner begins as it did.
use Rattle.delta_runner.proofs.begins.RunnerBegins.begin.Goals as goal

pub returns-clause-begun : goal.returns-clause-begun
returns-clause-begun g c = c.begin.ensures.begun

pub returns-clause-stopped : goal.returns-clause-stopped
returns-clause-stopped g c = c.begin.ensures.stopped
