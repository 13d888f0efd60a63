-- Where something comes on two names nothing is told.
use Rattle.delta_code.proofs.touched.either.Goals as goal

pub returns-in-One-other : goal.returns-in-One-other
returns-in-One-other c entries more h k = tt
