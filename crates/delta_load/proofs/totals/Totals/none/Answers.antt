use Rattle.std.proofs.Common.{refl}
use Rattle.delta_load.proofs.totals.Totals.none.Goals as goal

pub returns : goal.returns
returns c = refl
