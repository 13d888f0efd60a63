use Rattle.delta_load.proofs.Loads.{fits_load}
use Rattle.delta_load.proofs.laws.core_fits_load.Goals as goal

pub returns : goal.returns
returns c = fits_load
