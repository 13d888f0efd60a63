-- There are fewer to put.
use Rattle.step_learning.proofs.apart.+add_spread.Given as goal

abbrev pub decreases-add_spread : goal.decreases-add_spread
decreases-add_spread l = l.count
