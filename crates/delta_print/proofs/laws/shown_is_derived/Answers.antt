-- By induction on the tree.
use Rattle.delta_print.proofs.DerivedPrograms.{shown_is_derived}
use Rattle.delta_print.proofs.laws.shown_is_derived.Goals as goal

pub returns : goal.returns
returns c = shown_is_derived
