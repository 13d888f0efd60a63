-- By induction on the tree.
use Rattle.delta_print.proofs.DerivedPrograms.{canonical_is_derived}
use Rattle.delta_print.proofs.laws.canonical_is_derived.Goals as goal

pub returns : goal.returns
returns c = canonical_is_derived
