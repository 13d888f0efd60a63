-- The name, its type and what is held of it.
use Rattle.std.proofs.Common.{refl}
use Rattle.state_shapes.proofs.Growing.{goes_where}
use Rattle.state_shapes.proofs.SameForms.{held_same}
use Rattle.state_shapes.proofs.matching.entry_goes.Goals as goal

pub returns : goal.returns
returns c = goes_where _ refl c.prefix_goes.ensures (λ e x f. held_same (c.same_typed.ensures e) f)
