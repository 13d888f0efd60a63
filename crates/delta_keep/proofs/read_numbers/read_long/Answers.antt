-- What stands behind starts where it is left.
use Rattle.std.proofs.Common.{[], ◌∷◌}
use Rattle.kept_state.specs.KeptForm.{any}
use Rattle.kept_state.specs.KeptBytes.{long_bytes}
use Rattle.kept_state.specs.KeptSizes.{FitsLong}
use Rattle.delta_keep.proofs.Placing.{placed_read}
use Rattle.delta_keep.proofs.read_numbers.read_long.Goals as goal

pub returns : goal.returns
returns c = record { reads = placed_read (any 8 ∷ []) c.args.start c.args.bytes.now (λ s. s.now) (λ n. long_bytes n) (λ n. FitsLong n) c.long_of.result c.placed.result c.placed.ensures (rw c.unread.ensures at c.long_of.ensures.reads) }
