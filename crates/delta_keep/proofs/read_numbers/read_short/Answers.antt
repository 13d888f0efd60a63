-- What stands behind starts where it is left.
use Rattle.std.proofs.Common.{[], ◌∷◌}
use Rattle.kept_state.specs.KeptForm.{any}
use Rattle.kept_state.specs.KeptBytes.{short_bytes}
use Rattle.kept_state.specs.KeptSizes.{FitsShort}
use Rattle.delta_keep.proofs.Placing.{placed_read}
use Rattle.delta_keep.proofs.read_numbers.read_short.Goals as goal

pub returns : goal.returns
returns c = record { reads = placed_read (any 4 ∷ []) c.args.start c.args.bytes.now (λ s. s.now) (λ n. short_bytes n) (λ n. FitsShort n) c.short_of.result c.placed.result c.placed.ensures (rw c.unread.ensures at c.short_of.ensures.reads) }
