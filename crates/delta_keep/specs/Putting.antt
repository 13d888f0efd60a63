-- What it is to put out bytes behind others.
use Rattle.std.specs.Prelude.{ℕ, ◌≡◌, false, List, ◌++◌, length}
use Rattle.kept_state.specs.KeptSizes.{FitsShort}
use Rattle.delta_keep.specs.declared.output.Output.{Output}

-- where memory isn't refused after, it wasn't before, and these bytes stand behind what stood there
pub record Puts (old new : Output) (bytes : List ℕ) : Type 0 where
  pub begun : new.refused ≡ false → old.refused ≡ false
  pub put : new.refused ≡ false → new.bytes.items ≡ old.bytes.items ++ bytes

-- memory wasn't refused, and there are no more bytes than four bytes count. Each item of a list has a byte at least, so
-- all lists that were put out can be counted too
pub record IsCounted (o : Output) : Type 0 where
  pub whole : o.refused ≡ false
  pub few : FitsShort (length o.bytes.items)
