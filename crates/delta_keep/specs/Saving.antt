-- What is answered where a kept state is written.
use Rattle.std.specs.Prelude.{ℕ, ◌≡◌, ◌<◌, ◌≤◌, ⊤, Result, Ok, Err, List, length}
use Rattle.kept_state.specs.KeptBytes.{most_bytes}
use Rattle.delta_keep.specs.declared.refusal.SaveRefusal.{SaveRefusal}
use Rattle.delta_keep.specs.declared.refusal.SaveRefusal.TheVariants.{Memory, Large}

-- bytes are answered where there aren't too many of them, and else their number is told. Nothing is said of want of
-- memory
abbrev pub TellsLarge : {V : Type 0} → List ℕ → Result V SaveRefusal → Type 0
TellsLarge bytes (Ok v) = length bytes ≤ most_bytes
TellsLarge bytes (Err Memory) = ⊤
TellsLarge bytes (Err (Large n)) = (n ≡ length bytes) × (most_bytes < n)
