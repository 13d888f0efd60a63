-- What it is for a shape to be laid on what it may be the shape of, part by part: registers are found on the way, and
-- the answer is whether it fits so far.
use Rattle.std.specs.Prelude.{Bool, true, ◌≡◌, Result, Ok}
use Rattle.stream_type.specs.declared.memory.Memory.{Memory}
use Rattle.state_shapes.specs.RegisterLists.{RegisterLists, IsParallel, Longer}

-- With the answer of the parts before: registers are only found behind those that were. Where the answer is yes, it was
-- yes before, and this holds of all registers that are longer.
pub record Goes (before : Result Bool Memory) (old new : RegisterLists) (answer : Result Bool Memory) (Holds : RegisterLists → Type 0) : Type 0 where
  pub grown : Longer old new
  pub went : IsParallel old → answer ≡ Ok true → before ≡ Ok true
  pub holds : IsParallel old → answer ≡ Ok true → (l : RegisterLists) → Longer new l → Holds l
