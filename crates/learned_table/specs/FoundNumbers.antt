-- The numbers that were found.
use Rattle.std.specs.Prelude.{ℤ}
use Rattle.filled_states.specs.Registers.{number_at}
use Rattle.state_shapes.specs.declared.found.Found.{Found}

-- the number that was found for a key
abbrev pub number_in : Found → ℤ → ℤ
number_in found = number_at found.keys.items found.numbers.items
