-- What it is for a shape to lie on a state with registers, some of each.
use Rattle.std.specs.Prelude.{◌≡◌, ◌<◌, Bool, true, List, ◌++◌, length, Result, Ok}
use Rattle.stream_type.specs.declared.memory.Memory.{Memory}
use Rattle.delta_state.specs.StateTree.{StateTree}
use Rattle.state_shapes.specs.RegisterLists.{RegisterLists, IsParallel, Longer}
use Rattle.state_shapes.specs.From.{state_from}

-- filled from them it is the state
pub record Lies (shape state : StateTree) (l : RegisterLists) : Type 0 where
  pub are_parallel : IsParallel l
  pub some_numbers : 0 < length l.numbers
  pub some_depths : 0 < length l.depths
  pub is_state : state ≡ state_from l shape

-- keys and values with as many of each behind them; there is a value then
pub record SomeBeside {A : Type 0} (keys values keys_then values_then : List A) : Type 0 where
  pub more_keys : List A
  pub more : List A
  pub are_beside : length more_keys ≡ length more
  pub then_keys : keys_then ≡ keys ++ more_keys
  pub then_values : values_then ≡ values ++ more
  pub is_some : 0 < length values_then

-- registers with more behind them, some of each, where it went on
pub record SomeMore (before : Result Bool Memory) (l m : RegisterLists) : Type 0 where
  pub went : before ≡ Ok true
  pub longer : Longer l m
  pub some_numbers : 0 < length m.numbers
  pub some_depths : 0 < length m.depths
