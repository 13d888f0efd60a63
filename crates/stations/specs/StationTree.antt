-- Where a run may stand, whatever numbers and depths its state has.
use Rattle.std.specs.Prelude.{ℕ, ℤ, ◌≡◌, ◌<◌, List, length}
use Rattle.stream_type.specs.StreamType.{StreamType, type_of}
use Rattle.delta_state.specs.StateTree.{StateTree}
use Rattle.machine_parts.specs.AwaitedTree.{AwaitedTree, awaited_in}
use Rattle.template_state.specs.Readers.{state_in}
use Rattle.filled_states.specs.Shape.{Shape, filled}
use Rattle.stations.specs.declared.station.Station.{Station}

-- a shape, what is awaited of the input, and what is left of the types of the input and of the output
pub record StationTree : Type 0 where
  pub shape : Shape
  pub awaited : AwaitedTree
  pub input : StreamType
  pub output : StreamType

abbrev pub station_in : Station → StationTree
station_in s =
    record {
      shape = record { numbers = s.keys.items; depths = s.depth_keys.items; state = state_in s.shape.value };
      awaited = awaited_in s.awaited.value;
      input = type_of s.input.value;
      output = type_of s.output.value;
    }

-- there are registers beside its keys: as many numbers and as many depths, and some of each
pub record AreRegisters (s : StationTree) (numbers : List ℤ) (depths : List ℕ) : Type 0 where
  pub numbers_beside : length s.shape.numbers ≡ length numbers
  pub depths_beside : length s.shape.depths ≡ length depths
  pub some_numbers : 0 < length numbers
  pub some_depths : 0 < length depths

-- a run with this state, awaiting so much, with this left of the types, stands at the station with these registers
pub record StandsAt (s : StationTree) (numbers : List ℤ) (depths : List ℕ) (state : StateTree) (awaited : AwaitedTree) (input output : StreamType) : Type 0 where
  pub registers : AreRegisters s numbers depths
  pub is_state : state ≡ filled s.shape numbers depths
  pub is_awaited : awaited ≡ s.awaited
  pub is_input : input ≡ s.input
  pub is_output : output ≡ s.output
