-- What a run has in hand, and where it stands with that.
use Rattle.std.specs.Prelude.{◌≡◌}
use Rattle.stream_type.specs.StreamType.{StreamType, type_of}
use Rattle.delta_state.specs.StateTree.{StateTree}
use Rattle.machine_parts.specs.AwaitedTree.{AwaitedTree, awaited_in}
use Rattle.template_state.specs.Readers.{state_in}
use Rattle.filled_states.specs.Shape.{filled}
use Rattle.stations.specs.declared.station.Run.{Run}
use Rattle.stations.specs.declared.station.Standing.{Standing}
use Rattle.stations.specs.declared.station.Values.{Values}
use Rattle.stations.specs.StationTree.{StationTree, AreRegisters, StandsAt}

-- this state, this to be awaited, and this left of the types of the input and of the output
pub record HasInHand (state : StateTree) (awaited : AwaitedTree) (input output : StreamType) (run : Standing) : Type 0 where
  pub is_state : state_in run.state.value ≡ state
  pub is_awaited : awaited_in run.awaited.value ≡ awaited
  pub is_input : type_of run.input.value ≡ input
  pub is_output : type_of run.output.value ≡ output

-- what a run has that stands at the station with these registers
abbrev pub InHand : StationTree → Values → Standing → Type 0
InHand s v = HasInHand (filled s.shape v.numbers.items v.depths.items) s.awaited s.input s.output

-- a run stands at the station with these registers
abbrev pub Stands : StationTree → Standing → Values → Type 0
Stands s run v =
    StandsAt s v.numbers.items v.depths.items (state_in run.state.value) (awaited_in run.awaited.value) (type_of run.input.value) (type_of run.output.value)

-- so does one whose parts are lent
abbrev pub StandsOn : StationTree → Run → Values → Type 0
StandsOn s run v =
    StandsAt s v.numbers.items v.depths.items (state_in run.state.now) (awaited_in run.awaited.now) (type_of run.input.now) (type_of run.output.now)

-- all is as it is at the station but the state, of which this says nothing
pub record IsAlike (s : StationTree) (run : Run) : Type 0 where
  pub is_awaited : awaited_in run.awaited.now ≡ s.awaited
  pub is_input : type_of run.input.now ≡ s.input
  pub is_output : type_of run.output.now ≡ s.output

-- filled with these the station's shape is the state
pub record Fills (s : StationTree) (state : StateTree) (v : Values) : Type 0 where
  pub registers : AreRegisters s v.numbers.items v.depths.items
  pub is_state : state ≡ filled s.shape v.numbers.items v.depths.items
