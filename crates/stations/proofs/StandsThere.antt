-- A run stands where all is alike and the shape is filled, and at a station made of what it has in hand.
use Rattle.std.proofs.Common.{◌≡◌, ◌∙◌, length, ap, sym, subst}
use Rattle.stream_type.specs.StreamType.{type_of}
use Rattle.delta_state.specs.StateTree.{StateTree}
use Rattle.machine_parts.specs.AwaitedTree.{awaited_in}
use Rattle.template_state.specs.Readers.{state_in}
use Rattle.filled_states.specs.Filled.{filled_state}
use Rattle.state_shapes.specs.declared.found.Found.{Found}
use Rattle.state_shapes.specs.RegisterLists.{lists_in}
use Rattle.stations.specs.declared.station.Station.{Station}
use Rattle.stations.specs.declared.station.Run.{Run}
use Rattle.stations.specs.declared.station.Standing.{Standing}
use Rattle.stations.specs.declared.station.Values.{Values}
use Rattle.stations.specs.Lies.{Lies}
use Rattle.stations.specs.StationTree.{StationTree, station_in}
use Rattle.stations.specs.Stands.{HasInHand, IsAlike, Fills, StandsOn}

-- both together
pub stands : (s : StationTree) (run : Run) (v : Values) → IsAlike s run → Fills s (state_in run.state.now) v → StandsOn s run v
stands s run v a f = record { registers = f.registers; is_state = f.is_state; is_awaited = a.is_awaited; is_input = a.is_input; is_output = a.is_output }

-- what was found, where its keys are the station's
pub fills : (s : Station) (state : StateTree) (found : Found) (v : Values) → found.keys.items ≡ s.keys.items → found.depth_keys.items ≡ s.depth_keys.items → v.numbers ≡ found.numbers → v.depths ≡ found.depths
    → Lies (state_in s.shape.value) state (lists_in found) → Fills (station_in s) state v
fills s state found v ks ds ns es l =
    record {
      registers =
          record {
            numbers_beside = ap length (sym ks) ∙ (l.are_parallel.numbers ∙ ap (λ n. length n.items) (sym ns));
            depths_beside = ap length (sym ds) ∙ (l.are_parallel.depths ∙ ap (λ e. length e.items) (sym es));
            some_numbers = rw ns l.some_numbers;
            some_depths = rw es l.some_depths;
          };
      is_state = l.is_state ∙ (λ i. filled_state (ks i) (sym ns i).items (ds i) (sym es i).items (state_in s.shape.value));
    }

-- a station made of a copy
pub stands_itself : (run : Run) (copies : Standing) (found : Found) (p : Station) (v : Values) → Lies (state_in run.state.now) (state_in run.state.now) (lists_in found)
    → HasInHand (state_in run.state.now) (awaited_in run.awaited.now) (type_of run.input.now) (type_of run.output.now) copies
    → p ≡ record { shape = copies.state; keys = found.keys; depth_keys = found.depth_keys; awaited = copies.awaited; input = copies.input; output = copies.output }
    → v ≡ record { numbers = found.numbers; depths = found.depths } → StandsOn (station_in p) run v
stands_itself run copies found p v l h e f =
    subst (λ q. StandsOn (station_in q) run v) (sym e)
    (subst (λ w. StandsOn (station_in (record { shape = copies.state; keys = found.keys; depth_keys = found.depth_keys; awaited = copies.awaited; input = copies.input; output = copies.output })) run w) (sym f)
    (record {
      registers = record { numbers_beside = l.are_parallel.numbers; depths_beside = l.are_parallel.depths; some_numbers = l.some_numbers; some_depths = l.some_depths };
      is_state = l.is_state ∙ ap (λ s. filled_state found.keys.items found.numbers.items found.depth_keys.items found.depths.items s) (sym h.is_state);
      is_awaited = sym h.is_awaited;
      is_input = sym h.is_input;
      is_output = sym h.is_output;
    }))
