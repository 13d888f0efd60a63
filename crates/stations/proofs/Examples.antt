-- Worked examples: a station, and a run that stands there.
use Rattle.std.proofs.Common.{ℕ, ℤ, pos, [], ◌∷◌, refl, arith}
use Rattle.stream_type.specs.StreamType.{int}
use Rattle.stream_prefix.specs.StreamPrefix.{int_full}
use Rattle.core_term.specs.CoreTerm.{var_term}
use Rattle.delta_state.specs.StateTree.{StateTree, wait_state}
use Rattle.machine_parts.specs.AwaitedTree.{stream_awaited}
use Rattle.stations.specs.StationTree.{StationTree, AreRegisters, StandsAt}

-- a wait that holds a number, before code of some depth
abbrev waits : ℤ → ℕ → StateTree
waits m d = wait_state 0 int (record { name = 1; type = int; prefix = int_full m } ∷ []) (record { term = var_term 1; past = []; depth = d })

-- a station made of it: its number and its depth are the keys
abbrev here : StationTree
here =
    record {
      shape = record { numbers = pos 5 ∷ []; depths = 7 ∷ []; state = waits (pos 5) 7 };
      awaited = stream_awaited 0 int;
      input = int;
      output = int;
    }

are_beside : AreRegisters here (pos 90 ∷ []) (500 ∷ [])
are_beside = record { numbers_beside = refl; depths_beside = refl; some_numbers = omega arith; some_depths = omega arith }

-- with another number and at another depth a run stands there too
stands_there : StandsAt here (pos 90 ∷ []) (500 ∷ []) (waits (pos 90) 500) (stream_awaited 0 int) int int
stands_there = record { registers = are_beside; is_state = refl; is_awaited = refl; is_input = refl; is_output = refl }
