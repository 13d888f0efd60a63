-- What was learned stays so whatever registers are said to be left; and where the run that was left stands at a
-- station, the step ends there.
use Rattle.std.proofs.Common.{◌∙◌, ℕ, ℤ, List, sym}
use Rattle.core_term.specs.CoreTerm.{CoreProgram}
use Rattle.learned_table.specs.StepTree.{StepTree}
use Rattle.stations.specs.declared.station.Standing.{Standing}
use Rattle.stations.specs.declared.station.Values.{Values}
use Rattle.stations.specs.StationTree.{StationTree}
use Rattle.stations.specs.Stands.{Stands}
use Rattle.step_learning.specs.IsLearned.{HasLearned, IsLearned}
use Rattle.step_learning.specs.Learns.{Learns}

-- the step with other registers left
abbrev pub leaving : StepTree → List ℤ → List ℕ → StepTree
leaving s numbers depths = record s { numbers_left = numbers; depths_left = depths }

abbrev has_leaving : (c : CoreProgram) (budget : ℕ) (from : StationTree) (s : StepTree) (numbers : List ℤ) (depths : List ℕ) → HasLearned c budget from s → HasLearned c budget from (leaving s numbers depths)
has_leaving c budget from s numbers depths h = record {
  learned = h.learned;
  registers = h.registers;
  is_state = h.is_state;
  is_awaited = h.is_awaited;
  is_input = h.is_input;
  is_output = h.is_output;
  is_event = h.is_event;
  are_asked = h.are_asked;
  have_values = h.have_values;
  is_said = h.is_said;
  are_calls = h.are_calls;
  in_budget = h.in_budget;
  within = h.within;
  are_spread = h.are_spread;
  are_deep = h.are_deep;
}

pub finished : (c : CoreProgram) (budget : ℕ) (from to : StationTree) (s : StepTree) (left : Standing) (v : Values) → Learns c budget from s left → Stands to left v
    → IsLearned c budget from to (leaving s v.numbers.items v.depths.items)
finished c budget from to s left v h stands = record {
  has = has_leaving c budget from s v.numbers.items v.depths.items h.has;
  left = record {
    registers = stands.registers;
    is_state = sym h.leaves.is_state ∙ stands.is_state;
    is_awaited = sym h.leaves.is_awaited ∙ stands.is_awaited;
    is_input = sym h.leaves.is_input ∙ stands.is_input;
    is_output = sym h.leaves.is_output ∙ stands.is_output;
  };
}
