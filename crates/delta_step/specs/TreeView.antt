-- What the plain machine is to the contracts of machines, and what it is for it to stand for its program.
use Rattle.std.specs.Prelude.{List, refl}
use Rattle.stream_type.specs.StreamType.{type_of}
use Rattle.event_word.specs.StreamEvent.{StreamEvent}
use Rattle.core_term.specs.CoreTerm.{core_of}
use Rattle.delta_state.specs.PlainState.{without_marks}
use Rattle.delta_state.specs.MachineView.{MachineView, StandsAfter}
use Rattle.machine_bounds.specs.StaysBelow.{KeepsBelow, StaysBelow}
use Rattle.delta_step.specs.Marked.{state_in}
use Rattle.machine_parts.specs.AwaitedTree.{awaited_in, place_in}
use Rattle.delta_step.specs.declared.machine.Tree.{Tree}

-- its program, its state without marks, its place, and what it counts
abbrev pub view_of : Tree → MachineView
view_of m =
    record {
      program = core_of m.core.value;
      budget = m.budget;
      state = without_marks (state_in m.state.value);
      place = place_in
          (awaited_in m.awaited.value);
      events = m.events;
      spent = m.spent;
    }

-- it stands for its program after the word, by a state that can hold no more than the program
abbrev pub TreeStands : Tree → List StreamEvent → Type 0
TreeStands m word =
    KeepsBelow (core_of m.core.value) m.budget (state_in m.state.value) (awaited_in m.awaited.value) (type_of m.input.value) (type_of m.output.value)
    m.events m.spent word

-- and so as machines have to
abbrev pub tree_stands_after : (m : Tree) (word : List StreamEvent) → TreeStands m word → StandsAfter (view_of m) word
tree_stands_after m word s = record {
  is_word = s.keeps.keeps.is_word;
  marked = state_in m.state.value;
  is_state = refl;
  stands_for = s.keeps.keeps.stands_for;
  is_place = s.keeps.is_place;
  is_count = s.keeps.keeps.is_count;
  in_budget = s.keeps.in_budget;
  in_limit = s.keeps.in_limit;
}

-- and its state can hold no more than the program
abbrev pub tree_stays_below : (m : Tree) (word : List StreamEvent) → TreeStands m word → StaysBelow (view_of m) word
tree_stays_below m word s = record { stands = tree_stands_after m word s; below = s.below }
