-- What it is for a machine to hold no more than its program can.
--
-- Choices that are not obvious:
-- - The numbers of the functions are any that no body passes. So nothing here speaks of how a program's own numbers
--   are found, and where they are such numbers they are among these.
-- - The bound is that of the state by which the machine stands, with its marks. Another state that stands for the
--   program after the same word could hold more.
use Rattle.std.specs.Prelude.{ℕ, List}
use Rattle.stream_type.specs.StreamType.{StreamType}
use Rattle.event_word.specs.StreamEvent.{StreamEvent}
use Rattle.core_term.specs.CoreTerm.{CoreProgram}
use Rattle.delta_state.specs.StateTree.{StateTree}
use Rattle.delta_state.specs.MachineView.{MachineView, StandsAfter, input_of}
use Rattle.state_bounds.specs.Bounds.{Bound, ◌⊑◌}
use Rattle.state_bounds.specs.ProgramBound.{AreEnough, main_bound}
use Rattle.state_bounds.specs.Laws.{bound_after}
use Rattle.machine_parts.specs.AwaitedTree.{AwaitedTree}
use Rattle.machine_parts.specs.KeepsAll.{KeepsAll}

-- after the word the state can hold no more than the main program of c
abbrev pub IsBelow : CoreProgram → StateTree → List StreamEvent → Type 0
IsBelow c s word = (numbers : ℕ → Bound) → AreEnough c numbers → bound_after c numbers (input_of c word) s ⊑ main_bound c numbers

-- a machine that is seen so stands for its program after the word by a state that can hold no more than the program
pub record StaysBelow (m : MachineView) (word : List StreamEvent) : Type 0 where
  pub stands : StandsAfter m word
  pub below : IsBelow m.program stands.marked word

-- a machine keeps all that machines have to (`KeepsAll`), and its state can hold no more than its program
pub record KeepsBelow (c : CoreProgram) (budget : ℕ) (s : StateTree) (a : AwaitedTree) (input output : StreamType) (events spent : ℕ)
    (word : List StreamEvent) : Type 0 where
  pub keeps : KeepsAll c budget s a input output events spent word
  pub below : IsBelow c s word
