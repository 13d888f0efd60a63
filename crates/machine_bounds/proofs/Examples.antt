-- A worked example: a state that holds more than its program, though it gives what the program does. So what a
-- machine stands for has to speak of its bound.
use Rattle.std.proofs.Common.{◌≡◌, [], ◌∷◌, refl}
use Rattle.std.specs.Prelude.{Some, None}
use Rattle.stream_type.specs.StreamType.{one, int, sum}
use Rattle.stream_prefix.specs.StreamPrefix.{sum_emp, int_emp}
use Rattle.bunch.specs.BunchTree.{leaf, comma}
use Rattle.core_term.specs.CoreTerm.{CoreProgram, var_term}
use Rattle.delta_state.specs.StateTree.{LaterTree, StateTree, var_state, let_state, sum_state}
use Rattle.delta_state.specs.Rest.{first_state}
use Rattle.delta_state.specs.MachineView.{input_of}
use Rattle.state_bounds.specs.ProgramBound.{main_bound}
use Rattle.state_bounds.specs.Laws.{bound_after}

-- `main(z : 1 + 1, y : Int) : Int = y`, z being 0 and y 1: nothing is ever held
abbrev passes_on : CoreProgram
passes_on = record { funs = []; main = record { past = []; params = comma (leaf 0 (sum one one)) (leaf 1 int); result = int; body = var_term 1 }; texts = [] }

passes_on_bound : main_bound passes_on (λ f. None) ≡ Some 0
passes_on_bound = refl

-- its first state is the name y, and holds nothing
first_bound : bound_after passes_on (λ f. None) (input_of passes_on []) (first_state passes_on) ≡ Some 0
first_bound = refl

-- y beside a let whose name isn't used, of a case on z that goes on as y: until the choice comes it holds the number
abbrev number : LaterTree
number = record { term = var_term 1; past = []; depth = 0 }

abbrev idle : StateTree
idle = let_state 2 int (sum_state 0 int (record { name = 0; type = sum one one; prefix = sum_emp } ∷ (record { name = 1; type = int; prefix = int_emp } ∷ [])) 3 number 4 number) (var_state 1)

idle_bound : bound_after passes_on (λ f. None) (input_of passes_on []) idle ≡ Some 1
idle_bound = refl
