-- What the results of steps stand for.
use Rattle.std.specs.Prelude.{map}
use Rattle.stream_prefix.specs.Tree.{prefix_of}
use Rattle.core_term.specs.Run.{Run, Runs}
use Rattle.delta_state.specs.StateTree.{StateTree, ArgumentTrees}
use Rattle.delta_code.specs.declared.begun.Begun.{Begun}
use Rattle.delta_code.specs.declared.begun.Passed.{Passed}
use Rattle.template_state.specs.Readers.{state_in, arguments_in}

-- the run that a result stands for, and the state left
abbrev pub run_of : Begun → Run
run_of a = record { out = prefix_of a.output.value; calls = a.calls; level = a.level }

abbrev pub rest_of : Begun → StateTree
rest_of a = state_in a.state.value

-- the same of arguments
abbrev pub runs_of : Passed → Runs
runs_of as' = record { outs = map prefix_of as'.outputs.items; calls = as'.calls; level = as'.level; are_shut = as'.are_shut }

abbrev pub rests_of : Passed → ArgumentTrees
rests_of as' = arguments_in as'.states.value
