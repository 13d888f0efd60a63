-- What is filled from registers.
use Rattle.stream_prefix.specs.StreamPrefix.{StreamPrefix}
use Rattle.hist_value.specs.HistValue.{HistValue}
use Rattle.delta_state.specs.StateTree.{Known, HeldName, LaterTree, StateTree, ArgumentTrees}
use Rattle.other_numbers.specs.StateNumbers.{exchanged_known, exchanged_held, exchanged_later, exchanged_arguments}
use Rattle.other_depths.specs.Depths.{deepened_later, deepened_arguments}
use Rattle.filled_states.specs.Registers.{number_at, depth_at}
use Rattle.filled_states.specs.Filled.{filled_value, filled_prefix, filled_state}
use Rattle.state_shapes.specs.RegisterLists.{RegisterLists}

-- a value
abbrev pub value_from : RegisterLists → HistValue → HistValue
value_from l v = filled_value l.keys l.numbers v

-- a prefix
abbrev pub prefix_from : RegisterLists → StreamPrefix → StreamPrefix
prefix_from l p = filled_prefix l.keys l.numbers p

-- a historical name
abbrev pub known_from : RegisterLists → Known → Known
known_from l e = exchanged_known (number_at l.keys l.numbers) e

-- a name of which something is held
abbrev pub held_from : RegisterLists → HeldName → HeldName
held_from l h = exchanged_held (number_at l.keys l.numbers) h

-- code that isn't reached
abbrev pub later_from : RegisterLists → LaterTree → LaterTree
later_from l m = deepened_later (depth_at l.depth_keys l.depths) (exchanged_later (number_at l.keys l.numbers) m)

-- a state
abbrev pub state_from : RegisterLists → StateTree → StateTree
state_from l s = filled_state l.keys l.numbers l.depth_keys l.depths s

-- arguments
abbrev pub arguments_from : RegisterLists → ArgumentTrees → ArgumentTrees
arguments_from l args = deepened_arguments (depth_at l.depth_keys l.depths) (exchanged_arguments (number_at l.keys l.numbers) args)
