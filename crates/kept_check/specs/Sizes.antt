-- The sizes of what is read: the nodes of each code, the states, and the nodes of the type that is left.
use Rattle.std.specs.Prelude.{ℕ, suc, ◌+◌, ◌<◌, ◌^◌}
use Rattle.std.specs.List.{All}
use Rattle.stream_type.specs.StreamType.{size_of}
use Rattle.core_term.specs.CoreTerm.{node_count}
use Rattle.delta_state.specs.StateTree.{StateTree, ArgumentTrees, sink, var_state, par_state, cat_state, let_state, let_par_state, let_cat_state, sum_state, star_state, wait_state, frame_state, no_arguments, argument_before, laters_of}
use Rattle.kept_state.specs.KeptTree.{KeptTree}
use Rattle.kept_state.specs.KeptBytes.{nodes_in_state}

-- no code that isn't reached has 2^32 nodes
abbrev pub codes_fit : StateTree → Type 0
codes_fit s = All (λ l. node_count l.term < 2 ^ 32) (laters_of s)

abbrev mutual
  -- how many states there are in the parts of a state
  pub states_of_parts : StateTree → ℕ
  states_of_parts (sink t) = 0
  states_of_parts (var_state x) = 0
  states_of_parts (par_state a b) = suc (states_of_parts a) + suc (states_of_parts b)
  states_of_parts (cat_state a l) = suc (states_of_parts a)
  states_of_parts (let_state x s a b) = suc (states_of_parts a) + suc (states_of_parts b)
  states_of_parts (let_par_state x y z a) = suc (states_of_parts a)
  states_of_parts (let_cat_state x y z a) = suc (states_of_parts a)
  states_of_parts (sum_state z t held x l y m) = 0
  states_of_parts (star_state z t held l y ys m) = 0
  states_of_parts (wait_state x t held l) = 0
  states_of_parts (frame_state args s) = states_in_arguments args + suc (states_of_parts s)

  pub states_in_arguments : ArgumentTrees → ℕ
  states_in_arguments no_arguments = 0
  states_in_arguments (argument_before x t s args) = suc (states_of_parts s) + states_in_arguments args

-- how many states there are in a state, itself among them
abbrev pub states_number : StateTree → ℕ
states_number s = suc (states_of_parts s)

-- so small is all that is read from bytes: there are at most a million of these
pub record IsSmall (k : KeptTree) : Type 0 where
  pub has_type : size_of k.out < 2 ^ 32
  pub has_states : states_number k.state < 2 ^ 32
  pub has_nodes : nodes_in_state k.state < 2 ^ 32
