-- What it is for a state to be another one in a simpler form, whatever type is left of it.
--
-- Where a call goes on at its caller's level, the state that it leaves isn't kept as it is: a loop of calls
-- would leave a frame for each. What bindings and frames stand round the last call is put into a simpler form
-- at once, by rewritings that ask for no type.
use Rattle.std.specs.Prelude.{[]}
use Rattle.stream_type.specs.StreamType.{StreamType}
use Rattle.delta_state.specs.StateTree.{StateTree, ArgumentTrees}
use Rattle.state_rewriting.specs.Rewriting.{SimplerBy, ReplacedArgumentsBy, Rewritten}

-- the second state is the first after any number of rewritings, whatever type is left
pub record Eased (a b : StateTree) : Type 0 where
  pub at : (r : StreamType) → SimplerBy r a b

-- so are these arguments
pub record EasedArguments (args others : ArgumentTrees) : Type 0 where
  pub by : ReplacedArgumentsBy [] Rewritten args others
