-- The arguments of a frame while the types left of them are lent to the entries of its body, and once they are back.
use Rattle.std.specs.Prelude.{List, [], ◌∷◌}
use Rattle.stream_prefix.specs.StreamPrefix.{der}
use Rattle.delta_state.specs.StateTree.{ArgumentTrees, HeldName, no_arguments, argument_before}

-- the arguments with the types of these entries, each moved on over what came on it
abbrev pub given_back : List HeldName → ArgumentTrees → ArgumentTrees
given_back es no_arguments = no_arguments
given_back [] (argument_before x t s args) = argument_before x t s args
given_back (e ∷ es) (argument_before x t s args) = argument_before x (der e.prefix e.type) s (given_back es args)
