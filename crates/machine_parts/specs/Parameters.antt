-- Parameters, of a body and of a frame, with what comes on each.
use Rattle.std.specs.Prelude.{ℕ, List, [], ◌∷◌}
use Rattle.stream_type.specs.StreamType.{StreamType}
use Rattle.stream_prefix.specs.StreamPrefix.{StreamPrefix, eps_emp}
pub use Rattle.core_term.specs.Params.{names_in, types_listed}
use Rattle.delta_state.specs.StateTree.{ArgumentTrees, HeldName, no_arguments, argument_before}

-- parameters with what comes on each; where nothing stands for one, nothing comes on it
abbrev pub bound_to : List (ℕ × StreamType) → List StreamPrefix → List HeldName
bound_to [] ps = []
bound_to (x ∷ xs) [] = record { name = x.0; type = x.1; prefix = eps_emp } ∷ bound_to xs []
bound_to (x ∷ xs) (p ∷ ps) = record { name = x.0; type = x.1; prefix = p } ∷ bound_to xs ps

-- the parameters of a frame with what comes on each
abbrev pub parameters : ArgumentTrees → List StreamPrefix → List HeldName
parameters no_arguments ps = []
parameters (argument_before x t s args) [] = []
parameters (argument_before x t s args) (p ∷ ps) = record { name = x; type = t; prefix = p } ∷ parameters args ps
