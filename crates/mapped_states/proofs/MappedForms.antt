-- What stays of a state that is mapped: which of its parts are names, its parameters and their types.
use Rattle.std.proofs.Common.{◌≡◌, List, ◌∷◌, ap, refl}
use Rattle.bunch.specs.Names.{put}
use Rattle.delta_state.specs.StateTree.{HeldName, LaterTree, StateTree, ArgumentTrees, var_state, no_arguments, argument_before, is_var_state, argument_names}
use Rattle.delta_state.specs.StateMeaning.{types_of_arguments}
use Rattle.mapped_states.specs.Mapped.{mapped, mapped_arguments}

module _ (f : LaterTree → LaterTree) (g : List HeldName → List HeldName) where
  -- a name is a name, and nothing else is
  pub is_var_stays : (s : StateTree) → is_var_state (mapped f g s) ≡ is_var_state s
  is_var_stays (var_state x) = refl
  is_var_stays _ = refl

  -- the parameters that have arguments, and their types
  pub argument_names_stay : (args : ArgumentTrees) → argument_names (mapped_arguments f g args) ≡ argument_names args
  argument_names_stay no_arguments = refl
  argument_names_stay (argument_before x t s args) = ap (λ us. x ∷ us) (argument_names_stay args)

  pub types_of_arguments_stay : (args : ArgumentTrees) → types_of_arguments (mapped_arguments f g args) ≡ types_of_arguments args
  types_of_arguments_stay no_arguments = refl
  types_of_arguments_stay (argument_before x t s args) = ap (put x t) (types_of_arguments_stay args)
