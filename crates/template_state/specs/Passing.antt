-- Which arguments of a frame are passed on, and which are used.
use Rattle.std.specs.Prelude.{ℕ, ◌≡◌, ◌==◌, Bool, true, not, ◌&&◌, ◌||◌, List, [], ◌∷◌, if◌then◌else◌}
use Rattle.stream_type.specs.StreamType.{StreamType}
use Rattle.bunch.specs.Names.{holds}
use Rattle.delta_state.specs.StateTree.{StateTree, ArgumentTrees, no_arguments, argument_before, argument_at}
use Rattle.state_rewriting.specs.Rewriting.{is_plain, names_passed, composed}

-- whether each argument that is neither a name nor finished has its parameter at most once in the list
abbrev pub passes_once : ArgumentTrees → List ℕ → Bool
passes_once args [] = true
passes_once args (u ∷ us) = (is_plain (argument_at args u) || not (holds u us)) && passes_once args us

-- of the second arguments, that of u may have been moved out, if it was neither a name nor finished
abbrev pub IsTakenFrom : ArgumentTrees → ℕ → ArgumentTrees → Type 0
IsTakenFrom args u others = (x : ℕ) → (is_plain (argument_at args u) || not (x == u)) ≡ true → argument_at others x ≡ argument_at args x

-- the second arguments pass on just what the first do, once s was passed on
abbrev pub ServesAfter : ArgumentTrees → StateTree → ArgumentTrees → Type 0
ServesAfter args s others =
    (x : ℕ) (t : StreamType) (inner : ArgumentTrees) → passes_once args (names_passed (argument_before x t s inner)) ≡ true
    → (passes_once others (names_passed inner) ≡ true) × (composed others inner ≡ composed args inner)

-- the arguments of the parameters that are in the list
abbrev pub only_used : List ℕ → ArgumentTrees → ArgumentTrees
only_used us no_arguments = no_arguments
only_used us (argument_before x t s args) = if holds x us then argument_before x t s (only_used us args) else only_used us args
