-- Worked examples: two calls become one, and what they pass on binds its names in another order than before.
use Rattle.std.proofs.Common.{◌≡◌, ℕ, true, List, [], ◌∷◌, refl}
use Rattle.stream_type.specs.StreamType.{int}
use Rattle.core_term.specs.FreeNames.{is_distinct}
use Rattle.delta_state.specs.StateTree.{StateTree, ArgumentTrees, var_state, par_state, let_state, frame_state, no_arguments, argument_before}
use Rattle.kept_state.specs.KeptNames.{bound_in_state}
use Rattle.state_rewriting.specs.Rewriting.{Simpler, here, frames, composed}
use Rattle.names_kept.proofs.NameCounts.{times}

-- a name is bound to another one: `let x = z in x`
abbrev bound_to : ℕ → ℕ → StateTree
bound_to x z = let_state x int (var_state z) (var_state x)

-- a call of the parameters 3 and 4 with what binds 5, and what binds 6
abbrev outer : ArgumentTrees
outer = argument_before 3 int (bound_to 5 1) (argument_before 4 int (bound_to 6 2) no_arguments)

-- a call in it of 7 and 8 with these in the other order
abbrev inner : ArgumentTrees
inner = argument_before 7 int (var_state 4) (argument_before 8 int (var_state 3) no_arguments)

-- both side by side
abbrev body : StateTree
body = par_state (var_state 7) (var_state 8)

one_call : Simpler int (frame_state outer (frame_state inner body)) (frame_state (composed outer inner) body)
one_call = here (frames refl refl)

-- before they were bound in one order,
bound_before : bound_in_state (frame_state outer (frame_state inner body)) ≡ 5 ∷ 6 ∷ []
bound_before = refl

-- and now in the other; each still stands once
bound_after : bound_in_state (frame_state (composed outer inner) body) ≡ 6 ∷ 5 ∷ []
bound_after = refl

once_after : times 5 (bound_in_state (frame_state (composed outer inner) body)) ≡ 1
once_after = refl

apart_after : is_distinct (bound_in_state (frame_state (composed outer inner) body)) ≡ true
apart_after = refl
