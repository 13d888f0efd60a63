-- Worked examples: what rewritings do to the bounds of single states, and why two calls don't always become one.
use Rattle.std.proofs.Common.{◌≡◌, false, [], ◌∷◌, refl}
use Rattle.std.specs.Prelude.{Some, None}
use Rattle.stream_type.specs.StreamType.{one, int, sum}
use Rattle.stream_prefix.specs.StreamPrefix.{sum_emp, int_emp}
use Rattle.bunch.specs.Names.{put}
use Rattle.core_term.specs.CoreTerm.{var_term}
use Rattle.core_term.specs.Typing.{Context}
use Rattle.delta_state.specs.StateTree.{LaterTree, StateTree, ArgumentTrees, var_state, par_state, let_state, sum_state, frame_state, no_arguments, argument_before}
use Rattle.delta_state.specs.StateTyping.{no_pasts}
use Rattle.state_rewriting.specs.Rewriting.{here, unused, frames, composed, names_passed, stand_once, Simpler}
use Rattle.state_bounds.specs.Bounds.{Bound}
use Rattle.state_bounds.specs.StateBounds.{state_bound}

-- a choice comes on 0, a number on 1, in any order
abbrev outside : Context
outside = record { types = put 0 (Some (sum one one)) (put 1 (Some int) (λ x. None)); order = λ x y. false; past = no_pasts }

-- the number 1, not reached yet
abbrev number : LaterTree
number = record { term = var_term 1; past = []; depth = 0 }

-- `case 0 of { inl 2 => 1 | inr 3 => 1 }`, of which nothing came: the number may come before the choice
abbrev choice : StateTree
choice = sum_state 0 int (record { name = 0; type = sum one one; prefix = sum_emp } ∷ (record { name = 1; type = int; prefix = int_emp } ∷ [])) 2 number 3 number

-- what a state can hold there
abbrev bound : StateTree → Bound
bound s = state_bound [] (λ f. None) s outside

choice_bound : bound choice ≡ Some 1
choice_bound = refl

-- a let of the choice whose name isn't used can hold what the choice can, and nothing without it
unused_choice : Simpler int (let_state 4 int choice (var_state 1)) (var_state 1)
unused_choice = here (unused refl)

unused_bound : bound (let_state 4 int choice (var_state 1)) ≡ Some 1
unused_bound = refl

used_bound : bound (var_state 1) ≡ Some 0
used_bound = refl

-- a call of the parameter 5 with the choice
abbrev outer : ArgumentTrees
outer = argument_before 5 int choice no_arguments

-- a call in it of the parameter 6 with 5: both become one that can hold as much
abbrev passed_once : ArgumentTrees
passed_once = argument_before 6 int (var_state 5) no_arguments

one_call : Simpler int (frame_state outer (frame_state passed_once (var_state 6))) (frame_state (composed outer passed_once) (var_state 6))
one_call = here (frames refl refl)

two_calls_bound : bound (frame_state outer (frame_state passed_once (var_state 6))) ≡ Some 1
two_calls_bound = refl

one_call_bound : bound (frame_state (composed outer passed_once) (var_state 6)) ≡ Some 1
one_call_bound = refl

-- passed on twice the choice would stand twice, and could hold twice as much; so then they don't become one
abbrev passed_twice : ArgumentTrees
passed_twice = argument_before 6 int (var_state 5) (argument_before 7 int (var_state 5) no_arguments)

not_once : stand_once outer (names_passed passed_twice) ≡ false
not_once = refl

twice_bound : bound (frame_state outer (frame_state passed_twice (par_state (var_state 6) (var_state 7)))) ≡ Some 1
twice_bound = refl

joined_bound : bound (frame_state (composed outer passed_twice) (par_state (var_state 6) (var_state 7))) ≡ Some 2
joined_bound = refl
