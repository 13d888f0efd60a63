-- The definitions at single states and bytes. Each answer was worked out by hand, and the check computes it.
use Rattle.std.proofs.Common.{◌≡◌, true, false, [], ◌∷◌, refl}
use Rattle.std.specs.Prelude.{◌==◌, ◌&&◌, Some, None, Err}
use Rattle.stream_type.specs.StreamType.{eps, int, par}
use Rattle.bunch.specs.BunchTree.{leaf}
use Rattle.core_term.specs.CoreTerm.{CoreProgram, var_term}
use Rattle.core_term.specs.Typing.{Context}
use Rattle.delta_state.specs.StateTree.{ArgumentTrees, sink, var_state, par_state, let_state, frame_state, no_arguments, argument_before}
use Rattle.kept_rules.specs.InTurn.{state_at}
use Rattle.kept_check.specs.declared.fault.KeepFault.TheVariants.{Form, Version}
use Rattle.kept_check.specs.declared.stop.Stop.TheVariants.{At}
use Rattle.kept_check.specs.Arguments.{are_in_order}
use Rattle.kept_check.specs.Loading.{TellsKeepFault}
use Rattle.kept_check.specs.Sizes.{states_number}
use Rattle.kept_check.specs.Walk.{FindsBad}

-- a let, the pair that it binds, the names of that, and its body
five_states : states_number (let_state 2 (par int int) (par_state (var_state 0) (var_state 1)) (var_state 2)) ≡ 5
five_states = refl

-- a frame, its argument, and its body
three_states : states_number (frame_state (argument_before 1 int (var_state 0) no_arguments) (var_state 1)) ≡ 3
three_states = refl

-- two streams of numbers, of which the first stands before the second
abbrev in_turn : Context
in_turn = record { types = λ x. Some int; order = λ x y. (x == 0) && (y == 1); past = λ x. None }

-- two parameters, whose arguments they are
abbrev passed : ArgumentTrees
passed = argument_before 2 int (var_state 0) (argument_before 3 int (var_state 1) no_arguments)

-- so the first parameter stands before the second, and not the other way round
first_is_before : are_in_order in_turn passed passed 2 3 ≡ true
first_is_before = refl

second_is_not : are_in_order in_turn passed passed 3 2 ≡ false
second_is_not = refl

-- no name is a stream
abbrev nowhere : Context
nowhere = record { types = λ x. None; order = λ x y. false; past = λ x. None }

-- a finished state, and a name that isn't there: the second of two that are numbered from 5
name_is_found : FindsBad [] 0 5 (state_at nowhere eps [] (sink eps) ∷ (state_at nowhere int [] (var_state 0) ∷ [])) (Err (At 6))
name_is_found = (1, refl, (record { rule = (refl, refl); once = refl }, λ g. absurd (cc g.rule)))

-- `main(x : Int) : Int = x`
abbrev one_number : CoreProgram
one_number = record { funs = []; main = record { past = []; params = leaf 0 int; result = int; body = var_term 0 }; texts = [] }

-- the right letters and another version, another letter, and one that is missing
version_is_told : TellsKeepFault one_number (0x44 ∷ (0x53 ∷ (0x54 ∷ (0x02 ∷ [])))) (Err (Version 2))
version_is_told = refl

letter_is_told : TellsKeepFault one_number (0x44 ∷ (0x54 ∷ [])) (Err (Form 1))
letter_is_told = refl

end_is_told : TellsKeepFault one_number (0x44 ∷ (0x53 ∷ [])) (Err (Form 2))
end_is_told = refl
