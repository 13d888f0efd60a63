-- Which parameters of a frame stand before which.
use Rattle.std.specs.Prelude.{ℕ, Bool, false, ◌==◌, ◌&&◌, ◌||◌, List}
use Rattle.std.specs.List.{list_all}
use Rattle.core_term.specs.Typing.{Context, is_before}
use Rattle.delta_state.specs.StateTree.{StateTree, ArgumentTrees, no_arguments, argument_before, free_in_state}

-- whether some argument of the parameter x passes a test
abbrev pub some_argument : (StateTree → Bool) → ArgumentTrees → ℕ → Bool
some_argument p no_arguments x = false
some_argument p (argument_before u t s args) x = ((x == u) && p s) || some_argument p args x

-- whether each name of the first list stands before each of the second
abbrev pub are_before : Context → List ℕ → List ℕ → Bool
are_before c xs ys = list_all (λ x. list_all (λ y. is_before c x y) ys) xs

-- whether each of these names stands before each free name of an argument of y
abbrev pub are_behind : Context → List ℕ → ArgumentTrees → ℕ → Bool
are_behind c xs args y = some_argument (λ s. are_before c xs (free_in_state s)) args y

-- whether x is one of the first parameters, and each free name of its argument stands before each of one of y
abbrev pub are_in_order : Context → ArgumentTrees → ArgumentTrees → ℕ → ℕ → Bool
are_in_order c first args x y = some_argument (λ s. are_behind c (free_in_state s) args y) first x
