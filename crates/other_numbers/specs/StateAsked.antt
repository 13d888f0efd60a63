-- What a state asks on what comes: the historical expressions that its run evaluates on the way. What is left of it
-- then evaluates the same ones.
use Rattle.std.specs.Prelude.{ℕ, List, [], ◌++◌}
use Rattle.stream_type.specs.StreamType.{StreamType}
use Rattle.stream_prefix.specs.StreamPrefix.{eps_emp, is_maximal}
use Rattle.bunch.specs.Names.{put, value_at}
use Rattle.hist_value.specs.Wholes.{value_of}
use Rattle.core_term.specs.CoreTerm.{CoreBody}
use Rattle.core_term.specs.Environment.{Environment, NameTypes}
use Rattle.core_term.specs.Parts.{par_left, par_right, cat_first, cat_second, sum_left, sum_right, star_item, star_items, left_part, right_part, first_part, second_part}
use Rattle.delta_state.specs.StateTree.{LaterTree, StateTree, ArgumentTrees, sink, var_state, par_state, cat_state, let_state, let_par_state, let_cat_state, sum_state, star_state, wait_state, frame_state, no_arguments, argument_before, argument_names}
use Rattle.delta_state.specs.StateMeaning.{past_in, knowing, types_held, with_held, types_of_arguments, run_state, run_arguments}
use Rattle.other_numbers.specs.Asked.{Asked, once_whole, sum_asked, star_asked, asked_at}

module _ (funs : ℕ → CoreBody) where
  -- what code asks once it is reached
  abbrev pub asked_later : LaterTree → NameTypes → StreamType → Environment → List Asked
  asked_later l types r env = asked_at funs l.depth l.term types r env (past_in l.past)

  abbrev mutual
    -- what a state asks on what comes
    pub asked_of : StateTree → NameTypes → StreamType → Environment → List Asked
    asked_of (sink t) types r env = []
    asked_of (var_state x) types r env = []
    asked_of (par_state a b) types r env = asked_of a types (par_left r) env ++ asked_of b types (par_right r) env
    asked_of (cat_state a l) types r env =
        asked_of a types (cat_first r) env
        ++ once_whole (is_maximal (run_state funs a types (cat_first r) env).out) (asked_later l types (cat_second r) env)
    asked_of (let_state x s a b) types r env =
        asked_of a types s env ++ asked_of b (put x s types) r (put x (run_state funs a types s env).out env)
    asked_of (let_par_state x y z a) types r env =
        asked_of a (put y (par_right (types z)) (put x (par_left (types z)) types)) r (put y (right_part (env z)) (put x (left_part (env z)) env))
    asked_of (let_cat_state x y z a) types r env =
        asked_of a (put y (cat_second (types z)) (put x (cat_first (types z)) types)) r
        (put y (second_part (cat_second (types z)) (env z)) (put x (first_part (env z)) env))
    asked_of (sum_state z t held x l y m) types r env =
        sum_asked (with_held held env z)
        (λ p. asked_later l (put x (sum_left (types_held held z)) (types_held held)) r (put x p (with_held held env)))
        (λ p. asked_later m (put y (sum_right (types_held held z)) (types_held held)) r (put y p (with_held held env)))
    asked_of (star_state z t held l y ys m) types r env =
        star_asked (with_held held env z) (asked_later l (types_held held) r (with_held held env))
        (λ p q. asked_later m (put ys (star_items (types_held held z)) (put y (star_item (types_held held z)) (types_held held))) r
        (put ys q (put y p (with_held held env))))
    asked_of (wait_state x t held l) types r env =
        once_whole (is_maximal (with_held held env x))
        (asked_later (knowing x (types_held held x) (value_of (with_held held env x)) l) (types_held held) r (with_held held env))
    asked_of (frame_state args s) types r env =
        asked_of_arguments args types env
        ++ asked_of s (types_of_arguments args) r (value_at eps_emp (argument_names args) (run_arguments funs args types env).outs)

    -- what arguments ask
    pub asked_of_arguments : ArgumentTrees → NameTypes → Environment → List Asked
    asked_of_arguments no_arguments types env = []
    asked_of_arguments (argument_before x t s args) types env = asked_of s types t env ++ asked_of_arguments args types env
