-- What a state gives on what comes next: its prefix, the calls made and their level.
--
-- Choices that are not obvious:
-- - It is the meaning of core terms read on states: the same combinators of runs, and code that is
--   reached has the meaning of a core term at its own depth.
-- - What comes goes over the types that are left, r being what is left of the state's own.
-- - A held case or wait is run on what was held and, behind it, what comes, on the held names alone: the
--   environment of a frame's body, too, is that of its parameters alone.
use Rattle.std.specs.Prelude.{ℕ, List, [], ◌∷◌}
use Rattle.stream_type.specs.StreamType.{StreamType}
use Rattle.stream_prefix.specs.StreamPrefix.{eps_emp, emp, is_maximal}
use Rattle.bunch.specs.Names.{put, value_at}
use Rattle.hist_value.specs.HistValue.{HistValue}
use Rattle.hist_value.specs.Wholes.{value_of}
use Rattle.core_term.specs.CoreTerm.{CoreBody}
use Rattle.core_term.specs.Environment.{Environment, NameTypes, untyped, nothing, joined}
use Rattle.core_term.specs.Parts.{par_left, par_right, cat_first, cat_second, sum_left, sum_right, star_item, star_items, left_part, right_part, first_part, second_part}
use Rattle.core_term.specs.Run.{Run, Runs, quiet, par_run, cat_run, let_run, sum_run, star_run, wait_run, no_runs, run_before, frame_run}
use Rattle.core_term.specs.Meaning.{Past, no_past, run_at}
use Rattle.delta_state.specs.StateTree.{Known, HeldName, LaterTree, StateTree, ArgumentTrees, sink, var_state, par_state, cat_state, let_state, let_par_state, let_cat_state, sum_state, star_state, wait_state, frame_state, no_arguments, argument_before, is_var_state, argument_names}

-- the values of historical names
abbrev pub past_in : List Known → Past
past_in [] = no_past
past_in (e ∷ es) = put e.name e.value (past_in es)

-- code with one historical name more
abbrev pub knowing : ℕ → StreamType → HistValue → LaterTree → LaterTree
knowing x t v l = record { term = l.term; past = record { name = x; type = t; value = v } ∷ l.past; depth = l.depth }

-- the types of held names from before
abbrev pub types_held : List HeldName → NameTypes
types_held [] = untyped
types_held (h ∷ held) = put h.name h.type (types_held held)

-- what was held of each name
abbrev pub prefixes_held : List HeldName → Environment
prefixes_held [] = nothing
prefixes_held (h ∷ held) = put h.name h.prefix (prefixes_held held)

-- what was held of each name, and behind it what comes
abbrev pub with_held : List HeldName → Environment → Environment
with_held held env = joined (prefixes_held held) env

-- the types left of parameters
abbrev pub types_of_arguments : ArgumentTrees → NameTypes
types_of_arguments no_arguments = untyped
types_of_arguments (argument_before x t s args) = put x t (types_of_arguments args)

module _ (funs : ℕ → CoreBody) where
  -- the run of code once it is reached
  abbrev pub run_later : LaterTree → NameTypes → StreamType → Environment → Run
  run_later l types r env = run_at funs l.depth l.term types r env (past_in l.past)

  -- a case on a sum, over the types from before and on all that came
  abbrev pub run_sum : ℕ → ℕ → LaterTree → ℕ → LaterTree → NameTypes → StreamType → Environment → Run
  run_sum z x l y m types r env =
      sum_run r (env z) (λ p. run_later l (put x (sum_left (types z)) types) r (put x p env))
      (λ p. run_later m (put y (sum_right (types z)) types) r (put y p env))

  -- a case on a star
  abbrev pub run_star : ℕ → LaterTree → ℕ → ℕ → LaterTree → NameTypes → StreamType → Environment → Run
  run_star z l y ys m types r env =
      star_run r (env z) (run_later l types r env)
      (λ p q. run_later m (put ys (star_items (types z)) (put y (star_item (types z)) types)) r (put ys q (put y p env)))

  -- a wait
  abbrev pub run_wait : ℕ → LaterTree → NameTypes → StreamType → Environment → Run
  run_wait x l types r env = wait_run r (is_maximal (env x)) (run_later (knowing x (types x) (value_of (env x)) l) types r env)

  abbrev mutual
    -- the run of a state, with the types left of the stream names, what is left of its own type, and what
    -- comes on the stream names
    pub run_state : StateTree → NameTypes → StreamType → Environment → Run
    run_state (sink t) types r env = quiet (emp t)
    run_state (var_state x) types r env = quiet (env x)
    run_state (par_state a b) types r env = par_run (run_state a types (par_left r) env) (run_state b types (par_right r) env)
    run_state (cat_state a l) types r env = cat_run (run_state a types (cat_first r) env) (run_later l types (cat_second r) env)
    run_state (let_state x s a b) types r env =
        let_run (is_var_state a) (run_state a types s env) (run_state b (put x s types) r (put x (run_state a types s env).out env))
    run_state (let_par_state x y z a) types r env =
        run_state a (put y (par_right (types z)) (put x (par_left (types z)) types)) r (put y (right_part (env z)) (put x (left_part (env z)) env))
    run_state (let_cat_state x y z a) types r env =
        run_state a (put y (cat_second (types z)) (put x (cat_first (types z)) types)) r
        (put y (second_part (cat_second (types z)) (env z)) (put x (first_part (env z)) env))
    run_state (sum_state z t held x l y m) types r env = run_sum z x l y m (types_held held) r (with_held held env)
    run_state (star_state z t held l y ys m) types r env = run_star z l y ys m (types_held held) r (with_held held env)
    run_state (wait_state x t held l) types r env = run_wait x l (types_held held) r (with_held held env)
    run_state (frame_state args s) types r env =
        frame_run (run_arguments args types env)
        (run_state s (types_of_arguments args) r (value_at eps_emp (argument_names args) (run_arguments args types env).outs))

    -- the runs of arguments
    pub run_arguments : ArgumentTrees → NameTypes → Environment → Runs
    run_arguments no_arguments types env = no_runs
    run_arguments (argument_before x t s args) types env = run_before (is_var_state s) (run_state s types t env) (run_arguments args types env)
