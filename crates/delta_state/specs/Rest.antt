-- What is left of a term after its first input, and of a state after more of it: the state that a machine
-- then keeps. What is put out meanwhile is the meaning on that input, and nothing here.
--
-- Choices that are not obvious:
-- - A case or a wait that can't go on yet takes, of each of its free names once, its type and what has come.
-- - A destructuring of `.` goes on as two lets once its mark has come: its first name is a stream on which
--   nothing comes any more, and its second name is the subject.
-- - A call leaves a frame, and at depth 0 nothing, as its meaning there is the empty prefix.
use Rattle.std.specs.Prelude.{ℕ, zero, suc, if◌then◌else◌, List, [], ◌∷◌, map}
use Rattle.stream_type.specs.StreamType.{StreamType, eps}
use Rattle.stream_prefix.specs.StreamPrefix.{StreamPrefix, eps_emp, cat_both, in_left, in_right, star_emp, star_done, star_first, star_rest, is_maximal, emp, der, join}
use Rattle.bunch.specs.Names.{put, value_at}
use Rattle.bunch.specs.BunchTree.{leaf_names, as_type}
use Rattle.hist_value.specs.HistValue.{HistValue}
use Rattle.hist_value.specs.Evaluate.{value}
use Rattle.hist_value.specs.Wholes.{value_of, full}
use Rattle.core_term.specs.CoreTerm.{CoreTerm, CoreTerms, CoreBody, CoreProgram, var_term, eps_term, unit_term, nil_term, past_term, par_term, cat_term, cons_term, inl_term, inr_term, let_term, let_par_term, let_cat_term, case_sum_term, case_star_term, wait_term, call_term, term_before, leaf_types, fun_at}
use Rattle.core_term.specs.FreeNames.{free_names, once}
use Rattle.core_term.specs.Environment.{Environment, NameTypes, left_at}
use Rattle.core_term.specs.Agreement.{types_in}
use Rattle.core_term.specs.Split.{split, split_after}
use Rattle.core_term.specs.Parts.{par_left, par_right, cat_first, cat_second, sum_left, sum_right, star_item, star_items, left_part, right_part, first_part, second_part}
use Rattle.core_term.specs.Meaning.{values, call_at, run_all, run_at, horizon}
use Rattle.delta_state.specs.StateTree.{Known, HeldName, LaterTree, StateTree, ArgumentTrees, sink, var_state, par_state, cat_state, let_state, let_par_state, let_cat_state, sum_state, star_state, wait_state, frame_state, no_arguments, argument_before, argument_names}
use Rattle.delta_state.specs.StateMeaning.{past_in, knowing, types_held, with_held, types_of_arguments, run_state, run_arguments}
use Rattle.delta_state.specs.Stands.{output_left}

-- what has come on these names, with their types
abbrev pub taken : List ℕ → NameTypes → Environment → List HeldName
taken names types env = map (λ x. record { name = x; type = types x; prefix = env x }) names

-- what is held, and behind it what comes
abbrev pub held_more : List HeldName → Environment → List HeldName
held_more held env = map (λ h. record { name = h.name; type = h.type; prefix = join h.prefix (env h.name) }) held

-- the historical parameters of a body with their values
abbrev pub known_of : List (ℕ × StreamType) → List HistValue → List Known
known_of [] vs = []
known_of (e ∷ es) [] = []
known_of (e ∷ es) (v ∷ vs) = record { name = e.0; type = e.1; value = v } ∷ known_of es vs

-- a destructuring of `.` with a in it, after the subject's prefix
abbrev pub cut_state : ℕ → ℕ → ℕ → StreamType → StreamPrefix → StateTree → StateTree
cut_state x y z s (cat_both p q) a = let_state x (der p (cat_first s)) (sink (der p (cat_first s))) (let_state y (der q (cat_second s)) (var_state z) a)
cut_state x y z s _ a = let_cat_state x y z a

-- a case on a sum after the subject's prefix, which waits as w
abbrev pub sum_rest : ℕ → ℕ → ℕ → StreamType → StreamPrefix → StateTree → (StreamPrefix → StateTree) → (StreamPrefix → StateTree) → StateTree
sum_rest z x y s (in_left p) w a b = let_state x (der p (sum_left s)) (var_state z) (a p)
sum_rest z x y s (in_right p) w a b = let_state y (der p (sum_right s)) (var_state z) (b p)
sum_rest z x y s _ w a b = w

-- a case on a star
abbrev pub star_rest_state : ℕ → ℕ → ℕ → StreamType → StreamPrefix → StateTree → StateTree → (StreamPrefix → StreamPrefix → StateTree) → StateTree
star_rest_state z y ys s star_done w a b = a
star_rest_state z y ys s (star_first p) w a b = let_cat_state y ys z (b p star_emp)
star_rest_state z y ys s (star_rest p q) w a b = let_state y (der p (star_item s)) (sink (der p (star_item s))) (let_state ys (der q s) (var_state z) (b p q))
star_rest_state z y ys s _ w a b = w

module _ (funs : ℕ → CoreBody) (k : ℕ) (call_rest : ℕ → List HistValue → List StreamPrefix → StateTree) where
  abbrev mutual
    -- what is left of a term on this input, with this depth left
    pub rest_with : CoreTerm → NameTypes → StreamType → Environment → List Known → StateTree
    rest_with (var_term x) types r env past = var_state x
    rest_with eps_term types r env past = sink eps
    rest_with unit_term types r env past = sink eps
    rest_with nil_term types r env past = sink eps
    rest_with (past_term m) types r env past = sink (der (full r (value m (past_in past))) r)
    rest_with (par_term a b) types r env past = par_state (rest_with a types (par_left r) env past) (rest_with b types (par_right r) env past)
    rest_with (cat_term a b) types r env past =
        if is_maximal (run_at funs k a types (cat_first r) env (past_in past)).out
        then rest_with b types (cat_second r) env past
        else cat_state (rest_with a types (cat_first r) env past) (record { term = b; past = past; depth = k })
    rest_with (cons_term a b) types r env past =
        if is_maximal (run_at funs k a types (star_item r) env (past_in past)).out
        then rest_with b types (star_items r) env past
        else cat_state (rest_with a types (star_item r) env past) (record { term = b; past = past; depth = k })
    rest_with (inl_term a) types r env past = rest_with a types (sum_left r) env past
    rest_with (inr_term a) types r env past = rest_with a types (sum_right r) env past
    rest_with (let_term x s a b) types r env past =
        let_state x (der (run_at funs k a types s env (past_in past)).out s) (rest_with a types s env past)
        (rest_with b (put x s types) r (put x (run_at funs k a types s env (past_in past)).out env) past)
    rest_with (let_par_term x y z a) types r env past =
        let_par_state x y z (rest_with a (put y (par_right (types z)) (put x (par_left (types z)) types)) r
        (put y (right_part (env z)) (put x (left_part (env z)) env)) past)
    rest_with (let_cat_term x y z a) types r env past =
        cut_state x y z (types z) (env z)
        (rest_with a (put y (cat_second (types z)) (put x (cat_first (types z)) types)) r
        (put y (second_part (cat_second (types z)) (env z)) (put x (first_part (env z)) env)) past)
    rest_with (case_sum_term z t x a y b) types r env past =
        sum_rest z x y (types z) (env z)
        (sum_state z t (taken (once (free_names (case_sum_term z t x a y b))) types env) x (record { term = a; past = past; depth = k }) y
        (record { term = b; past = past; depth = k }))
        (λ p. rest_with a (put x (sum_left (types z)) types) r (put x p env) past)
        (λ p. rest_with b (put y (sum_right (types z)) types) r (put y p env) past)
    rest_with (case_star_term z t a y ys b) types r env past =
        star_rest_state z y ys (types z) (env z)
        (star_state z t (taken (once (free_names (case_star_term z t a y ys b))) types env) (record { term = a; past = past; depth = k }) y ys
        (record { term = b; past = past; depth = k }))
        (rest_with a types r env past)
        (λ p q. rest_with b (put ys (star_items (types z)) (put y (star_item (types z)) types)) r (put ys q (put y p env)) past)
    rest_with (wait_term x t a) types r env past =
        if is_maximal (env x)
        then rest_with a types r env (record { name = x; type = types x; value = value_of (env x) } ∷ past)
        else wait_state x t (taken (once (free_names (wait_term x t a))) types env) (record { term = a; past = past; depth = k })
    rest_with (call_term f ms es) types r env past =
        frame_state (rest_all es (leaf_names (funs f).params) (leaf_types (funs f).params) types env past)
        (call_rest f (values ms (past_in past)) (run_all funs (call_at funs k) es (leaf_types (funs f).params) types env (past_in past)).outs)

    -- what is left of the arguments of a call, for these parameters of these types
    pub rest_all : CoreTerms → List ℕ → List StreamType → NameTypes → Environment → List Known → ArgumentTrees
    rest_all (term_before e es) (u ∷ us) (t ∷ ts) types env past =
        argument_before u (der (run_at funs k e types t env (past_in past)).out t) (rest_with e types t env past) (rest_all es us ts types env past)
    rest_all _ us ts types env past = no_arguments

module _ (funs : ℕ → CoreBody) where
  -- what is left of a called body with this depth left
  unfoldable pub call_rest_at : ℕ → ℕ → List HistValue → List StreamPrefix → StateTree
  call_rest_at zero f vs ps = sink eps
  call_rest_at (suc k) f vs ps =
      rest_with funs k (call_rest_at k) (funs f).body (types_in (funs f).params) (funs f).result (value_at eps_emp (leaf_names (funs f).params) ps)
      (known_of (funs f).past vs)

  -- what is left of a term with this depth left
  abbrev pub rest_at : ℕ → CoreTerm → NameTypes → StreamType → Environment → List Known → StateTree
  rest_at k = rest_with funs k (call_rest_at k)

  -- what is left of code once it is reached
  abbrev pub rest_later : LaterTree → NameTypes → StreamType → Environment → StateTree
  rest_later l types r env = rest_at l.depth l.term types r env l.past

  abbrev mutual
    -- what is left of a state after what comes
    pub rest_of : StateTree → NameTypes → StreamType → Environment → StateTree
    rest_of (sink t) types r env = sink t
    rest_of (var_state x) types r env = var_state x
    rest_of (par_state a b) types r env = par_state (rest_of a types (par_left r) env) (rest_of b types (par_right r) env)
    rest_of (cat_state a l) types r env =
        if is_maximal (run_state funs a types (cat_first r) env).out
        then rest_later l types (cat_second r) env
        else cat_state (rest_of a types (cat_first r) env) l
    rest_of (let_state x s a b) types r env =
        let_state x (der (run_state funs a types s env).out s) (rest_of a types s env)
        (rest_of b (put x s types) r (put x (run_state funs a types s env).out env))
    rest_of (let_par_state x y z a) types r env =
        let_par_state x y z (rest_of a (put y (par_right (types z)) (put x (par_left (types z)) types)) r
        (put y (right_part (env z)) (put x (left_part (env z)) env)))
    rest_of (let_cat_state x y z a) types r env =
        cut_state x y z (types z) (env z)
        (rest_of a (put y (cat_second (types z)) (put x (cat_first (types z)) types)) r
        (put y (second_part (cat_second (types z)) (env z)) (put x (first_part (env z)) env)))
    rest_of (sum_state z t held x l y m) types r env =
        sum_rest z x y (types_held held z) (with_held held env z) (sum_state z t (held_more held env) x l y m)
        (λ p. rest_later l (put x (sum_left (types_held held z)) (types_held held)) r (put x p (with_held held env)))
        (λ p. rest_later m (put y (sum_right (types_held held z)) (types_held held)) r (put y p (with_held held env)))
    rest_of (star_state z t held l y ys m) types r env =
        star_rest_state z y ys (types_held held z) (with_held held env z) (star_state z t (held_more held env) l y ys m)
        (rest_later l (types_held held) r (with_held held env))
        (λ p q. rest_later m (put ys (star_items (types_held held z)) (put y (star_item (types_held held z)) (types_held held))) r
        (put ys q (put y p (with_held held env))))
    rest_of (wait_state x t held l) types r env =
        if is_maximal (with_held held env x)
        then rest_later (knowing x (types_held held x) (value_of (with_held held env x)) l) (types_held held) r (with_held held env)
        else wait_state x t (held_more held env) l
    rest_of (frame_state args s) types r env =
        frame_state (rest_of_arguments args types env)
        (rest_of s (types_of_arguments args) r (value_at eps_emp (argument_names args) (run_arguments funs args types env).outs))

    -- what is left of arguments
    pub rest_of_arguments : ArgumentTrees → NameTypes → Environment → ArgumentTrees
    rest_of_arguments no_arguments types env = no_arguments
    rest_of_arguments (argument_before x t s args) types env =
        argument_before x (der (run_state funs s types t env).out t) (rest_of s types t env) (rest_of_arguments args types env)

-- the state of a program before any event
abbrev pub first_state : CoreProgram → StateTree
first_state c = rest_at (fun_at c.funs) horizon c.main.body (types_in c.main.params) c.main.result (split c.main.params (emp (as_type c.main.params))) []

-- the state of a program after the input p and then q, where after p it was s
abbrev pub next_state : CoreProgram → StreamPrefix → StateTree → StreamPrefix → StateTree
next_state c p s q = rest_of (fun_at c.funs) s (left_at (split c.main.params p) (types_in c.main.params)) (output_left c p) (split_after c.main.params p q)
