-- What a program gives on what has come so far: the one-shot meaning of its syntax tree, with the calls made.
--
-- Choices that are not obvious:
-- - The whole of what has come is given at once. There is no event, no buffer and no state here.
-- - A name that is bound anew hides both kinds of earlier binding: as a stream name it has no value, and a name
--   that was waited for has no stream.
-- - Runs are those of core terms, so they have levels too: what a `let` binds, an argument, and an expression
--   with its type stand one deeper.
-- - Calls have a depth, as those of core terms.
use Rattle.std.specs.Prelude.{ℕ, zero, suc, pred, Bool, true, false, List, [], ◌∷◌, map}
use Rattle.stream_type.specs.StreamType.{StreamType, eps}
use Rattle.stream_prefix.specs.StreamPrefix.{StreamPrefix, eps_emp, one_full, in_left, in_right, star_done, emp, is_maximal}
use Rattle.bunch.specs.Names.{put, value_at}
use Rattle.bunch.specs.BunchTree.{leaf_names}
use Rattle.hist_value.specs.HistValue.{HistValue, unit_value, left_of}
use Rattle.hist_value.specs.Evaluate.{value}
use Rattle.hist_value.specs.Wholes.{value_of, full}
use Rattle.delta_tree.specs.SyntaxTree.{WrittenHist, Expression, name_at, eps_at, unit_at, nil_at, hist_at, par_at, cat_at, cons_at, inl_at, inr_at, typed_at, let_at, let_par_at, let_cat_at, case_sum_at, case_star_at, wait_at, if_at, call_at, Head, name_head, call_head, typed_head, Expressions, no_expressions, expression_before, ProgramTree}
use Rattle.core_term.specs.CoreTerm.{leaf_types}
use Rattle.core_term.specs.Environment.{Environment, NameTypes, by_side}
use Rattle.core_term.specs.Agreement.{types_in}
use Rattle.core_term.specs.Split.{split}
use Rattle.core_term.specs.Parts.{par_left, par_right, cat_first, cat_second, sum_left, sum_right, star_item, star_items, left_part, right_part, first_part, second_part, as_star}
use Rattle.core_term.specs.Run.{Run, Runs, deeper, quiet, relabel, par_run, cat_run, let_run, sum_run, star_run, wait_run, no_runs, run_before, call_run, one_call}
use Rattle.core_term.specs.Meaning.{Past, no_past, Calls, horizon}
use Rattle.delta_meaning.specs.TypeNames.{TypeNames, type_meant}
use Rattle.delta_meaning.specs.SourceBody.{SourceBody, functions_of, main_of, function_named}

-- whether an expression is a name
abbrev pub is_name : Expression → Bool
is_name (name_at at x) = true
is_name _ = false

-- whether a head is a name, or a name with its type
abbrev pub is_name_head : Head → Bool
is_name_head (name_head at x) = true
is_name_head (call_head at f ms es) = false
is_name_head (typed_head at e t) = is_name e

-- the type of a head: its name's, its function's result, or what it is written with
abbrev pub head_type : (ℕ → SourceBody) → TypeNames → Head → NameTypes → StreamType
head_type functions names (name_head at x) types = types x
head_type functions names (call_head at f ms es) types = (functions f).result
head_type functions names (typed_head at e t) types = type_meant names t

-- the run of an expression with its type: the expression stands one deeper
abbrev pub typed_run : Run → Run
typed_run a = record { out = a.out; calls = a.calls; level = deeper false a.level }

-- by a value of a sum, the first for its left side, and else the second
abbrev pub if_run : HistValue → Run → Run → Run
if_run (left_of v) a b = a
if_run _ a b = b

-- the values of historical arguments
abbrev pub written_values : List WrittenHist → Past → List HistValue
written_values ms past = map (λ m. value m.expr past) ms

-- a name that is bound as a stream has no value
abbrev pub without_value : ℕ → Past → Past
without_value x past = put x unit_value past

module _ (functions : ℕ → SourceBody) (call : Calls) (names : TypeNames) where
  abbrev mutual
    -- the run of an expression, with the types of the stream names, its expected type, what has come on the
    -- stream names, and the values of the historical names
    pub source_run : Expression → NameTypes → StreamType → Environment → Past → Run
    source_run (name_at at x) types r env past = quiet (env x)
    source_run (eps_at at) types r env past = quiet eps_emp
    source_run (unit_at at) types r env past = quiet one_full
    source_run (nil_at at) types r env past = quiet star_done
    source_run (hist_at at m) types r env past = quiet (full r (value m.expr past))
    source_run (par_at at a b) types r env past = par_run (source_run a types (par_left r) env past) (source_run b types (par_right r) env past)
    source_run (cat_at at a b) types r env past = cat_run (source_run a types (cat_first r) env past) (source_run b types (cat_second r) env past)
    source_run (cons_at at a b) types r env past =
        relabel as_star (cat_run (source_run a types (star_item r) env past) (source_run b types (star_items r) env past))
    source_run (inl_at at a) types r env past = relabel in_left (source_run a types (sum_left r) env past)
    source_run (inr_at at a) types r env past = relabel in_right (source_run a types (sum_right r) env past)
    source_run (typed_at at a t) types r env past = typed_run (source_run a types (type_meant names t) env past)
    source_run (let_at at x h e) types r env past =
        let s = head_type functions names h types in
        let a = head_run h types env past in
        let_run (is_name_head h) a (source_run e (put x s types) r (put x a.out env) (without_value x past))
    source_run (let_par_at at x y h e) types r env past =
        let s = head_type functions names h types in
        let a = head_run h types env past in
        let_run (is_name_head h) a (source_run e (put y (par_right s) (put x (par_left s) types)) r
        (put y (right_part a.out) (put x (left_part a.out) env)) (without_value y (without_value x past)))
    source_run (let_cat_at at x y h e) types r env past =
        let s = head_type functions names h types in
        let a = head_run h types env past in
        let_run (is_name_head h) a (source_run e (put y (cat_second s) (put x (cat_first s) types)) r
        (put y (second_part (cat_second s) a.out) (put x (first_part a.out) env)) (without_value y (without_value x past)))
    source_run (case_sum_at at h x a y b) types r env past =
        let s = head_type functions names h types in
        let u = head_run h types env past in
        let_run (is_name_head h) u (sum_run r u.out
        (λ p. source_run a (put x (sum_left s) types) r (put x p env) (without_value x past))
        (λ p. source_run b (put y (sum_right s) types) r (put y p env) (without_value y past)))
    source_run (case_star_at at h a y ys b) types r env past =
        let s = head_type functions names h types in
        let u = head_run h types env past in
        let_run (is_name_head h) u (star_run r u.out (source_run a types r env past)
        (λ p q. source_run b (put ys (star_items s) (put y (star_item s) types)) r (put ys q (put y p env)) (without_value ys (without_value y past))))
    source_run (wait_at at x e) types r env past =
        wait_run r (is_maximal (env x)) (source_run e (put x eps types) r (put x eps_emp env) (put x (value_of (env x)) past))
    source_run (if_at at m a b) types r env past = if_run (value m.expr past) (source_run a types r env past) (source_run b types r env past)
    source_run (call_at at f ms es) types r env past =
        let as' = arguments_run es (leaf_types (functions f).params) types env past in
        call_run as' (call f (written_values ms past) as'.outs)

    -- the run of a head, at its type
    pub head_run : Head → NameTypes → Environment → Past → Run
    head_run (name_head at x) types env past = quiet (env x)
    head_run (call_head at f ms es) types env past =
        let as' = arguments_run es (leaf_types (functions f).params) types env past in
        call_run as' (call f (written_values ms past) as'.outs)
    head_run (typed_head at e t) types env past = source_run e types (type_meant names t) env past

    -- the runs of arguments, at the types of their parameters; one without a parameter counts as of type `eps`
    pub arguments_run : Expressions → List StreamType → NameTypes → Environment → Past → Runs
    arguments_run no_expressions ts types env past = no_runs
    arguments_run (expression_before e es) [] types env past = run_before (is_name e) (source_run e types eps env past) (arguments_run es [] types env past)
    arguments_run (expression_before e es) (t ∷ ts) types env past = run_before (is_name e) (source_run e types t env past) (arguments_run es ts types env past)

-- the names of a body's historical parameters
abbrev pub source_past_names : SourceBody → List ℕ
source_past_names b = map (λ e. e.0) b.past

-- the values of a body's historical parameters, of which its stream parameters hide those with their names
abbrev pub source_past : SourceBody → List HistValue → Past
source_past b vs = by_side (leaf_names b.params) no_past (value_at unit_value (source_past_names b) vs)

module _ (functions : ℕ → SourceBody) where
  -- the run of a body on its arguments, with what calls inside give
  abbrev pub source_body_run : Calls → SourceBody → List HistValue → List StreamPrefix → Run
  source_body_run call b vs ps =
      source_run functions call b.type_names b.body (types_in b.params) b.result (value_at eps_emp (leaf_names b.params) ps) (source_past b vs)

  -- a call with this depth left
  unfoldable pub source_call_at : ℕ → Calls
  source_call_at zero f vs ps = record { out = emp (functions f).result; calls = 1; level = 0 }
  source_call_at (suc k) f vs ps = one_call (source_body_run (source_call_at k) (functions f) vs ps)

  -- the run of the main program with this depth, on a prefix of its input's type
  abbrev pub source_main_run : ℕ → SourceBody → StreamPrefix → Run
  source_main_run k b p =
      source_run functions (source_call_at k) b.type_names b.body (types_in b.params) b.result (split b.params p) no_past

-- the run of a program on a prefix of its input's type
abbrev pub source_program_run : ProgramTree → StreamPrefix → Run
source_program_run tree p = source_main_run (function_named (functions_of tree)) horizon (main_of tree) p

-- what a program gives on a prefix of its input's type
abbrev pub mean : ProgramTree → StreamPrefix → StreamPrefix
mean tree p = (source_program_run tree p).out

-- the number of calls that it makes
abbrev pub calls_of : ProgramTree → StreamPrefix → ℕ
calls_of tree p = (source_program_run tree p).calls

-- the greatest level at which it makes one, or 0
abbrev pub level_of : ProgramTree → StreamPrefix → ℕ
level_of tree p = pred (source_program_run tree p).level
