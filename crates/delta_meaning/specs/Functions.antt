-- What the evaluator's functions stand for, and what it is to give at its place.
use Rattle.std.specs.Prelude.{ℕ, List, map}
use Rattle.stream_type.specs.StreamType.{StreamType, type_of}
use Rattle.bunch.specs.BunchTree.{BunchTree, tree_of}
use Rattle.stream_prefix.specs.StreamPrefix.{StreamPrefix, emp}
use Rattle.bunch.specs.Names.{put}
use Rattle.delta_tree.specs.SyntaxTree.{Expression, let_at, let_par_at, let_cat_at, case_sum_at, case_star_at, Head, Expressions}
use Rattle.core_term.specs.Parts.{par_left, par_right, cat_first, cat_second, sum_left, sum_right, star_item, star_items, left_part, right_part, first_part, second_part}
use Rattle.delta_tree.specs.Tree.{expression_of}
use Rattle.core_term.specs.CoreTerm.{typed_names_of}
use Rattle.core_term.specs.Run.{Run, Runs, quiet, sum_run, star_run}
use Rattle.core_term.specs.Agreement.{types_in as types_of_params}
use Rattle.core_term.specs.Split.{split}
use Rattle.core_term.specs.Meaning.{Calls, no_past}
use Rattle.delta_meaning.specs.KnownTypes.{names_known}
use Rattle.delta_meaning.specs.SourceBody.{SourceBody, function_named}
use Rattle.delta_meaning.specs.SourceMeaning.{head_type, without_value, source_run, head_run, arguments_run, source_call_at}
use Rattle.delta_meaning.specs.Scope.{types_in, streams_in, past_in}
use Rattle.delta_meaning.specs.declared.scope.Scope.{Scope}
use Rattle.delta_meaning.specs.declared.functions.Function.{Function}
use Rattle.delta_meaning.specs.declared.functions.Place.{Place}

-- the function that one of the program stands for
abbrev pub body_of : Function → SourceBody
body_of f = record {
  name = f.name.0;
  type_names = names_known f.known.items;
  past = typed_names_of f.past.items;
  params = tree_of f.params;
  result = type_of f.result;
  body = expression_of f.body.now;
}

-- the functions at a place, by name
abbrev pub functions_at : Place → ℕ → SourceBody
functions_at i = function_named (map body_of i.functions.now)

-- what calls give at a place
abbrev pub calls_at : Place → Calls
calls_at i = source_call_at (functions_at i) i.depth

-- the run of an expression at a place, in a scope, with its expected type
abbrev pub run_at : Place → Scope → Expression → StreamType → Run
run_at i s e r = source_run (functions_at i) (calls_at i) (names_known i.known.now) e (types_in s) r (streams_in s) (past_in s)

-- the run of a body at a place, with its parameters and its type, on a prefix of its parameters' type
abbrev pub body_at : Place → BunchTree → Expression → StreamType → StreamPrefix → Run
body_at i b e r p = source_run (functions_at i) (calls_at i) (names_known i.known.now) e (types_of_params b) r (split b p) no_past

-- the run of a head
abbrev pub head_run_at : Place → Scope → Head → Run
head_run_at i s h = head_run (functions_at i) (calls_at i) (names_known i.known.now) h (types_in s) (streams_in s) (past_in s)

-- the runs of arguments, with the types of their parameters
abbrev pub arguments_at : Place → Scope → Expressions → List StreamType → Runs
arguments_at i s es ts = arguments_run (functions_at i) (calls_at i) (names_known i.known.now) es ts (types_in s) (streams_in s) (past_in s)

-- the type of a head
abbrev pub head_type_at : Place → Scope → Head → StreamType
head_type_at i s h = head_type (functions_at i) (names_known i.known.now) h (types_in s)

-- the run of an expression where one stream name is bound
abbrev pub run_with_one : Place → Scope → ℕ → Expression → StreamType → StreamType → StreamPrefix → Run
run_with_one i s x e r t p =
    source_run (functions_at i) (calls_at i) (names_known i.known.now) e (put x t (types_in s)) r (put x p (streams_in s)) (without_value x (past_in s))

-- and where two are
abbrev pub run_with_two : Place → Scope → ℕ → ℕ → Expression → StreamType → StreamType → StreamType → StreamPrefix → StreamPrefix → Run
run_with_two i s x y e r t u p q =
    source_run (functions_at i) (calls_at i) (names_known i.known.now) e (put y u (put x t (types_in s))) r (put y q (put x p (streams_in s)))
    (without_value y (without_value x (past_in s)))

-- the run of what stands after the head of a form, by the head's type and what it gives; nothing for a form without
abbrev pub run_after : Place → Scope → Expression → StreamType → StreamType → StreamPrefix → Run
run_after i s (let_at at x h e) r t p = run_with_one i s x e r t p
run_after i s (let_par_at at x y h e) r t p = run_with_two i s x y e r (par_left t) (par_right t) (left_part p) (right_part p)
run_after i s (let_cat_at at x y h e) r t p = run_with_two i s x y e r (cat_first t) (cat_second t) (first_part p) (second_part (cat_second t) p)
run_after i s (case_sum_at at h x a y b) r t p = sum_run r p (λ q. run_with_one i s x a r (sum_left t) q) (λ q. run_with_one i s y b r (sum_right t) q)
run_after i s (case_star_at at h a y ys b) r t p = star_run r p (run_at i s a r) (λ q qs. run_with_two i s y ys b r (star_item t) (star_items t) q qs)
run_after i s _ r t p = quiet (emp r)
