-- What a run asks: the historical expressions that it evaluates on the way, each with the values at which it is.
--
-- Choices that are not obvious:
-- - It follows the run, form by form, so that a term is asked in what is reached alone: of a case the branch that
--   is taken, the second of two parts once the first is whole, what follows a wait once its subject is whole.
-- - An expression counts as often as it is evaluated, in the order of the run: a call evaluates its historical
--   arguments, then what its arguments do, and then what its body does.
-- - A call at depth 0 asks nothing, since it gives nothing.
use Rattle.std.specs.Prelude.{ℕ, zero, suc, Bool, if◌then◌else◌, List, [], ◌∷◌, ◌++◌, map}
use Rattle.stream_type.specs.StreamType.{StreamType, eps}
use Rattle.stream_prefix.specs.StreamPrefix.{StreamPrefix, eps_emp, in_left, in_right, star_emp, star_done, star_first, star_rest, is_maximal}
use Rattle.bunch.specs.Names.{put, value_at}
use Rattle.bunch.specs.BunchTree.{leaf_names}
use Rattle.hist_value.specs.HistExpr.{HistExpr}
use Rattle.hist_value.specs.HistValue.{HistValue, unit_value}
use Rattle.hist_value.specs.Wholes.{value_of}
use Rattle.core_term.specs.CoreTerm.{CoreTerm, CoreTerms, CoreBody, CoreProgram, var_term, eps_term, unit_term, nil_term, past_term, par_term, cat_term, cons_term, inl_term, inr_term, let_term, let_par_term, let_cat_term, case_sum_term, case_star_term, wait_term, call_term, no_terms, term_before, leaf_types, past_names, fun_at}
use Rattle.core_term.specs.Environment.{Environment, NameTypes}
use Rattle.core_term.specs.Agreement.{types_in}
use Rattle.core_term.specs.Split.{split}
use Rattle.core_term.specs.Parts.{par_left, par_right, cat_first, cat_second, sum_left, sum_right, star_item, star_items, left_part, right_part, first_part, second_part}
use Rattle.core_term.specs.Meaning.{Past, no_past, Calls, values, run_with, run_all, call_at, horizon}

-- an expression, and the values of historical names at which it is evaluated
pub record Asked : Type 0 where
  pub expr : HistExpr
  pub past : Past

-- each of these expressions at the same values
abbrev pub asked_each : List HistExpr → Past → List Asked
asked_each ms past = map (λ m. record { expr = m; past = past }) ms

-- what is asked once something is whole
abbrev pub once_whole : Bool → List Asked → List Asked
once_whole whole as' = if whole then as' else []

-- by the side of a prefix of a sum, what the branch asks with what stands on it
abbrev pub sum_asked : StreamPrefix → (StreamPrefix → List Asked) → (StreamPrefix → List Asked) → List Asked
sum_asked (in_left p) a b = a p
sum_asked (in_right p) a b = b p
sum_asked _ a b = []

-- by the first mark of a prefix of a star, what the branch of its end asks, or that of an item
abbrev pub star_asked : StreamPrefix → List Asked → (StreamPrefix → StreamPrefix → List Asked) → List Asked
star_asked star_done a b = a
star_asked (star_first p) a b = b p star_emp
star_asked (star_rest p q) a b = b p q
star_asked _ a b = []

-- what calls ask: of a function, its historical arguments and its arguments
abbrev pub CallsAsk : Type 0
CallsAsk = ℕ → List HistValue → List StreamPrefix → List Asked

module _ (funs : ℕ → CoreBody) (call : Calls) (asked_call : CallsAsk) where
  abbrev mutual
    -- what a term asks where `run_with` runs it
    pub asked_with : CoreTerm → NameTypes → StreamType → Environment → Past → List Asked
    asked_with (var_term x) types r env past = []
    asked_with eps_term types r env past = []
    asked_with unit_term types r env past = []
    asked_with nil_term types r env past = []
    asked_with (past_term m) types r env past = asked_each (m ∷ []) past
    asked_with (par_term a b) types r env past = asked_with a types (par_left r) env past ++ asked_with b types (par_right r) env past
    asked_with (cat_term a b) types r env past =
        asked_with a types (cat_first r) env past
        ++ once_whole (is_maximal (run_with funs call a types (cat_first r) env past).out) (asked_with b types (cat_second r) env past)
    asked_with (cons_term a b) types r env past =
        asked_with a types (star_item r) env past
        ++ once_whole (is_maximal (run_with funs call a types (star_item r) env past).out) (asked_with b types (star_items r) env past)
    asked_with (inl_term a) types r env past = asked_with a types (sum_left r) env past
    asked_with (inr_term a) types r env past = asked_with a types (sum_right r) env past
    asked_with (let_term x s a b) types r env past =
        asked_with a types s env past ++ asked_with b (put x s types) r (put x (run_with funs call a types s env past).out env) past
    asked_with (let_par_term x y z a) types r env past =
        asked_with a (put y (par_right (types z)) (put x (par_left (types z)) types)) r (put y (right_part (env z)) (put x (left_part (env z)) env)) past
    asked_with (let_cat_term x y z a) types r env past =
        asked_with a (put y (cat_second (types z)) (put x (cat_first (types z)) types)) r
        (put y (second_part (cat_second (types z)) (env z)) (put x (first_part (env z)) env)) past
    asked_with (case_sum_term z t x a y b) types r env past =
        sum_asked (env z) (λ p. asked_with a (put x (sum_left (types z)) types) r (put x p env) past)
        (λ p. asked_with b (put y (sum_right (types z)) types) r (put y p env) past)
    asked_with (case_star_term z t a y ys b) types r env past =
        star_asked (env z) (asked_with a types r env past)
        (λ p q. asked_with b (put ys (star_items (types z)) (put y (star_item (types z)) types)) r (put ys q (put y p env)) past)
    asked_with (wait_term x t a) types r env past =
        once_whole (is_maximal (env x)) (asked_with a types r env (put x (value_of (env x)) past))
    asked_with (call_term f ms es) types r env past =
        asked_each ms past
        ++ (asked_all es (leaf_types (funs f).params) types env past
        ++ asked_call f (values ms past) (run_all funs call es (leaf_types (funs f).params) types env past).outs)

    -- what arguments ask, with their types
    pub asked_all : CoreTerms → List StreamType → NameTypes → Environment → Past → List Asked
    asked_all no_terms ts types env past = []
    asked_all (term_before e es) [] types env past = asked_with e types eps env past ++ asked_all es [] types env past
    asked_all (term_before e es) (t ∷ ts) types env past = asked_with e types t env past ++ asked_all es ts types env past

module _ (funs : ℕ → CoreBody) where
  -- what a call asks with this depth left
  unfoldable pub call_asked_at : ℕ → CallsAsk
  call_asked_at zero f vs ps = []
  call_asked_at (suc k) f vs ps =
      asked_with funs (call_at funs k) (call_asked_at k) (funs f).body (types_in (funs f).params) (funs f).result
      (value_at eps_emp (leaf_names (funs f).params) ps) (value_at unit_value (past_names (funs f)) vs)

  -- what a term asks with this depth left
  abbrev pub asked_at : ℕ → CoreTerm → NameTypes → StreamType → Environment → Past → List Asked
  asked_at k = asked_with funs (call_at funs k) (call_asked_at k)

  -- what the main program asks with this depth, on a prefix of its input's type
  abbrev pub main_asked : ℕ → CoreBody → StreamPrefix → List Asked
  main_asked k main p = asked_at k main.body (types_in main.params) main.result (split main.params p) no_past

-- what a program asks on a prefix of its input's type
abbrev pub program_asked : CoreProgram → StreamPrefix → List Asked
program_asked c p = main_asked (fun_at c.funs) horizon c.main p
