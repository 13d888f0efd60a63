-- What a core term gives on what has come so far: its prefix, the calls made and their level.
--
-- Choices that are not obvious:
-- - Everything that has come is given at once. There is no event, no buffer and no state here: how a
--   program runs event by event is what the laws are about.
-- - The meaning takes the types of stream names, since a destructuring needs that of the second part:
--   before its mark nothing has come there. Where a type hasn't the form, its parts count as `eps`.
-- - A wait leaves its subject among the stream names; no typed term reads it there again.
-- - Calls have a depth, so that every program has a meaning. A call at depth 0 gives the empty prefix.
--   The main program begins at the depth `horizon`, so such a call stands inside 2^62 others.
-- - A function that isn't there counts as one without parameters that gives `eps`.
use Rattle.std.specs.Prelude.{ℕ, zero, suc, pred, ◌^◌, List, [], ◌∷◌, map}
use Rattle.stream_type.specs.StreamType.{StreamType, eps}
use Rattle.stream_prefix.specs.StreamPrefix.{StreamPrefix, eps_emp, one_full, in_left, in_right, star_done, emp, is_maximal}
use Rattle.bunch.specs.Names.{put, value_at}
use Rattle.bunch.specs.BunchTree.{leaf_names}
use Rattle.hist_value.specs.HistExpr.{HistExpr}
use Rattle.hist_value.specs.HistValue.{HistValue, unit_value}
use Rattle.hist_value.specs.Evaluate.{value}
use Rattle.hist_value.specs.Wholes.{value_of, full}
use Rattle.core_term.specs.CoreTerm.{CoreTerm, CoreTerms, CoreBody, CoreProgram, var_term, eps_term, unit_term, nil_term, past_term, par_term, cat_term, cons_term, inl_term, inr_term, let_term, let_par_term, let_cat_term, case_sum_term, case_star_term, wait_term, call_term, no_terms, term_before, is_var, leaf_types, past_names, fun_at}
use Rattle.core_term.specs.Environment.{Environment, NameTypes}
use Rattle.core_term.specs.Agreement.{types_in}
use Rattle.core_term.specs.Split.{split}
use Rattle.core_term.specs.Parts.{par_left, par_right, cat_first, cat_second, sum_left, sum_right, star_item, star_items, left_part, right_part, first_part, second_part, as_star}
use Rattle.core_term.specs.Run.{Run, Runs, quiet, relabel, par_run, cat_run, let_run, sum_run, star_run, wait_run, no_runs, run_before, call_run, one_call}

-- the value at each historical name
abbrev pub Past : Type 0
Past = ℕ → HistValue

-- no historical name has a value
abbrev pub no_past : Past
no_past x = unit_value

-- the values of historical arguments
abbrev pub values : List HistExpr → Past → List HistValue
values ms past = map (λ m. value m past) ms

-- what calls give: of a function, its historical arguments and its arguments
abbrev pub Calls : Type 0
Calls = ℕ → List HistValue → List StreamPrefix → Run

module _ (funs : ℕ → CoreBody) (call : Calls) where
  abbrev mutual
    -- the run of a term, with the types of the stream names, the term's type, what has come on the
    -- stream names, and the values of the historical names
    pub run_with : CoreTerm → NameTypes → StreamType → Environment → Past → Run
    run_with (var_term x) types r env past = quiet (env x)
    run_with eps_term types r env past = quiet eps_emp
    run_with unit_term types r env past = quiet one_full
    run_with nil_term types r env past = quiet star_done
    run_with (past_term m) types r env past = quiet (full r (value m past))
    run_with (par_term a b) types r env past = par_run (run_with a types (par_left r) env past) (run_with b types (par_right r) env past)
    run_with (cat_term a b) types r env past = cat_run (run_with a types (cat_first r) env past) (run_with b types (cat_second r) env past)
    run_with (cons_term a b) types r env past = relabel as_star (cat_run (run_with a types (star_item r) env past) (run_with b types (star_items r) env past))
    run_with (inl_term a) types r env past = relabel in_left (run_with a types (sum_left r) env past)
    run_with (inr_term a) types r env past = relabel in_right (run_with a types (sum_right r) env past)
    run_with (let_term x s a b) types r env past =
        let_run (is_var a) (run_with a types s env past) (run_with b (put x s types) r (put x (run_with a types s env past).out env) past)
    run_with (let_par_term x y z a) types r env past =
        run_with a (put y (par_right (types z)) (put x (par_left (types z)) types)) r (put y (right_part (env z)) (put x (left_part (env z)) env)) past
    run_with (let_cat_term x y z a) types r env past =
        run_with a (put y (cat_second (types z)) (put x (cat_first (types z)) types)) r
        (put y (second_part (cat_second (types z)) (env z)) (put x (first_part (env z)) env)) past
    run_with (case_sum_term z t x a y b) types r env past =
        sum_run r (env z) (λ p. run_with a (put x (sum_left (types z)) types) r (put x p env) past)
        (λ p. run_with b (put y (sum_right (types z)) types) r (put y p env) past)
    run_with (case_star_term z t a y ys b) types r env past =
        star_run r (env z) (run_with a types r env past)
        (λ p q. run_with b (put ys (star_items (types z)) (put y (star_item (types z)) types)) r (put ys q (put y p env)) past)
    run_with (wait_term x t a) types r env past =
        wait_run r (is_maximal (env x)) (run_with a types r env (put x (value_of (env x)) past))
    run_with (call_term f ms es) types r env past =
        call_run (run_all es (leaf_types (funs f).params) types env past)
        (call f (values ms past) (run_all es (leaf_types (funs f).params) types env past).outs)

    -- the runs of arguments, with their types; one without a parameter counts as of type `eps`
    pub run_all : CoreTerms → List StreamType → NameTypes → Environment → Past → Runs
    run_all no_terms ts types env past = no_runs
    run_all (term_before e es) [] types env past = run_before (is_var e) (run_with e types eps env past) (run_all es [] types env past)
    run_all (term_before e es) (t ∷ ts) types env past = run_before (is_var e) (run_with e types t env past) (run_all es ts types env past)

module _ (funs : ℕ → CoreBody) where
  -- the run of a body on its arguments, with what calls inside give
  abbrev pub body_run : Calls → CoreBody → List HistValue → List StreamPrefix → Run
  body_run call b vs ps =
      run_with funs call b.body (types_in b.params) b.result (value_at eps_emp (leaf_names b.params) ps) (value_at unit_value (past_names b) vs)

  -- a call with this depth left
  unfoldable pub call_at : ℕ → Calls
  call_at zero f vs ps = record { out = emp (funs f).result; calls = 1; level = 0 }
  call_at (suc k) f vs ps = one_call (body_run (call_at k) (funs f) vs ps)

  -- the run of a term with this depth left
  abbrev pub run_at : ℕ → CoreTerm → NameTypes → StreamType → Environment → Past → Run
  run_at k = run_with funs (call_at k)

  -- the run of the main program with this depth, on a prefix of its input's type
  abbrev pub main_run : ℕ → CoreBody → StreamPrefix → Run
  main_run k main p = run_at k main.body (types_in main.params) main.result (split main.params p) no_past

-- the depth at which the main program begins
unfoldable pub horizon : ℕ
horizon = 2 ^ 62

-- the run of a program on a prefix of its input's type
abbrev pub program_run : CoreProgram → StreamPrefix → Run
program_run c p = main_run (fun_at c.funs) horizon c.main p

-- what a program gives on a prefix of its input's type
abbrev pub mean : CoreProgram → StreamPrefix → StreamPrefix
mean c p = (program_run c p).out

-- the number of calls that it makes
abbrev pub calls_of : CoreProgram → StreamPrefix → ℕ
calls_of c p = (program_run c p).calls

-- the greatest level at which it makes one, or 0
abbrev pub level_of : CoreProgram → StreamPrefix → ℕ
level_of c p = pred (program_run c p).level
