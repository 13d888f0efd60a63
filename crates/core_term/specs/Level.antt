-- Levels as they are counted from above: the greatest level at which a call is made, or 0, in a part
-- that stands at a given level. The runs of `Meaning.antt` count them from below.
use Rattle.std.specs.Prelude.{ℕ, zero, suc, max, Bool, ◌||◌, if◌then◌else◌, List, [], ◌∷◌}
use Rattle.stream_type.specs.StreamType.{StreamType, eps}
use Rattle.stream_prefix.specs.StreamPrefix.{StreamPrefix, eps_emp, in_left, in_right, star_emp, star_done, star_first, star_rest, is_maximal}
use Rattle.bunch.specs.Names.{put, value_at}
use Rattle.bunch.specs.BunchTree.{leaf_names}
use Rattle.hist_value.specs.HistValue.{HistValue, unit_value}
use Rattle.hist_value.specs.Wholes.{value_of}
use Rattle.core_term.specs.CoreTerm.{CoreTerm, CoreTerms, CoreBody, var_term, eps_term, unit_term, nil_term, past_term, par_term, cat_term, cons_term, inl_term, inr_term, let_term, let_par_term, let_cat_term, case_sum_term, case_star_term, wait_term, call_term, no_terms, term_before, is_var, leaf_types, past_names}
use Rattle.core_term.specs.Environment.{Environment, NameTypes}
use Rattle.core_term.specs.Agreement.{types_in}
use Rattle.core_term.specs.Parts.{par_left, par_right, cat_first, cat_second, sum_left, sum_right, star_item, star_items, left_part, right_part, first_part, second_part}
use Rattle.core_term.specs.Meaning.{Past, Calls, values, run_with, run_all, call_at}

-- the level of a part that stands one deeper, unless it stands still
abbrev pub level_below : Bool → ℕ → ℕ
level_below still n = if still then n else suc n

-- of a case on a sum, the level of the branch that runs
abbrev pub sum_level : StreamPrefix → (StreamPrefix → ℕ) → (StreamPrefix → ℕ) → ℕ
sum_level (in_left p) a b = a p
sum_level (in_right p) a b = b p
sum_level _ a b = 0

-- of a case on a star
abbrev pub star_level : StreamPrefix → ℕ → (StreamPrefix → StreamPrefix → ℕ) → ℕ
star_level star_done a b = a
star_level (star_first p) a b = b p star_emp
star_level (star_rest p q) a b = b p q
star_level _ a b = 0

module _ (funs : ℕ → CoreBody) (call : Calls) (inside : ℕ → List HistValue → List StreamPrefix → ℕ → ℕ) where
  abbrev mutual
    -- the level of a term that stands at the level n; `inside` gives that of a called body
    pub level_with : CoreTerm → NameTypes → StreamType → Environment → Past → ℕ → ℕ
    level_with (var_term x) types r env past n = 0
    level_with eps_term types r env past n = 0
    level_with unit_term types r env past n = 0
    level_with nil_term types r env past n = 0
    level_with (past_term m) types r env past n = 0
    level_with (par_term a b) types r env past n = max (level_with a types (par_left r) env past n) (level_with b types (par_right r) env past n)
    level_with (cat_term a b) types r env past n =
        max (level_with a types (cat_first r) env past n)
        (if is_maximal (run_with funs call a types (cat_first r) env past).out then level_with b types (cat_second r) env past n else 0)
    level_with (cons_term a b) types r env past n =
        max (level_with a types (star_item r) env past n)
        (if is_maximal (run_with funs call a types (star_item r) env past).out then level_with b types (star_items r) env past n else 0)
    level_with (inl_term a) types r env past n = level_with a types (sum_left r) env past n
    level_with (inr_term a) types r env past n = level_with a types (sum_right r) env past n
    -- the bound term stands one deeper; the body does where the bound term is no name and isn't whole
    level_with (let_term x s a b) types r env past n =
        max (level_with a types s env past (suc n))
        (level_with b (put x s types) r (put x (run_with funs call a types s env past).out env) past
        (level_below (is_var a || is_maximal (run_with funs call a types s env past).out) n))
    level_with (let_par_term x y z a) types r env past n =
        level_with a (put y (par_right (types z)) (put x (par_left (types z)) types)) r (put y (right_part (env z)) (put x (left_part (env z)) env)) past n
    level_with (let_cat_term x y z a) types r env past n =
        level_with a (put y (cat_second (types z)) (put x (cat_first (types z)) types)) r
        (put y (second_part (cat_second (types z)) (env z)) (put x (first_part (env z)) env)) past n
    level_with (case_sum_term z t x a y b) types r env past n =
        sum_level (env z) (λ p. level_with a (put x (sum_left (types z)) types) r (put x p env) past n)
        (λ p. level_with b (put y (sum_right (types z)) types) r (put y p env) past n)
    level_with (case_star_term z t a y ys b) types r env past n =
        star_level (env z) (level_with a types r env past n)
        (λ p q. level_with b (put ys (star_items (types z)) (put y (star_item (types z)) types)) r (put ys q (put y p env)) past n)
    level_with (wait_term x t a) types r env past n =
        if is_maximal (env x) then level_with a types r env (put x (value_of (env x)) past) n else 0
    -- a call is made at the level of the whole; its arguments stand one deeper, and the body does where
    -- some argument is no name and isn't whole
    level_with (call_term f ms es) types r env past n =
        max n (max (level_all es (leaf_types (funs f).params) types env past (suc n))
        (inside f (values ms past) (run_all funs call es (leaf_types (funs f).params) types env past).outs
        (level_below (run_all funs call es (leaf_types (funs f).params) types env past).are_shut n)))

    pub level_all : CoreTerms → List StreamType → NameTypes → Environment → Past → ℕ → ℕ
    level_all no_terms ts types env past n = 0
    level_all (term_before e es) [] types env past n = max (level_with e types eps env past n) (level_all es [] types env past n)
    level_all (term_before e es) (t ∷ ts) types env past n = max (level_with e types t env past n) (level_all es ts types env past n)

module _ (funs : ℕ → CoreBody) where
  -- the level of a called body that stands at the level n, with this depth left
  unfoldable pub inside_at : ℕ → ℕ → List HistValue → List StreamPrefix → ℕ → ℕ
  inside_at zero f vs ps n = 0
  inside_at (suc k) f vs ps n =
      level_with funs (call_at funs k) (inside_at k) (funs f).body (types_in (funs f).params) (funs f).result
      (value_at eps_emp (leaf_names (funs f).params) ps) (value_at unit_value (past_names (funs f)) vs) n

  -- the level of a term with this depth left
  abbrev pub level_at : ℕ → CoreTerm → NameTypes → StreamType → Environment → Past → ℕ → ℕ
  level_at k = level_with funs (call_at funs k) (inside_at k)
