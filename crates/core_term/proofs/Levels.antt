-- The level that a run counts from below is the one that is counted from above.
use Rattle.std.proofs.Common.{◌≡◌, ◌∙◌, ◌+◌, ℕ, zero, suc, pred, Bool, true, false, ◌||◌, List, [], ◌∷◌, if◌then◌else◌, ap, ap₂, refl, sym, arith}
use Rattle.std.specs.Prelude.{max, min}
use Rattle.stream_type.specs.StreamType.{StreamType, eps}
use Rattle.stream_prefix.specs.StreamPrefix.{StreamPrefix, eps_emp, in_left, in_right, star_emp, star_done, star_first, star_rest, is_maximal}
use Rattle.bunch.specs.Names.{put, value_at}
use Rattle.bunch.specs.BunchTree.{leaf_names}
use Rattle.hist_value.specs.HistValue.{HistValue, unit_value}
use Rattle.hist_value.specs.Wholes.{value_of}
use Rattle.core_term.specs.CoreTerm.{CoreTerm, CoreTerms, CoreBody, var_term, eps_term, unit_term, nil_term, past_term, par_term, cat_term, cons_term, inl_term, inr_term, let_term, let_par_term, let_cat_term, case_sum_term, case_star_term, wait_term, call_term, no_terms, term_before, is_var, leaf_types, past_names, fun_at}
use Rattle.core_term.specs.Environment.{Environment, NameTypes}
use Rattle.core_term.specs.Agreement.{types_in}
use Rattle.core_term.specs.Split.{split}
use Rattle.core_term.specs.Parts.{par_left, par_right, cat_first, cat_second, sum_left, sum_right, star_item, star_items}
use Rattle.core_term.specs.Run.{Run, Runs, deeper, cat_run_at, cat_run, let_run, sum_run, star_run, wait_run, call_run}
use Rattle.core_term.specs.Meaning.{Past, Calls, values, run_with, run_all, call_at, run_at, no_past, horizon}
use Rattle.core_term.specs.Level.{level_below, sum_level, star_level, level_with, level_all, inside_at, level_at}
use Rattle.core_term.specs.MeaningLaws.{LevelIsFromAbove, MeanLevelIsFromAbove}

-- what a level counted from the part's own is, where the part stands at n
abbrev pub seen_from : ℕ → ℕ → ℕ
seen_from n zero = 0
seen_from n (suc l) = n + l

seen_from-max : (n a b : ℕ) → seen_from n (max a b) ≡ max (seen_from n a) (seen_from n b)
seen_from-max n zero b = let e : max 0 b ≡ b = omega arith in let f : seen_from n b ≡ max 0 (seen_from n b) = omega arith in ap (seen_from n) e ∙ f
seen_from-max n (suc a) zero = let e : max (suc a) 0 ≡ suc a = omega arith in let f : n + a ≡ max (n + a) 0 = omega arith in ap (seen_from n) e ∙ f
seen_from-max n (suc a) (suc b) = let e : max (suc a) (suc b) ≡ suc (max a b) = omega arith in let f : n + max a b ≡ max (n + a) (n + b) = omega arith in ap (seen_from n) e ∙ f

seen_from-deeper : (c : Bool) (n l : ℕ) → seen_from n (deeper c l) ≡ seen_from (level_below c n) l
seen_from-deeper true n l = refl
seen_from-deeper false n zero = refl
seen_from-deeper false n (suc l) = let e : suc l + min (suc l) 1 ≡ suc (suc l) = omega arith in ap (seen_from n) e ∙ omega arith

seen_from-one : (n : ℕ) → seen_from n 1 ≡ n
seen_from-one n = omega arith

seen_from-zero : (l : ℕ) → seen_from 0 l ≡ pred l
seen_from-zero zero = refl
seen_from-zero (suc l) = omega arith

cat_levels : (n : ℕ) (a b : Run) (la lb : ℕ) → la ≡ seen_from n a.level → lb ≡ seen_from n b.level → max la (if is_maximal a.out then lb else 0) ≡ seen_from n (cat_run a b).level
cat_levels n a b la lb ha hb = go (is_maximal a.out)
  where
    go : (c : Bool) → max la (if c then lb else 0) ≡ seen_from n (cat_run_at c a b).level
    go true = ap₂ max ha hb ∙ sym (seen_from-max n a.level b.level)
    go false = let e : max la 0 ≡ la = omega arith in e ∙ ha

let_levels : (v : Bool) (n : ℕ) (a b : Run) (la lb : ℕ) → la ≡ seen_from (suc n) a.level → lb ≡ seen_from (level_below (v || is_maximal a.out) n) b.level → max la lb ≡ seen_from n (let_run v a b).level
let_levels v n a b la lb ha hb =
    ap₂ max (ha ∙ sym (seen_from-deeper false n a.level)) (hb ∙ sym (seen_from-deeper (v || is_maximal a.out) n b.level)) ∙ sym (seen_from-max n (deeper false a.level) (deeper (v || is_maximal a.out) b.level))

call_levels : (n : ℕ) (a : Runs) (b : Run) (la lb : ℕ) → la ≡ seen_from (suc n) a.level → lb ≡ seen_from (level_below a.are_shut n) b.level → max n (max la lb) ≡ seen_from n (call_run a b).level
call_levels n a b la lb ha hb =
    ap₂ max (sym (seen_from-one n)) (ap₂ max (ha ∙ sym (seen_from-deeper false n a.level)) (hb ∙ sym (seen_from-deeper a.are_shut n b.level)) ∙ sym (seen_from-max n (deeper false a.level) (deeper a.are_shut b.level)))
    ∙ sym (seen_from-max n 1 (max (deeper false a.level) (deeper a.are_shut b.level)))

sum_levels : (n : ℕ) (r : StreamType) (p : StreamPrefix) (a b : StreamPrefix → Run) (la lb : StreamPrefix → ℕ) → ((p : StreamPrefix) → la p ≡ seen_from n (a p).level) → ((p : StreamPrefix) → lb p ≡ seen_from n (b p).level)
    → sum_level p la lb ≡ seen_from n (sum_run r p a b).level
sum_levels n r (in_left p) a b la lb ha hb = ha p
sum_levels n r (in_right p) a b la lb ha hb = hb p
sum_levels n r _ a b la lb ha hb = refl

star_levels : (n : ℕ) (r : StreamType) (p : StreamPrefix) (a : Run) (b : StreamPrefix → StreamPrefix → Run) (la : ℕ) (lb : StreamPrefix → StreamPrefix → ℕ) → la ≡ seen_from n a.level → ((p q : StreamPrefix) → lb p q ≡ seen_from n (b p q).level)
    → star_level p la lb ≡ seen_from n (star_run r p a b).level
star_levels n r star_done a b la lb ha hb = ha
star_levels n r (star_first p) a b la lb ha hb = hb p star_emp
star_levels n r (star_rest p q) a b la lb ha hb = hb p q
star_levels n r _ a b la lb ha hb = refl

wait_levels : (n : ℕ) (r : StreamType) (c : Bool) (a : Run) (la : ℕ) → la ≡ seen_from n a.level → (if c then la else 0) ≡ seen_from n (wait_run r c a).level
wait_levels n r true a la h = h
wait_levels n r false a la h = refl

no_level : (n : ℕ) → 0 ≡ seen_from n 0
no_level n = refl

module _ (funs : ℕ → CoreBody) (call : Calls) (inside : ℕ → List HistValue → List StreamPrefix → ℕ → ℕ)
    (inside_seen : (f : ℕ) (vs : List HistValue) (ps : List StreamPrefix) (n : ℕ) → inside f vs ps n ≡ seen_from n (call f vs ps).level) where
  mutual
    level_seen : (e : CoreTerm) (T : NameTypes) (r : StreamType) (d : Environment) (p : Past) (n : ℕ) → level_with funs call inside e T r d p n ≡ seen_from n (run_with funs call e T r d p).level
    level_seen (var_term x) T r d p n = no_level n
    level_seen eps_term T r d p n = no_level n
    level_seen unit_term T r d p n = no_level n
    level_seen nil_term T r d p n = no_level n
    level_seen (past_term m) T r d p n = no_level n
    level_seen (par_term a b) T r d p n = ap₂ max (level_seen a T (par_left r) d p n) (level_seen b T (par_right r) d p n) ∙ sym (seen_from-max n _ _)
    level_seen (cat_term a b) T r d p n =
        cat_levels n (run_with funs call a T (cat_first r) d p) (run_with funs call b T (cat_second r) d p) _ _ (level_seen a T (cat_first r) d p n) (level_seen b T (cat_second r) d p n)
    level_seen (cons_term a b) T r d p n =
        cat_levels n (run_with funs call a T (star_item r) d p) (run_with funs call b T (star_items r) d p) _ _ (level_seen a T (star_item r) d p n) (level_seen b T (star_items r) d p n)
    level_seen (inl_term a) T r d p n = level_seen a T (sum_left r) d p n
    level_seen (inr_term a) T r d p n = level_seen a T (sum_right r) d p n
    level_seen (let_term x s a b) T r d p n =
        let_levels (is_var a) n (run_with funs call a T s d p) (run_with funs call b (put x s T) r (put x (run_with funs call a T s d p).out d) p) _ _ (level_seen a T s d p (suc n))
        (level_seen b (put x s T) r (put x (run_with funs call a T s d p).out d) p _)
    level_seen (let_par_term x y z a) T r d p n = level_seen a _ r _ p n
    level_seen (let_cat_term x y z a) T r d p n = level_seen a _ r _ p n
    level_seen (case_sum_term z t x a y b) T r d p n =
        sum_levels n r (d z) _ _ _ _ (λ c. level_seen a (put x (sum_left (T z)) T) r (put x c d) p n) (λ c. level_seen b (put y (sum_right (T z)) T) r (put y c d) p n)
    level_seen (case_star_term z t a y ys b) T r d p n =
        star_levels n r (d z) _ _ _ _ (level_seen a T r d p n) (λ c e. level_seen b (put ys (star_items (T z)) (put y (star_item (T z)) T)) r (put ys e (put y c d)) p n)
    level_seen (wait_term x t a) T r d p n = wait_levels n r (is_maximal (d x)) (run_with funs call a T r d (put x (value_of (d x)) p)) _ (level_seen a T r d (put x (value_of (d x)) p) n)
    level_seen (call_term f ms es) T r d p n =
        call_levels n (run_all funs call es (leaf_types (funs f).params) T d p) (call f (values ms p) (run_all funs call es (leaf_types (funs f).params) T d p).outs) _ _
        (levels_seen es (leaf_types (funs f).params) T d p (suc n)) (inside_seen f (values ms p) _ _)

    levels_seen : (es : CoreTerms) (ts : List StreamType) (T : NameTypes) (d : Environment) (p : Past) (n : ℕ) → level_all funs call inside es ts T d p n ≡ seen_from n (run_all funs call es ts T d p).level
    levels_seen no_terms ts T d p n = no_level n
    levels_seen (term_before e es) [] T d p n = ap₂ max (level_seen e T eps d p n) (levels_seen es [] T d p n) ∙ sym (seen_from-max n _ _)
    levels_seen (term_before e es) (t ∷ ts) T d p n = ap₂ max (level_seen e T t d p n) (levels_seen es ts T d p n) ∙ sym (seen_from-max n _ _)

module _ (funs : ℕ → CoreBody) where
  inside_at_seen : (k f : ℕ) (vs : List HistValue) (ps : List StreamPrefix) (n : ℕ) → inside_at funs k f vs ps n ≡ seen_from n (call_at funs k f vs ps).level
  unfolding call_at inside_at
  inside_at_seen zero f vs ps n = no_level n
  inside_at_seen (suc k) f vs ps n =
      level_seen funs (call_at funs k) (inside_at funs k) (inside_at_seen k) (funs f).body (types_in (funs f).params) (funs f).result (value_at eps_emp (leaf_names (funs f).params) ps) (value_at unit_value (past_names (funs f)) vs) n

  -- a term's level from above, where it stands at the level n
  pub level_at_seen : (k : ℕ) (e : CoreTerm) (T : NameTypes) (r : StreamType) (d : Environment) (p : Past) (n : ℕ) → level_at funs k e T r d p n ≡ seen_from n (run_at funs k e T r d p).level
  level_at_seen k e T r d p n = level_seen funs (call_at funs k) (inside_at funs k) (inside_at_seen k) e T r d p n

pub level_is_from_above : LevelIsFromAbove
level_is_from_above funs k e T r d p = level_at_seen funs k e T r d p 0 ∙ seen_from-zero (run_at funs k e T r d p).level

pub mean_level_is_from_above : MeanLevelIsFromAbove
mean_level_is_from_above c p = level_is_from_above (fun_at c.funs) horizon c.main.body (types_in c.main.params) c.main.result (split c.main.params p) no_past
