-- The names of core terms: which occur free, which are bound, and what the names of a program keep.
use Rattle.std.specs.Prelude.{ℕ, ◌<◌, ◌≡◌, ◌==◌, ◌^◌, ◌+◌, Bool, true, ◌&&◌, not, if◌then◌else◌, List, [], ◌∷◌, ◌++◌, length, IsTrue}
use Rattle.std.specs.List.{All}
use Rattle.bunch.specs.Names.{holds}
use Rattle.bunch.specs.BunchTree.{leaf_names}
use Rattle.hist_value.specs.HistExpr.{HistExpr, variable, literal, unit_expr, reckoned, pair_expr, first_expr, second_expr, left_expr, right_expr, choice, nil_expr, cons_expr, fold_expr}
use Rattle.core_term.specs.CoreTerm.{CoreTerm, CoreTerms, CoreBody, CoreProgram, var_term, eps_term, unit_term, nil_term, past_term, par_term, cat_term, cons_term, inl_term, inr_term, let_term, let_par_term, let_cat_term, case_sum_term, case_star_term, wait_term, call_term, no_terms, term_before, past_names, node_count}

-- the list less a name
abbrev pub without : ℕ → List ℕ → List ℕ
without x [] = []
without x (y ∷ ys) = if y == x then without x ys else y ∷ without x ys

abbrev mutual
  -- the free stream names in the order of use, each as often as it is used. A name counts by its form,
  -- so the subject of a wait is free in what follows the wait too
  pub free_names : CoreTerm → List ℕ
  free_names (var_term x) = x ∷ []
  free_names eps_term = []
  free_names unit_term = []
  free_names nil_term = []
  free_names (past_term m) = []
  free_names (par_term a b) = free_names a ++ free_names b
  free_names (cat_term a b) = free_names a ++ free_names b
  free_names (cons_term a b) = free_names a ++ free_names b
  free_names (inl_term a) = free_names a
  free_names (inr_term a) = free_names a
  free_names (let_term x s a b) = free_names a ++ without x (free_names b)
  free_names (let_par_term x y z a) = z ∷ without x (without y (free_names a))
  free_names (let_cat_term x y z a) = z ∷ without x (without y (free_names a))
  free_names (case_sum_term z t x a y b) = z ∷ (without x (free_names a) ++ without y (free_names b))
  free_names (case_star_term z t a y ys b) = z ∷ (free_names a ++ without y (without ys (free_names b)))
  free_names (wait_term x t a) = x ∷ free_names a
  free_names (call_term f ms es) = free_in_terms es

  pub free_in_terms : CoreTerms → List ℕ
  free_in_terms no_terms = []
  free_in_terms (term_before e es) = free_names e ++ free_in_terms es

-- the first list, and after it each name of the second that isn't there yet, in turn
abbrev pub add_new : List ℕ → List ℕ → List ℕ
add_new found [] = found
add_new found (x ∷ xs) = add_new (if holds x found then found else found ++ x ∷ []) xs

-- each name of the list once, in the order of first use
abbrev pub once : List ℕ → List ℕ
once xs = add_new [] xs

-- the names that a historical expression binds, in the order of reading
abbrev pub bound_in_expr : HistExpr → List ℕ
bound_in_expr (variable x) = []
bound_in_expr (literal n) = []
bound_in_expr unit_expr = []
bound_in_expr (reckoned o a b) = bound_in_expr a ++ bound_in_expr b
bound_in_expr (pair_expr a b) = bound_in_expr a ++ bound_in_expr b
bound_in_expr (first_expr a) = bound_in_expr a
bound_in_expr (second_expr a) = bound_in_expr a
bound_in_expr (left_expr a) = bound_in_expr a
bound_in_expr (right_expr a) = bound_in_expr a
bound_in_expr (choice a x b y c) = bound_in_expr a ++ ((x ∷ bound_in_expr b) ++ (y ∷ bound_in_expr c))
bound_in_expr nil_expr = []
bound_in_expr (cons_expr a b) = bound_in_expr a ++ bound_in_expr b
bound_in_expr (fold_expr a s x y b) = bound_in_expr a ++ (bound_in_expr s ++ (x ∷ (y ∷ bound_in_expr b)))

abbrev pub bound_in_exprs : List HistExpr → List ℕ
bound_in_exprs [] = []
bound_in_exprs (m ∷ ms) = bound_in_expr m ++ bound_in_exprs ms

abbrev mutual
  -- the names that a term binds, those inside its historical expressions too; a wait binds none
  pub bound_names : CoreTerm → List ℕ
  bound_names (var_term x) = []
  bound_names eps_term = []
  bound_names unit_term = []
  bound_names nil_term = []
  bound_names (past_term m) = bound_in_expr m
  bound_names (par_term a b) = bound_names a ++ bound_names b
  bound_names (cat_term a b) = bound_names a ++ bound_names b
  bound_names (cons_term a b) = bound_names a ++ bound_names b
  bound_names (inl_term a) = bound_names a
  bound_names (inr_term a) = bound_names a
  bound_names (let_term x s a b) = x ∷ (bound_names a ++ bound_names b)
  bound_names (let_par_term x y z a) = x ∷ (y ∷ bound_names a)
  bound_names (let_cat_term x y z a) = x ∷ (y ∷ bound_names a)
  bound_names (case_sum_term z t x a y b) = (x ∷ bound_names a) ++ (y ∷ bound_names b)
  bound_names (case_star_term z t a y ys b) = bound_names a ++ (y ∷ (ys ∷ bound_names b))
  bound_names (wait_term x t a) = bound_names a
  bound_names (call_term f ms es) = bound_in_exprs ms ++ bound_in_terms es

  pub bound_in_terms : CoreTerms → List ℕ
  bound_in_terms no_terms = []
  bound_in_terms (term_before e es) = bound_names e ++ bound_in_terms es

-- the names that a body binds: its parameters of both kinds, and those inside
abbrev pub names_bound_by : CoreBody → List ℕ
names_bound_by b = past_names b ++ (leaf_names b.params ++ bound_names b.body)

-- whether no name stands twice in the list
abbrev pub is_distinct : List ℕ → Bool
is_distinct [] = true
is_distinct (x ∷ xs) = not (holds x xs) && is_distinct xs

-- the numbers of nodes of bodies, added up
abbrev pub nodes_of_bodies : List CoreBody → ℕ
nodes_of_bodies [] = 0
nodes_of_bodies (b ∷ bs) = node_count b.body + nodes_of_bodies bs

-- a body binds each name at most once, and each of them has a text
pub record IsBoundOnce (texts : ℕ) (b : CoreBody) : Type 0 where
  pub is_once : IsTrue (is_distinct (names_bound_by b))
  pub has_text : (x : ℕ) → holds x (names_bound_by b) ≡ true → x < texts

-- what each program keeps: every body binds each name at most once, each bound name has a text, and the
-- main program has no historical parameters
pub record IsCore (c : CoreProgram) : Type 0 where
  pub funs_once : All (IsBoundOnce (length c.texts)) c.funs
  pub main_once : IsBoundOnce (length c.texts) c.main
  pub main_past : c.main.past ≡ []

-- it has fewer than 2^32 nodes, so that each of them has a number
abbrev pub HasFewNodes : CoreProgram → Type 0
HasFewNodes c = nodes_of_bodies c.funs + node_count c.main.body < 2 ^ 32
