-- Which names a program's tree declares and binds, how many, and whether those that are declared or bound together
-- are apart. All of it is told of the tree alone.
use Rattle.std.specs.Prelude.{ℕ, ◌+◌, ◌≡◌, ◌≤◌, ◌==◌, Bool, true, ◌&&◌, not, List, [], ◌∷◌, ◌++◌, length, map, if◌then◌else◌}
use Rattle.std.specs.List.{list_any}
use Rattle.hist_value.specs.HistExpr.{HistExpr, variable, literal, unit_expr, reckoned, pair_expr, first_expr, second_expr, left_expr, right_expr, choice, nil_expr, cons_expr, fold_expr}
use Rattle.delta_tree.specs.SyntaxTree.{WrittenContext, no_parameters, parameter, side_by_side, in_sequence, WrittenHist, Expression, name_at, eps_at, unit_at, nil_at, hist_at, par_at, cat_at, cons_at, inl_at, inr_at, typed_at, let_at, let_par_at, let_cat_at, case_sum_at, case_star_at, wait_at, if_at, call_at, Head, name_head, call_head, typed_head, Expressions, no_expressions, expression_before, WrittenFunction, Declaration, alias_declared, function_declared}

-- NAMES THAT ARE APART

-- none of these names stands among those before, or among these before it
abbrev pub are_new : List ℕ → List ℕ → Bool
are_new before [] = true
are_new before (x ∷ xs) = not (list_any (λ m. m == x) before) && are_new (before ++ (x ∷ [])) xs

-- no name stands twice
abbrev pub are_apart : List ℕ → Bool
are_apart xs = are_new [] xs

-- 1 where both names are the same, and else 0
abbrev pub same_names : ℕ → ℕ → ℕ
same_names x y = if x == y then 1 else 0

-- HOW MANY NAMES A TREE BINDS

-- those that choices and folds bind
abbrev pub bound_in_hist : HistExpr → ℕ
bound_in_hist (variable x) = 0
bound_in_hist (literal z) = 0
bound_in_hist unit_expr = 0
bound_in_hist (reckoned o a b) = bound_in_hist a + bound_in_hist b
bound_in_hist (pair_expr a b) = bound_in_hist a + bound_in_hist b
bound_in_hist (first_expr a) = bound_in_hist a
bound_in_hist (second_expr a) = bound_in_hist a
bound_in_hist (left_expr a) = bound_in_hist a
bound_in_hist (right_expr a) = bound_in_hist a
bound_in_hist (choice a x b y d) = bound_in_hist a + (1 + bound_in_hist b) + (1 + bound_in_hist d)
bound_in_hist nil_expr = 0
bound_in_hist (cons_expr a b) = bound_in_hist a + bound_in_hist b
bound_in_hist (fold_expr a s x y b) = bound_in_hist a + bound_in_hist s + (2 + bound_in_hist b)

abbrev pub bound_in_hists : List WrittenHist → ℕ
bound_in_hists [] = 0
bound_in_hists (m ∷ ms) = bound_in_hist m.expr + bound_in_hists ms

abbrev mutual
  -- those that patterns, arms and `with` bind; the name of a `wait` was bound before
  pub bound_in : Expression → ℕ
  bound_in (name_at at x) = 0
  bound_in (eps_at at) = 0
  bound_in (unit_at at) = 0
  bound_in (nil_at at) = 0
  bound_in (hist_at at m) = bound_in_hist m.expr
  bound_in (par_at at a b) = bound_in a + bound_in b
  bound_in (cat_at at a b) = bound_in a + bound_in b
  bound_in (cons_at at a b) = bound_in a + bound_in b
  bound_in (inl_at at a) = bound_in a
  bound_in (inr_at at a) = bound_in a
  bound_in (typed_at at a t) = bound_in a
  bound_in (let_at at x h e) = 1 + bound_in_head h + bound_in e
  bound_in (let_par_at at x y h e) = 2 + bound_in_head h + bound_in e
  bound_in (let_cat_at at x y h e) = 2 + bound_in_head h + bound_in e
  bound_in (case_sum_at at h x a y b) = bound_in_head h + (1 + bound_in a) + (1 + bound_in b)
  bound_in (case_star_at at h a y ys b) = bound_in_head h + bound_in a + (2 + bound_in b)
  bound_in (wait_at at x e) = bound_in e
  bound_in (if_at at m a b) = bound_in_hist m.expr + bound_in a + bound_in b
  bound_in (call_at at f ms es) = bound_in_hists ms + bound_in_all es

  pub bound_in_head : Head → ℕ
  bound_in_head (name_head at x) = 0
  bound_in_head (call_head at f ms es) = bound_in_hists ms + bound_in_all es
  bound_in_head (typed_head at a t) = bound_in a

  pub bound_in_all : Expressions → ℕ
  bound_in_all no_expressions = 0
  bound_in_all (expression_before e es) = bound_in e + bound_in_all es

-- HOW OFTEN TWO NAMES THAT ARE BOUND TOGETHER ARE THE SAME

-- in how many folds both names of the `with` are the same
abbrev pub twice_in_hist : HistExpr → ℕ
twice_in_hist (variable x) = 0
twice_in_hist (literal z) = 0
twice_in_hist unit_expr = 0
twice_in_hist (reckoned o a b) = twice_in_hist a + twice_in_hist b
twice_in_hist (pair_expr a b) = twice_in_hist a + twice_in_hist b
twice_in_hist (first_expr a) = twice_in_hist a
twice_in_hist (second_expr a) = twice_in_hist a
twice_in_hist (left_expr a) = twice_in_hist a
twice_in_hist (right_expr a) = twice_in_hist a
twice_in_hist (choice a x b y d) = twice_in_hist a + twice_in_hist b + twice_in_hist d
twice_in_hist nil_expr = 0
twice_in_hist (cons_expr a b) = twice_in_hist a + twice_in_hist b
twice_in_hist (fold_expr a s x y b) = twice_in_hist a + twice_in_hist s + (same_names x y + twice_in_hist b)

abbrev pub twice_in_hists : List WrittenHist → ℕ
twice_in_hists [] = 0
twice_in_hists (m ∷ ms) = twice_in_hist m.expr + twice_in_hists ms

abbrev mutual
  -- in how many patterns, `::` arms and `with` both names are the same
  pub twice_in : Expression → ℕ
  twice_in (name_at at x) = 0
  twice_in (eps_at at) = 0
  twice_in (unit_at at) = 0
  twice_in (nil_at at) = 0
  twice_in (hist_at at m) = twice_in_hist m.expr
  twice_in (par_at at a b) = twice_in a + twice_in b
  twice_in (cat_at at a b) = twice_in a + twice_in b
  twice_in (cons_at at a b) = twice_in a + twice_in b
  twice_in (inl_at at a) = twice_in a
  twice_in (inr_at at a) = twice_in a
  twice_in (typed_at at a t) = twice_in a
  twice_in (let_at at x h e) = twice_in_head h + twice_in e
  twice_in (let_par_at at x y h e) = same_names x y + twice_in_head h + twice_in e
  twice_in (let_cat_at at x y h e) = same_names x y + twice_in_head h + twice_in e
  twice_in (case_sum_at at h x a y b) = twice_in_head h + twice_in a + twice_in b
  twice_in (case_star_at at h a y ys b) = twice_in_head h + twice_in a + (same_names y ys + twice_in b)
  twice_in (wait_at at x e) = twice_in e
  twice_in (if_at at m a b) = twice_in_hist m.expr + twice_in a + twice_in b
  twice_in (call_at at f ms es) = twice_in_hists ms + twice_in_all es

  pub twice_in_head : Head → ℕ
  twice_in_head (name_head at x) = 0
  twice_in_head (call_head at f ms es) = twice_in_hists ms + twice_in_all es
  twice_in_head (typed_head at a t) = twice_in a

  pub twice_in_all : Expressions → ℕ
  twice_in_all no_expressions = 0
  twice_in_all (expression_before e es) = twice_in e + twice_in_all es

-- DECLARATIONS

-- the names of stream parameters, from left to right
abbrev pub parameter_names : WrittenContext → List ℕ
parameter_names no_parameters = []
parameter_names (parameter x t) = x ∷ []
parameter_names (side_by_side a b) = parameter_names a ++ parameter_names b
parameter_names (in_sequence a b) = parameter_names a ++ parameter_names b

-- the parameters of both kinds of a header, in the order of the text
abbrev pub header_names : WrittenFunction → List ℕ
header_names f = map (λ p. p.0) f.past ++ parameter_names f.context

-- the names that `type` declares, and those that `fun` declares
abbrev pub type_names : List Declaration → List ℕ
type_names [] = []
type_names (alias_declared a ∷ ds) = a.name ∷ type_names ds
type_names (function_declared f ∷ ds) = type_names ds

abbrev pub function_names : List Declaration → List ℕ
function_names [] = []
function_names (alias_declared a ∷ ds) = function_names ds
function_names (function_declared f ∷ ds) = f.name ∷ function_names ds

-- a function or `main`: its parameters are apart, the two names of each pattern, `::` arm and `with` are, and it
-- binds at most 1,024 names
pub record IsNamed (f : WrittenFunction) : Type 0 where
  pub parameters : are_apart (header_names f) ≡ true
  pub pairs : twice_in f.body ≡ 0
  pub few : length (header_names f) + bound_in f.body ≤ 1024

-- so is each declaration
abbrev pub AreAllNamed : List Declaration → Type 0
AreAllNamed [] = Unit {0}
AreAllNamed (alias_declared a ∷ ds) = AreAllNamed ds
AreAllNamed (function_declared f ∷ ds) = IsNamed f × AreAllNamed ds

-- a program: no type and no function is declared twice, there are at most 1,000 functions, and each declaration and
-- `main` is named so
pub record IsNamedProgram (ds : List Declaration) (m : WrittenFunction) : Type 0 where
  pub types : are_apart (type_names ds) ≡ true
  pub functions : are_apart (function_names ds) ≡ true
  pub few : length (function_names ds) ≤ 1000
  pub declared : AreAllNamed ds
  pub main : IsNamed m
