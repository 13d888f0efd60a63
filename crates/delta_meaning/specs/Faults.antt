-- What is wrong with the names and the types of a program, in the order of reading.
--
-- Choices that are not obvious:
-- - Nothing of elaboration is read here: which names are bound, which functions are there and which types are
--   known is said over the tree alone. What has no type isn't said here.
-- - A written type that holds an unknown name has no height and no size: the name is what is wrong with it. So
--   it is with the input's type where a parameter's type holds one.
-- - The input's type stands at the word `main`, so before the types of the parameters.
-- - A name in a historical expression stands where the expression stands, and that of a `wait` at the `wait`.
use Rattle.std.specs.Prelude.{ℕ, Bool, true, false, List, [], ◌∷◌, ◌++◌, ◌||◌, nat_le, is_some}
use Rattle.stream_type.specs.StreamType.{StreamType, height_of, size_of}
use Rattle.bunch.specs.BunchTree.{as_type, leaf_names}
use Rattle.bunch.specs.Names.{put, holds}
use Rattle.hist_value.specs.HistExpr.{HistExpr, variable, literal, unit_expr, reckoned, pair_expr, first_expr, second_expr, left_expr, right_expr, choice, nil_expr, cons_expr, fold_expr}
use Rattle.delta_tree.specs.SyntaxTree.{WrittenType, eps_written, one_written, int_written, named_written, cat_written, par_written, sum_written, star_written, WrittenContext, no_parameters, parameter, side_by_side, in_sequence, WrittenHist, Expression, name_at, eps_at, unit_at, nil_at, hist_at, par_at, cat_at, cons_at, inl_at, inr_at, typed_at, let_at, let_par_at, let_cat_at, case_sum_at, case_star_at, wait_at, if_at, call_at, Head, name_head, call_head, typed_head, Expressions, no_expressions, expression_before, WrittenFunction, Declaration, alias_declared, function_declared, ProgramTree}
use Rattle.delta_tree.specs.Places.{place_of_type}
use Rattle.delta_meaning.specs.TypeNames.{TypeNames, no_type_names, type_meant, params_meant, names_below}
use Rattle.delta_meaning.specs.SourceBody.{SourceBody, body_meant, functions_of, is_function, names_below_all}
use Rattle.delta_meaning.specs.SourceMeaning.{source_past_names}

-- what may be wrong, with its place: a name that isn't bound, a function that isn't there, a type that isn't
-- known above, a type that is more than 64 high, or one with more than 4,096 nodes
pub data Fault : Type 0 where
  unbound : (x at : ℕ) → Fault
  no_function : (f at : ℕ) → Fault
  no_type : (t at : ℕ) → Fault
  too_tall : (at : ℕ) → Fault
  too_wide : (at : ℕ) → Fault

-- nothing where the test holds
abbrev pub unless : Bool → Fault → List Fault
unless true x = []
unless false x = x ∷ []

-- the second list where the first has nothing
abbrev pub or_else : List Fault → List Fault → List Fault
or_else [] ys = ys
or_else (x ∷ xs) ys = x ∷ xs

-- nothing where the first list has something
abbrev pub where_none : List Fault → List Fault → List Fault
where_none [] ys = ys
where_none (x ∷ xs) ys = []

-- the limits of a type that stands at a place
abbrev pub size_faults : ℕ → StreamType → List Fault
size_faults at t = unless (nat_le (height_of t) 64) (too_tall at) ++ unless (nat_le (size_of t) 4096) (too_wide at)

-- the unknown names of a written type
abbrev pub unknown_types : TypeNames → WrittenType → List Fault
unknown_types names (eps_written at) = []
unknown_types names (one_written at) = []
unknown_types names (int_written at) = []
unknown_types names (named_written at x) = unless (is_some (names x)) (no_type x at)
unknown_types names (cat_written at a b) = unknown_types names a ++ unknown_types names b
unknown_types names (par_written at a b) = unknown_types names a ++ unknown_types names b
unknown_types names (sum_written at a b) = unknown_types names a ++ unknown_types names b
unknown_types names (star_written at a) = unknown_types names a

-- what is wrong with a written type
abbrev pub type_faults : TypeNames → WrittenType → List Fault
type_faults names t = or_else (unknown_types names t) (size_faults (place_of_type t) (type_meant names t))

-- the unknown names of the types of parameters
abbrev pub unknown_in_params : TypeNames → WrittenContext → List Fault
unknown_in_params names no_parameters = []
unknown_in_params names (parameter x t) = unknown_types names t
unknown_in_params names (side_by_side a b) = unknown_in_params names a ++ unknown_in_params names b
unknown_in_params names (in_sequence a b) = unknown_in_params names a ++ unknown_in_params names b

-- what is wrong with the types of parameters
abbrev pub params_faults : TypeNames → WrittenContext → List Fault
params_faults names no_parameters = []
params_faults names (parameter x t) = type_faults names t
params_faults names (side_by_side a b) = params_faults names a ++ params_faults names b
params_faults names (in_sequence a b) = params_faults names a ++ params_faults names b

abbrev pub past_faults : TypeNames → List (ℕ × WrittenType) → List Fault
past_faults names [] = []
past_faults names (p ∷ ps) = type_faults names p.1 ++ past_faults names ps

-- the names of a historical expression that aren't bound; it stands at a place
abbrev pub expr_faults : ℕ → HistExpr → (ℕ → Bool) → List Fault
expr_faults at (variable x) bound = unless (bound x) (unbound x at)
expr_faults at (literal n) bound = []
expr_faults at unit_expr bound = []
expr_faults at (reckoned o a b) bound = expr_faults at a bound ++ expr_faults at b bound
expr_faults at (pair_expr a b) bound = expr_faults at a bound ++ expr_faults at b bound
expr_faults at (first_expr a) bound = expr_faults at a bound
expr_faults at (second_expr a) bound = expr_faults at a bound
expr_faults at (left_expr a) bound = expr_faults at a bound
expr_faults at (right_expr a) bound = expr_faults at a bound
expr_faults at (choice a x b y d) bound = expr_faults at a bound ++ (expr_faults at b (put x true bound) ++ expr_faults at d (put y true bound))
expr_faults at nil_expr bound = []
expr_faults at (cons_expr a b) bound = expr_faults at a bound ++ expr_faults at b bound
expr_faults at (fold_expr a s x y b) bound = expr_faults at a bound ++ (expr_faults at s bound ++ expr_faults at b (put y true (put x true bound)))

abbrev pub exprs_faults : List WrittenHist → (ℕ → Bool) → List Fault
exprs_faults [] bound = []
exprs_faults (m ∷ ms) bound = expr_faults m.at m.expr bound ++ exprs_faults ms bound

module _ (is_there : ℕ → Bool) (names : TypeNames) where
  abbrev mutual
    -- what is wrong with an expression, where some functions are there, some names of types known and some
    -- names bound
    pub faults_in : Expression → (ℕ → Bool) → List Fault
    faults_in (name_at at x) bound = unless (bound x) (unbound x at)
    faults_in (eps_at at) bound = []
    faults_in (unit_at at) bound = []
    faults_in (nil_at at) bound = []
    faults_in (hist_at at m) bound = expr_faults m.at m.expr bound
    faults_in (par_at at a b) bound = faults_in a bound ++ faults_in b bound
    faults_in (cat_at at a b) bound = faults_in a bound ++ faults_in b bound
    faults_in (cons_at at a b) bound = faults_in a bound ++ faults_in b bound
    faults_in (inl_at at a) bound = faults_in a bound
    faults_in (inr_at at a) bound = faults_in a bound
    faults_in (typed_at at a t) bound = faults_in a bound ++ type_faults names t
    faults_in (let_at at x h e) bound = head_faults h bound ++ faults_in e (put x true bound)
    faults_in (let_par_at at x y h e) bound = head_faults h bound ++ faults_in e (put y true (put x true bound))
    faults_in (let_cat_at at x y h e) bound = head_faults h bound ++ faults_in e (put y true (put x true bound))
    faults_in (case_sum_at at h x a y b) bound = head_faults h bound ++ (faults_in a (put x true bound) ++ faults_in b (put y true bound))
    faults_in (case_star_at at h a y ys b) bound = head_faults h bound ++ (faults_in a bound ++ faults_in b (put ys true (put y true bound)))
    faults_in (wait_at at x e) bound = unless (bound x) (unbound x at) ++ faults_in e bound
    faults_in (if_at at m a b) bound = expr_faults m.at m.expr bound ++ (faults_in a bound ++ faults_in b bound)
    faults_in (call_at at f ms es) bound = unless (is_there f) (no_function f at) ++ (exprs_faults ms bound ++ argument_faults es bound)

    -- what is wrong with a head
    pub head_faults : Head → (ℕ → Bool) → List Fault
    head_faults (name_head at x) bound = unless (bound x) (unbound x at)
    head_faults (call_head at f ms es) bound = unless (is_there f) (no_function f at) ++ (exprs_faults ms bound ++ argument_faults es bound)
    head_faults (typed_head at e t) bound = faults_in e bound ++ type_faults names t

    pub argument_faults : Expressions → (ℕ → Bool) → List Fault
    argument_faults no_expressions bound = []
    argument_faults (expression_before e es) bound = faults_in e bound ++ argument_faults es bound

-- the names that are bound in a body at first: those of its stream parameters and of its historical ones
abbrev pub bound_at_first : SourceBody → ℕ → Bool
bound_at_first b x = holds x (leaf_names b.params) || holds x (source_past_names b)

module _ (is_there : ℕ → Bool) where
  -- what is wrong with a function, where these names of types are known
  abbrev pub function_faults : TypeNames → WrittenFunction → List Fault
  function_faults names f =
      past_faults names f.past ++ (params_faults names f.context ++ (type_faults names f.result
      ++ faults_in is_there names f.body (bound_at_first (body_meant names f))))

  -- what is wrong with the main program: its input's type stands first
  abbrev pub main_faults : TypeNames → WrittenFunction → List Fault
  main_faults names f =
      where_none (unknown_in_params names f.context) (size_faults f.at (as_type (params_meant names f.context)))
      ++ function_faults names (record f { past = [] })

  -- what is wrong with declarations, in turn
  abbrev pub declaration_faults : TypeNames → List Declaration → List Fault
  declaration_faults names [] = []
  declaration_faults names (alias_declared a ∷ ds) = type_faults names a.type ++ declaration_faults (names_below names (alias_declared a)) ds
  declaration_faults names (function_declared f ∷ ds) = function_faults names f ++ declaration_faults names ds

-- what is wrong with a program
abbrev pub faults : ProgramTree → List Fault
faults p =
    declaration_faults (is_function (functions_of p)) no_type_names p.declarations
    ++ main_faults (is_function (functions_of p)) (names_below_all no_type_names p.declarations) p.main
