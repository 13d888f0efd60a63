-- Where a part of a tree needs brackets.
--
-- A form stands without brackets where the grammar derives it at that place without them. Each table below gives the forms that
-- need none at a place; at a place that isn't in it, as behind `=` or inside a bracket, no form does.
use Rattle.std.specs.Prelude.{ℕ, Bool, true, false, nat_le, List, [], ◌∷◌, ◌++◌, if◌then◌else◌}
use Rattle.hist_value.specs.declared.expr.Op.{Op}
use Rattle.hist_value.specs.declared.expr.Op.TheVariants.{Add, Sub, Mul, Div, Less, Same}
use Rattle.hist_value.specs.HistExpr.{HistExpr, variable, literal, unit_expr, reckoned, pair_expr, first_expr, second_expr, left_expr, right_expr, choice, nil_expr, cons_expr, fold_expr}
use Rattle.delta_tree.specs.SyntaxTree.{WrittenType, eps_written, one_written, int_written, named_written, cat_written, par_written, sum_written, star_written, WrittenContext, no_parameters, parameter, side_by_side, in_sequence, Expression, name_at, eps_at, unit_at, nil_at, hist_at, par_at, cat_at, cons_at, inl_at, inr_at, typed_at, let_at, let_par_at, let_cat_at, case_sum_at, case_star_at, wait_at, if_at, call_at}
use Rattle.delta_parse.specs.declared.terminal.Terminal.TheVariants.{Open, Close}
use Rattle.delta_print.specs.declared.chunk.Chunk.{Chunk}
use Rattle.delta_print.specs.declared.chunk.Chunk.TheVariants.{Fixed}
use Rattle.delta_print.specs.declared.place.TypePlace.{TypePlace}
use Rattle.delta_print.specs.declared.place.TypePlace.TheVariants as types
use Rattle.delta_print.specs.declared.place.ContextPlace.{ContextPlace}
use Rattle.delta_print.specs.declared.place.ContextPlace.TheVariants as contexts
use Rattle.delta_print.specs.declared.place.HistPlace.{HistPlace}
use Rattle.delta_print.specs.declared.place.HistPlace.TheVariants as hists

-- the tokens of a part, in brackets where it doesn't stand bare
abbrev pub enclosed : Bool → List Chunk → List Chunk
enclosed bare row = if bare then row else Fixed Open ∷ (row ++ Fixed Close ∷ [])

-- TYPES

-- a place takes the forms of its level and below without brackets
abbrev pub type_room : TypePlace → ℕ
type_room types.Par = 2
type_room types.Cat = 1
type_room types.Star = 0

abbrev pub type_level : WrittenType → ℕ
type_level (eps_written at) = 0
type_level (one_written at) = 0
type_level (int_written at) = 0
type_level (named_written at x) = 0
type_level (star_written at a) = 0
type_level (cat_written at a b) = 1
type_level (par_written at a b) = 2
type_level (sum_written at a b) = 3

abbrev pub type_bare : TypePlace → WrittenType → Bool
type_bare place t = nat_le (type_level t) (type_room place)

-- PARAMETERS

-- a list goes on to the right with its own sign alone
abbrev pub context_bare : ContextPlace → WrittenContext → Bool
context_bare place no_parameters = false
context_bare place (parameter x t) = true
context_bare contexts.Item (side_by_side a b) = false
context_bare contexts.Commas (side_by_side a b) = true
context_bare contexts.Semicolons (side_by_side a b) = false
context_bare contexts.Item (in_sequence a b) = false
context_bare contexts.Commas (in_sequence a b) = false
context_bare contexts.Semicolons (in_sequence a b) = true

-- HISTORICAL EXPRESSIONS

-- a place takes the forms of its level and below without brackets
abbrev pub hist_room : HistPlace → ℕ
hist_room hists.Comparison = 3
hist_room hists.Sum = 2
hist_room hists.Product = 1
hist_room hists.Unary = 0

-- operations group to the left, and a comparison stands beside no other
abbrev pub op_level : Op → ℕ
op_level Less = 3
op_level Same = 3
op_level Add = 2
op_level Sub = 2
op_level Mul = 1
op_level Div = 1

abbrev pub left_place : Op → HistPlace
left_place Less = hists.Sum
left_place Same = hists.Sum
left_place Add = hists.Sum
left_place Sub = hists.Sum
left_place Mul = hists.Product
left_place Div = hists.Product

abbrev pub right_place : Op → HistPlace
right_place Less = hists.Sum
right_place Same = hists.Sum
right_place Add = hists.Product
right_place Sub = hists.Product
right_place Mul = hists.Unary
right_place Div = hists.Unary

abbrev pub hist_level : HistExpr → ℕ
hist_level (variable x) = 0
hist_level (literal n) = 0
hist_level unit_expr = 0
hist_level nil_expr = 0
hist_level (pair_expr a b) = 0
hist_level (first_expr a) = 0
hist_level (second_expr a) = 0
hist_level (left_expr a) = 0
hist_level (right_expr a) = 0
hist_level (reckoned o a b) = op_level o
hist_level (choice a x b y c) = 4
hist_level (cons_expr a b) = 4
hist_level (fold_expr a s x y b) = 4

abbrev pub hist_bare : HistPlace → HistExpr → Bool
hist_bare place e = nat_le (hist_level e) (hist_room place)

-- EXPRESSIONS

-- left of a `::` and behind `inl` and `inr` these need brackets: what would go on to the right
abbrev pub expression_bare : Expression → Bool
expression_bare (name_at at x) = true
expression_bare (eps_at at) = true
expression_bare (unit_at at) = true
expression_bare (nil_at at) = true
expression_bare (hist_at at m) = true
expression_bare (par_at at a b) = true
expression_bare (cat_at at a b) = true
expression_bare (cons_at at a b) = false
expression_bare (inl_at at a) = true
expression_bare (inr_at at a) = true
expression_bare (typed_at at a t) = true
expression_bare (let_at at x h e) = false
expression_bare (let_par_at at x y h e) = false
expression_bare (let_cat_at at x y h e) = false
expression_bare (case_sum_at at h x a y b) = true
expression_bare (case_star_at at h a y ys b) = true
expression_bare (wait_at at x e) = false
expression_bare (if_at at m a b) = false
expression_bare (call_at at f ms es) = true
