-- What the parts of a rule make together: the actions of the grammar.
use Rattle.std.specs.Prelude.{ℕ, List, Option, Some, None, [], ◌∷◌, neg_ℤ}
use Rattle.hist_value.specs.declared.expr.Op.{Op}
use Rattle.hist_value.specs.declared.expr.Op.TheVariants.{Add, Sub, Mul, Div, Less as LessOp, Same}
use Rattle.hist_value.specs.HistExpr.{HistExpr, variable, literal, unit_expr, reckoned, pair_expr, first_expr, second_expr, left_expr, right_expr, choice, nil_expr, cons_expr, fold_expr}
use Rattle.delta_tree.specs.SyntaxTree.{WrittenType, star_written, WrittenContext, parameter, side_by_side, in_sequence, WrittenHist, Expression, name_at, eps_at, unit_at, nil_at, hist_at, par_at, cat_at, cons_at, inl_at, inr_at, typed_at, let_at, let_par_at, let_cat_at, case_sum_at, case_star_at, wait_at, if_at, call_at, Head, name_head, call_head, typed_head, Expressions, no_expressions, expression_before, WrittenFunction, Declaration, alias_declared, function_declared}
use Rattle.delta_parse.specs.declared.terminal.Terminal.{Terminal}
use Rattle.delta_parse.specs.declared.terminal.Terminal.TheVariants.{FstWord, SndWord, InlWord, Semicolon, Plus, Minus, Times, Slash, Less}
use Rattle.delta_parse.specs.Terminals.{Tok}
use Rattle.delta_parse.specs.Parts.{Pattern, one_name, two_at_once, two_in_turn, Arms, sum_arms, star_arms, Ending, plain_ending, at_once, in_turn, of_type}

-- what stands behind a sign or between two
abbrev pub second_of : {A : Type 0} → Tok × A → A
second_of (t, a) = a

abbrev pub first_of : {A : Type 0} → A × Tok → A
first_of (a, t) = a

-- what stands between two signs
abbrev pub between : {A : Type 0} → Tok × (A × Tok) → A
between (open', (a, close')) = a

-- a list that may be left out
abbrev pub given_or_none : {A : Type 0} → Option (List A) → List A
given_or_none None = []
given_or_none (Some as') = as'

-- a first one and more
abbrev pub items_of : {A : Type 0} → A × List A → List A
items_of (a, more) = a ∷ more

-- one more of what is repeated, or none
abbrev pub more_of : {A : Type 0} → Option (A × List A) → List A
more_of None = []
more_of (Some (a, more)) = a ∷ more

-- one more behind a sign
abbrev pub more_behind : {A : Type 0} → Option (Tok × (A × List A)) → List A
more_behind None = []
more_behind (Some (t, (a, more))) = a ∷ more

-- TYPES

-- a left part, and maybe a right one behind its sign: the whole stands at its first token, and a part alone keeps its own place
abbrev pub joined : (ℕ → WrittenType → WrittenType → WrittenType) → ℕ × (WrittenType × Option (Tok × WrittenType)) → WrittenType
joined form (at, (left, None)) = left
joined form (at, (left, Some (sign, right))) = form at left right

abbrev pub starred : ℕ → WrittenType → List Tok → WrittenType
starred at t [] = t
starred at t (s ∷ more) = starred at (star_written at t) more

abbrev pub star_of : ℕ × (WrittenType × List Tok) → WrittenType
star_of (at, (t, stars)) = starred at t stars

abbrev pub bracketed_type : Tok × (WrittenType × Tok) → WrittenType
bracketed_type (open', (t, close')) = t

-- PARAMETERS

abbrev pub entry_of : Tok × (Tok × WrittenType) → ℕ × WrittenType
entry_of (x, (colon, t)) = (x.worth.name, t)

abbrev pub parameter_of : Tok × (Tok × WrittenType) → WrittenContext
parameter_of (x, (colon, t)) = parameter x.worth.name t

abbrev pub bracketed_context : Tok × (WrittenContext × Tok) → WrittenContext
bracketed_context (open', (c, close')) = c

-- an item, and maybe more behind a comma or a semicolon
abbrev pub context_with : Terminal → WrittenContext → WrittenContext → WrittenContext
context_with Semicolon a b = in_sequence a b
context_with _ a b = side_by_side a b

abbrev pub context_from : WrittenContext × Option (Tok × WrittenContext) → WrittenContext
context_from (a, None) = a
context_from (a, Some (sign, b)) = context_with sign.kind a b

-- HISTORICAL EXPRESSIONS

abbrev pub hist_with : ℕ → HistExpr → WrittenHist
hist_with at e = record { at = at; expr = e }

abbrev pub operator : Terminal → Op
operator Plus = Add
operator Minus = Sub
operator Times = Mul
operator Slash = Div
operator Less = LessOp
operator _ = Same

-- operations group to the left; the whole stands at its first token, and an operand alone keeps its own place
abbrev pub to_left : ℕ → WrittenHist → List (Tok × WrittenHist) → WrittenHist
to_left at h [] = h
to_left at h ((t, r) ∷ more) = to_left at (hist_with at (reckoned (operator t.kind) h.expr r.expr)) more

abbrev pub grouped : ℕ × (WrittenHist × List (Tok × WrittenHist)) → WrittenHist
grouped (at, (h, more)) = to_left at h more

abbrev pub compared : ℕ × (WrittenHist × Option (Tok × WrittenHist)) → WrittenHist
compared (at, (h, None)) = h
compared (at, (h, Some (t, r))) = hist_with at (reckoned (operator t.kind) h.expr r.expr)

abbrev pub hist_consed : ℕ × (WrittenHist × Option (Tok × WrittenHist)) → WrittenHist
hist_consed (at, (h, None)) = h
hist_consed (at, (h, Some (t, r))) = hist_with at (cons_expr h.expr r.expr)

abbrev pub prefixed_expr : Terminal → HistExpr → HistExpr
prefixed_expr FstWord e = first_expr e
prefixed_expr SndWord e = second_expr e
prefixed_expr InlWord e = left_expr e
prefixed_expr _ e = right_expr e

abbrev pub prefixed : Tok × WrittenHist → WrittenHist
prefixed (t, h) = hist_with t.at (prefixed_expr t.kind h.expr)

abbrev pub named_hist : Tok → WrittenHist
named_hist t = hist_with t.at (variable t.worth.name)

abbrev pub number_hist : Tok → WrittenHist
number_hist t = hist_with t.at (literal t.worth.number)

abbrev pub negative_hist : Tok × Tok → WrittenHist
negative_hist (minus, t) = hist_with minus.at (literal (neg_ℤ t.worth.number))

abbrev pub nil_hist : Tok → WrittenHist
nil_hist t = hist_with t.at nil_expr

-- what stands behind an opening bracket: its closing one, or an expression and maybe a second one behind a comma
abbrev pub unit_inside : Tok → Option (WrittenHist × Option (Tok × WrittenHist))
unit_inside close' = None

abbrev pub pair_inside : WrittenHist × (Option (Tok × WrittenHist) × Tok) → Option (WrittenHist × Option (Tok × WrittenHist))
pair_inside (h, (second, close')) = Some (h, second)

abbrev pub bracketed_hist : Tok × Option (WrittenHist × Option (Tok × WrittenHist)) → WrittenHist
bracketed_hist (open', None) = hist_with open'.at unit_expr
bracketed_hist (open', Some (h, None)) = h
bracketed_hist (open', Some (h, Some (comma, r))) = hist_with open'.at (pair_expr h.expr r.expr)

-- "fold" hist "from" hist "with" name "," name "." hist
abbrev pub folded : Tok × (WrittenHist × (Tok × (WrittenHist × (Tok × (Tok × (Tok × (Tok × (Tok × WrittenHist)))))))) → WrittenHist
folded (f, (l, (from', (s, (with', (x, (comma, (y, (dot, b))))))))) = hist_with f.at (fold_expr l.expr s.expr x.worth.name y.worth.name b.expr)

-- "inl" name "=>" hist
abbrev pub branch_of : Tok × (Tok × (Tok × WrittenHist)) → ℕ × WrittenHist
branch_of (word, (x, (arrow, h))) = (x.worth.name, h)

abbrev pub chosen : Tok × (WrittenHist × (Tok × (Tok × ((ℕ × WrittenHist) × (Tok × ((ℕ × WrittenHist) × Tok)))))) → WrittenHist
chosen (c, (h, (of', (open', ((x, l), (bar, ((y, r), close'))))))) = hist_with c.at (choice h.expr x l.expr y r.expr)

-- EXPRESSIONS

abbrev pub expression_list : List Expression → Expressions
expression_list [] = no_expressions
expression_list (e ∷ es) = expression_before e (expression_list es)

-- a name, or two with a comma or a semicolon between them
abbrev pub pattern_with : Terminal → ℕ → ℕ → Pattern
pattern_with Semicolon x y = two_in_turn x y
pattern_with _ x y = two_at_once x y

abbrev pub pattern_of : Tok × (Tok × (Tok × (Tok × Tok))) → Pattern
pattern_of (open', (x, (sign, (y, close')))) = pattern_with sign.kind x.worth.name y.worth.name

abbrev pub name_pattern : Tok → Pattern
name_pattern t = one_name t.worth.name

-- "let" pat "=" head "in" exp
abbrev pub let_with : ℕ → Pattern → Head → Expression → Expression
let_with at (one_name x) h e = let_at at x h e
let_with at (two_at_once x y) h e = let_par_at at x y h e
let_with at (two_in_turn x y) h e = let_cat_at at x y h e

abbrev pub let_of : Tok × (Pattern × (Tok × (Head × (Tok × Expression)))) → Expression
let_of (l, (p, (equals, (h, (in', e))))) = let_with l.at p h e

-- "wait" name "in" exp
abbrev pub wait_of : Tok × (Tok × (Tok × Expression)) → Expression
wait_of (w, (x, (in', e))) = wait_at w.at x.worth.name e

-- "if" hist "then" exp "else" exp
abbrev pub if_of : Tok × (WrittenHist × (Tok × (Expression × (Tok × Expression)))) → Expression
if_of (i, (m, (then', (a, (else', b))))) = if_at i.at m a b

abbrev pub consed : ℕ × (Expression × Option (Tok × Expression)) → Expression
consed (at, (e, None)) = e
consed (at, (e, Some (sign, f))) = cons_at at e f

-- a name, or a call where arguments stand behind it
abbrev pub head_from : Tok × Option (List WrittenHist × List Expression) → Head
head_from (x, None) = name_head x.at x.worth.name
head_from (x, Some (ms, es)) = call_head x.at x.worth.name ms (expression_list es)

abbrev pub atom_from : Tok × Option (List WrittenHist × List Expression) → Expression
atom_from (x, None) = name_at x.at x.worth.name
atom_from (x, Some (ms, es)) = call_at x.at x.worth.name ms (expression_list es)

-- "(" exp ":" type ")"
abbrev pub typed_head_of : Tok × (Expression × (Tok × (WrittenType × Tok))) → Head
typed_head_of (open', (e, (colon, (t, close')))) = typed_head open'.at e t

abbrev pub inl_of : Tok × Expression → Expression
inl_of (t, e) = inl_at t.at e

abbrev pub inr_of : Tok × Expression → Expression
inr_of (t, e) = inr_at t.at e

abbrev pub eps_of : Tok → Expression
eps_of t = eps_at t.at

abbrev pub nil_of : Tok → Expression
nil_of t = nil_at t.at

-- what stands behind an opening bracket: its closing one, or an expression and how the bracket ends
abbrev pub nothing_inside : Tok → Option (Expression × Ending)
nothing_inside close' = None

abbrev pub something_inside : Expression × Ending → Option (Expression × Ending)
something_inside x = Some x

abbrev pub ended_plain : Tok → Ending
ended_plain close' = plain_ending

abbrev pub ended_at_once : Tok × (Expression × Tok) → Ending
ended_at_once (sign, (e, close')) = at_once e

abbrev pub ended_in_turn : Tok × (Expression × Tok) → Ending
ended_in_turn (sign, (e, close')) = in_turn e

abbrev pub ended_of_type : Tok × (WrittenType × Tok) → Ending
ended_of_type (sign, (t, close')) = of_type t

-- plain brackets leave no node, and what stands in them keeps its own place
abbrev pub ended : ℕ → Expression → Ending → Expression
ended at e plain_ending = e
ended at e (at_once f) = par_at at e f
ended at e (in_turn f) = cat_at at e f
ended at e (of_type t) = typed_at at e t

abbrev pub bracketed : Tok × Option (Expression × Ending) → Expression
bracketed (open', None) = unit_at open'.at
bracketed (open', Some (e, ending)) = ended open'.at e ending

-- "{" hist "}"
abbrev pub past_atom : Tok × (WrittenHist × Tok) → Expression
past_atom (open', (m, close')) = hist_at open'.at m

-- "inl" name "=>" exp "|" "inr" name "=>" exp
abbrev pub sum_arms_of : Tok × (Tok × (Tok × (Expression × (Tok × (Tok × (Tok × (Tok × Expression))))))) → Arms
sum_arms_of (inl', (x, (arrow, (a, (bar, (inr', (y, (arrow', b)))))))) = sum_arms x.worth.name a y.worth.name b

-- "nil" "=>" exp "|" name "::" name "=>" exp
abbrev pub star_arms_of : Tok × (Tok × (Expression × (Tok × (Tok × (Tok × (Tok × (Tok × Expression))))))) → Arms
star_arms_of (nil', (arrow, (a, (bar, (y, (cons', (ys, (arrow', b)))))))) = star_arms a y.worth.name ys.worth.name b

abbrev pub case_with : ℕ → Head → Arms → Expression
case_with at h (sum_arms x a y b) = case_sum_at at h x a y b
case_with at h (star_arms a y ys b) = case_star_at at h a y ys b

-- "case" head "of" "{" arms "}"
abbrev pub case_of : Tok × (Head × (Tok × (Tok × (Arms × Tok)))) → Expression
case_of (c, (h, (of', (open', (arms, close'))))) = case_with c.at h arms

abbrev pub no_arguments : Tok → List Expression
no_arguments close' = []

-- [ "{" hist { "," hist } "}" ] "(" [ exp { "," exp } ] ")"
abbrev pub arguments_of : List WrittenHist × (Tok × List Expression) → List WrittenHist × List Expression
arguments_of (ms, (open', es)) = (ms, es)

-- DECLARATIONS

-- "type" name "=" type
abbrev pub alias_from : Tok × (Tok × (Tok × WrittenType)) → Declaration
alias_from (t, (x, (equals, s))) = alias_declared (record { name = x.worth.name; type = s; at = t.at })

abbrev pub function_with : ℕ → ℕ → List (ℕ × WrittenType) → WrittenContext → WrittenType → Expression → WrittenFunction
function_with at name past context result body = record { name = name; past = past; context = context; result = result; body = body; at = at }

-- "fun" name [ past ] params ":" type "=" exp
abbrev pub function_from : Tok × (Tok × (List (ℕ × WrittenType) × (WrittenContext × (Tok × (WrittenType × (Tok × Expression)))))) → Declaration
function_from (f, (x, (past, (c, (colon, (t, (equals, e))))))) = function_declared (function_with f.at x.worth.name past c t e)

-- "main" params ":" type "=" exp: the number of its name is put in once all names are known
abbrev pub main_from : Tok × (WrittenContext × (Tok × (WrittenType × (Tok × Expression)))) → WrittenFunction
main_from (m, (c, (colon, (t, (equals, e))))) = function_with m.at 0 [] c t e
