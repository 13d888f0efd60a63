-- The grammar derives the tokens of each expression, at each place where it may stand.
use Rattle.std.proofs.Common.{◌≡◌, ℕ, true, List, [], ◌∷◌, ◌++◌, refl, subst, ap}
use Rattle.grammar.specs.Rules.{thing, list, pair, part}
use Rattle.delta_tree.specs.SyntaxTree.{WrittenType, WrittenHist, Expression, name_at, eps_at, unit_at, nil_at, hist_at, par_at, cat_at, cons_at, inl_at, inr_at, typed_at, let_at, let_par_at, let_cat_at, case_sum_at, case_star_at, wait_at, if_at, call_at, Head, name_head, call_head, typed_head, Expressions, no_expressions, expression_before}
use Rattle.delta_tree.specs.Unplaced.{unplaced_hist, unplaced_hists, unplaced_expression, unplaced_head, unplaced_expressions}
use Rattle.delta_parse.specs.declared.terminal.Terminal.{Terminal}
use Rattle.delta_parse.specs.declared.terminal.Terminal.TheVariants.{LetWord, InWord, CaseWord, OfWord, InlWord, InrWord, NilWord, WaitWord, EpsWord, IfWord, ThenWord, ElseWord, Open, Close, OpenBrace, CloseBrace, Comma, Semicolon, Colon, Colons, Equals, Arrow, Bar}
use Rattle.delta_parse.specs.Parts.{expression_thing, head_thing, history_thing, pattern_thing, arms_thing, type_thing, Pattern, one_name, Arms, sum_arms, star_arms, a_type, an_expression, a_pattern, a_head, an_application, an_atom, an_ending, the_arms, arguments, more_histories, more_expressions}
use Rattle.delta_parse.specs.Rules.{is_separator, histories_rule, expressions_rule}
use Rattle.delta_parse.specs.Actions.{expression_list, let_with, pattern_with, case_with}
use Rattle.delta_print.specs.declared.chunk.Chunk.{Chunk}
use Rattle.delta_print.specs.declared.chunk.Chunk.TheVariants.{Fixed}
use Rattle.delta_print.specs.Chunks.{named}
use Rattle.delta_print.specs.Rows.{hist_row, hists_row, more_hists_row, two_row, case_row, sum_arms_row, star_arms_row, bound_row, pattern_row, call_row, expression_row, application_row, head_row, expressions_row, more_expressions_row}
use Rattle.delta_print.proofs.Deriving.{From, token_from, part_from, both_from, alone_from, left_from, right_from, none_from, some_from, placed_from, make_from, sign_from, grouped_from}
use Rattle.delta_print.proofs.DerivedTypes.{brackets, type_stands}
use Rattle.delta_print.proofs.DerivedHistories.{hist_stands}

-- an expression, derived as a whole and left of a `::`, by the rows that stand there
pub record ExpressionStands (e : Expression) (whole application : List Chunk) : Type 0 where
  pub is_expression : From {s = thing expression_thing} (part an_expression) whole e
  pub is_application : From {s = thing expression_thing} (part an_application) application e

expression_of_application : (u : List Chunk) (e : Expression) → From {s = thing expression_thing} (part an_application) u e → From {s = thing expression_thing} (part an_expression) u e
expression_of_application u e d = part_from an_expression (right_from (right_from (right_from (make_from (placed_from (alone_from d none_from))))))

at_application : (u : List Chunk) (e : Expression) → From {s = thing expression_thing} (part an_application) u e → ExpressionStands e u u
at_application u e d = record { is_expression = expression_of_application u e d; is_application = d }

at_atom : (u : List Chunk) (e : Expression) → From {s = thing expression_thing} (part an_atom) u e → ExpressionStands e u u
at_atom u e d = at_application u e (part_from an_application (right_from (right_from d)))

-- in brackets it is an atom
bracket_from : (u : List Chunk) (e : Expression) → From {s = thing expression_thing} (part an_expression) u e → From {s = thing expression_thing} (part an_atom) (brackets u) e
bracket_from u e d =
    part_from an_atom (right_from (right_from (right_from (left_from (make_from (both_from (sign_from Open refl)
    (right_from (make_from (both_from d (part_from an_ending (left_from (make_from (sign_from Close refl)))))))))))))

at_expression : (u : List Chunk) (e : Expression) → From {s = thing expression_thing} (part an_expression) u e → ExpressionStands e u (brackets u)
at_expression u e d = record { is_expression = d; is_application = (at_atom (brackets u) e (bracket_from u e d)).is_application }

-- HISTORICAL ARGUMENTS

more_hists_from : (ms : List WrittenHist) → From {s = list (thing history_thing)} (part more_histories) (more_hists_row ms) (unplaced_hists ms)
more_hists_from [] = part_from more_histories (make_from none_from)
more_hists_from (m ∷ ms) =
    part_from more_histories (make_from (some_from (both_from (sign_from Comma refl) (both_from (hist_stands m.expr).is_history (more_hists_from ms)))))

hists_from : (ms : List WrittenHist) → From {s = list (thing history_thing)} histories_rule (hists_row ms) (unplaced_hists ms)
hists_from [] = make_from none_from
hists_from (m ∷ ms) =
    make_from (some_from (make_from (both_from (sign_from OpenBrace refl)
    (grouped_from (hist_row m.expr) (more_hists_row ms) (Fixed CloseBrace ∷ []) (both_from (make_from (both_from (hist_stands m.expr).is_history (more_hists_from ms))) (sign_from CloseBrace refl))))))

-- STREAM ARGUMENTS

-- without their places, as a list
abbrev items : Expressions → List Expression
items no_expressions = []
items (expression_before e es) = unplaced_expression e ∷ items es

items-list : (es : Expressions) → expression_list (items es) ≡ unplaced_expressions es
items-list no_expressions = refl
items-list (expression_before e es) = ap (expression_before (unplaced_expression e)) (items-list es)

-- what stands behind a function's name
arguments_from : (ms : List WrittenHist) (u : List Chunk) (es : List Expression) → From {s = list (thing expression_thing)} expressions_rule (u ++ Fixed Close ∷ []) es
    → From {s = pair (list (thing history_thing)) (list (thing expression_thing))} (part arguments) (hists_row ms ++ Fixed Open ∷ (u ++ Fixed Close ∷ [])) (unplaced_hists ms, es)
arguments_from ms u es d = part_from arguments (make_from (both_from (hists_from ms) (both_from (sign_from Open refl) d)))

call_from : (f : ℕ) (ms : List WrittenHist) (u : List Chunk) (es : List Expression) → From {s = list (thing expression_thing)} expressions_rule (u ++ Fixed Close ∷ []) es
    → From {s = thing expression_thing} (part an_atom) (call_row f ms u) (call_at 0 f (unplaced_hists ms) (expression_list es))
call_from f ms u es d = part_from an_atom (left_from (make_from (both_from (token_from (named f) refl) (some_from (arguments_from ms u es d)))))

head_call_from : (f : ℕ) (ms : List WrittenHist) (u : List Chunk) (es : List Expression) → From {s = list (thing expression_thing)} expressions_rule (u ++ Fixed Close ∷ []) es
    → From {s = thing head_thing} (part a_head) (call_row f ms u) (call_head 0 f (unplaced_hists ms) (expression_list es))
head_call_from f ms u es d = part_from a_head (left_from (make_from (both_from (token_from (named f) refl) (some_from (arguments_from ms u es d)))))

-- FORMS

two_at_once_from : (u w : List Chunk) (a b : Expression) → From {s = thing expression_thing} (part an_expression) u a → From {s = thing expression_thing} (part an_expression) w b
    → From {s = thing expression_thing} (part an_atom) (two_row Comma u w) (par_at 0 a b)
two_at_once_from u w a b d e =
    part_from an_atom (right_from (right_from (right_from (left_from (make_from (both_from (sign_from Open refl)
    (right_from (make_from (both_from d (part_from an_ending (right_from (left_from (make_from (both_from (sign_from Comma refl) (both_from e (sign_from Close refl))))))))))))))))

two_in_turn_from : (u w : List Chunk) (a b : Expression) → From {s = thing expression_thing} (part an_expression) u a → From {s = thing expression_thing} (part an_expression) w b
    → From {s = thing expression_thing} (part an_atom) (two_row Semicolon u w) (cat_at 0 a b)
two_in_turn_from u w a b d e =
    part_from an_atom (right_from (right_from (right_from (left_from (make_from (both_from (sign_from Open refl)
    (right_from (make_from (both_from d (part_from an_ending (right_from (right_from (left_from (make_from (both_from (sign_from Semicolon refl) (both_from e (sign_from Close refl)))))))))))))))))

typed_from : (u w : List Chunk) (a : Expression) (t : WrittenType) → From {s = thing expression_thing} (part an_expression) u a → From {s = thing type_thing} (part a_type) w t
    → From {s = thing expression_thing} (part an_atom) (two_row Colon u w) (typed_at 0 a t)
typed_from u w a t d e =
    part_from an_atom (right_from (right_from (right_from (left_from (make_from (both_from (sign_from Open refl)
    (right_from (make_from (both_from d (part_from an_ending (right_from (right_from (right_from (make_from (both_from (sign_from Colon refl) (both_from e (sign_from Close refl)))))))))))))))))

typed_head_from : (u w : List Chunk) (a : Expression) (t : WrittenType) → From {s = thing expression_thing} (part an_expression) u a → From {s = thing type_thing} (part a_type) w t
    → From {s = thing head_thing} (part a_head) (two_row Colon u w) (typed_head 0 a t)
typed_head_from u w a t d e =
    part_from a_head (right_from (make_from (both_from (sign_from Open refl) (both_from d (both_from (sign_from Colon refl) (both_from e (sign_from Close refl)))))))

name_pattern_from : (x : ℕ) → From {s = thing pattern_thing} (part a_pattern) (named x ∷ []) (one_name x)
name_pattern_from x = part_from a_pattern (left_from (make_from (token_from (named x) refl)))

pattern_from : (k : Terminal) → is_separator k ≡ true → (x y : ℕ) → From {s = thing pattern_thing} (part a_pattern) (pattern_row k x y) (pattern_with k x y)
pattern_from k is x y =
    part_from a_pattern (right_from (make_from (both_from (sign_from Open refl) (both_from (token_from (named x) refl) (both_from (token_from (Fixed k) is)
    (both_from (token_from (named y) refl) (sign_from Close refl)))))))

-- a `let` of any pattern
let_from : (p u w : List Chunk) (x : Pattern) (h : Head) (e : Expression) → From {s = thing pattern_thing} (part a_pattern) p x → From {s = thing head_thing} (part a_head) u h
    → From {s = thing expression_thing} (part an_expression) w e → From {s = thing expression_thing} (part an_expression) (Fixed LetWord ∷ (p ++ bound_row u w)) (let_with 0 x h e)
let_from p u w x h e d f g =
    part_from an_expression (left_from (make_from (both_from (sign_from LetWord refl) (both_from d (both_from (sign_from Equals refl) (both_from f (both_from (sign_from InWord refl) g)))))))

wait_from : (x : ℕ) (u : List Chunk) (e : Expression) → From {s = thing expression_thing} (part an_expression) u e
    → From {s = thing expression_thing} (part an_expression) (Fixed WaitWord ∷ named x ∷ Fixed InWord ∷ u) (wait_at 0 x e)
wait_from x u e d =
    part_from an_expression (right_from (left_from (make_from (both_from (sign_from WaitWord refl) (both_from (token_from (named x) refl) (both_from (sign_from InWord refl) d))))))

if_from : (m : WrittenHist) (u w : List Chunk) (a b : Expression) → From {s = thing expression_thing} (part an_expression) u a → From {s = thing expression_thing} (part an_expression) w b
    → From {s = thing expression_thing} (part an_expression) (Fixed IfWord ∷ (hist_row m.expr ++ (Fixed ThenWord ∷ (u ++ (Fixed ElseWord ∷ w))))) (if_at 0 (unplaced_hist m) a b)
if_from m u w a b d e =
    part_from an_expression (right_from (right_from (left_from (make_from (both_from (sign_from IfWord refl) (both_from (hist_stands m.expr).is_history
    (both_from (sign_from ThenWord refl) (both_from d (both_from (sign_from ElseWord refl) e)))))))))

cons_from : (u w : List Chunk) (a b : Expression) → From {s = thing expression_thing} (part an_application) u a → From {s = thing expression_thing} (part an_expression) w b
    → From {s = thing expression_thing} (part an_expression) (u ++ Fixed Colons ∷ w) (cons_at 0 a b)
cons_from u w a b d e = part_from an_expression (right_from (right_from (right_from (make_from (placed_from (both_from d (some_from (both_from (sign_from Colons refl) e))))))))

case_from : (u w : List Chunk) (h : Head) (x : Arms) → From {s = thing head_thing} (part a_head) u h → From {s = thing arms_thing} (part the_arms) w x
    → From {s = thing expression_thing} (part an_atom) (case_row u w) (case_with 0 h x)
case_from u w h x d e =
    part_from an_atom (right_from (right_from (right_from (right_from (right_from (make_from (both_from (sign_from CaseWord refl) (both_from d
    (both_from (sign_from OfWord refl) (both_from (sign_from OpenBrace refl) (both_from e (sign_from CloseBrace refl))))))))))))

sum_arms_from : (x y : ℕ) (u w : List Chunk) (a b : Expression) → From {s = thing expression_thing} (part an_expression) u a → From {s = thing expression_thing} (part an_expression) w b
    → From {s = thing arms_thing} (part the_arms) (sum_arms_row x u y w) (sum_arms x a y b)
sum_arms_from x y u w a b d e =
    part_from the_arms (left_from (make_from (both_from (sign_from InlWord refl) (both_from (token_from (named x) refl) (both_from (sign_from Arrow refl) (both_from d
    (both_from (sign_from Bar refl) (both_from (sign_from InrWord refl) (both_from (token_from (named y) refl) (both_from (sign_from Arrow refl) e))))))))))

star_arms_from : (y ys : ℕ) (u w : List Chunk) (a b : Expression) → From {s = thing expression_thing} (part an_expression) u a → From {s = thing expression_thing} (part an_expression) w b
    → From {s = thing arms_thing} (part the_arms) (star_arms_row u y ys w) (star_arms a y ys b)
star_arms_from y ys u w a b d e =
    part_from the_arms (right_from (make_from (both_from (sign_from NilWord refl) (both_from (sign_from Arrow refl) (both_from d
    (both_from (sign_from Bar refl) (both_from (token_from (named y) refl) (both_from (sign_from Colons refl) (both_from (token_from (named ys) refl) (both_from (sign_from Arrow refl) e))))))))))

past_from : (m : WrittenHist) → From {s = thing expression_thing} (part an_atom) (Fixed OpenBrace ∷ (hist_row m.expr ++ Fixed CloseBrace ∷ [])) (hist_at 0 (unplaced_hist m))
past_from m =
    part_from an_atom (right_from (right_from (right_from (right_from (left_from (make_from (both_from (sign_from OpenBrace refl) (both_from (hist_stands m.expr).is_history (sign_from CloseBrace refl)))))))))

inl_from : (u : List Chunk) (e : Expression) → From {s = thing expression_thing} (part an_application) u e → From {s = thing expression_thing} (part an_application) (Fixed InlWord ∷ u) (inl_at 0 e)
inl_from u e d = part_from an_application (left_from (make_from (both_from (sign_from InlWord refl) d)))

inr_from : (u : List Chunk) (e : Expression) → From {s = thing expression_thing} (part an_application) u e → From {s = thing expression_thing} (part an_application) (Fixed InrWord ∷ u) (inr_at 0 e)
inr_from u e d = part_from an_application (right_from (left_from (make_from (both_from (sign_from InrWord refl) d))))

mutual
  -- the tokens of each expression are derived
  pub expression_stands : (e : Expression) → ExpressionStands (unplaced_expression e) (expression_row e) (application_row e)
  expression_stands (name_at at x) = at_atom _ _ (part_from an_atom (left_from (make_from (both_from (token_from (named x) refl) none_from))))
  expression_stands (eps_at at) = at_atom _ _ (part_from an_atom (right_from (left_from (make_from (sign_from EpsWord refl)))))
  expression_stands (unit_at at) = at_atom _ _ (part_from an_atom (right_from (right_from (right_from (left_from (make_from (both_from (sign_from Open refl) (left_from (make_from (sign_from Close refl))))))))))
  expression_stands (nil_at at) = at_atom _ _ (part_from an_atom (right_from (right_from (left_from (make_from (sign_from NilWord refl))))))
  expression_stands (hist_at at m) = at_atom _ _ (past_from m)
  expression_stands (par_at at a b) = at_atom _ _ (two_at_once_from _ _ _ _ (expression_stands a).is_expression (expression_stands b).is_expression)
  expression_stands (cat_at at a b) = at_atom _ _ (two_in_turn_from _ _ _ _ (expression_stands a).is_expression (expression_stands b).is_expression)
  expression_stands (cons_at at a b) = at_expression _ _ (cons_from _ _ _ _ (expression_stands a).is_application (expression_stands b).is_expression)
  expression_stands (inl_at at a) = at_application _ _ (inl_from _ _ (expression_stands a).is_application)
  expression_stands (inr_at at a) = at_application _ _ (inr_from _ _ (expression_stands a).is_application)
  expression_stands (typed_at at a t) = at_atom _ _ (typed_from _ _ _ _ (expression_stands a).is_expression (type_stands t).is_type)
  expression_stands (let_at at x h e) = at_expression _ _ (let_from _ _ _ _ _ _ (name_pattern_from x) (head_stands h) (expression_stands e).is_expression)
  expression_stands (let_par_at at x y h e) = at_expression _ _ (let_from _ _ _ _ _ _ (pattern_from Comma refl x y) (head_stands h) (expression_stands e).is_expression)
  expression_stands (let_cat_at at x y h e) = at_expression _ _ (let_from _ _ _ _ _ _ (pattern_from Semicolon refl x y) (head_stands h) (expression_stands e).is_expression)
  expression_stands (case_sum_at at h x a y b) = at_atom _ _ (case_from _ _ _ _ (head_stands h) (sum_arms_from x y _ _ _ _ (expression_stands a).is_expression (expression_stands b).is_expression))
  expression_stands (case_star_at at h a y ys b) = at_atom _ _ (case_from _ _ _ _ (head_stands h) (star_arms_from y ys _ _ _ _ (expression_stands a).is_expression (expression_stands b).is_expression))
  expression_stands (wait_at at x e) = at_expression _ _ (wait_from x _ _ (expression_stands e).is_expression)
  expression_stands (if_at at m a b) = at_expression _ _ (if_from m _ _ _ _ (expression_stands a).is_expression (expression_stands b).is_expression)
  expression_stands (call_at at f ms es) =
      let P : Expressions → Type 0 = λ r. From {s = thing expression_thing} (part an_atom) (call_row f ms (expressions_row es)) (call_at 0 f (unplaced_hists ms) r) in
      at_atom _ _ (subst P (items-list es) (call_from f ms (expressions_row es) (items es) (arguments_stand es)))

  -- those of a head
  pub head_stands : (h : Head) → From {s = thing head_thing} (part a_head) (head_row h) (unplaced_head h)
  head_stands (name_head at x) = part_from a_head (left_from (make_from (both_from (token_from (named x) refl) none_from)))
  head_stands (call_head at f ms es) =
      let P : Expressions → Type 0 = λ r. From {s = thing head_thing} (part a_head) (call_row f ms (expressions_row es)) (call_head 0 f (unplaced_hists ms) r) in
      subst P (items-list es) (head_call_from f ms (expressions_row es) (items es) (arguments_stand es))
  head_stands (typed_head at a t) = typed_head_from _ _ _ _ (expression_stands a).is_expression (type_stands t).is_type

  -- those of stream arguments, and the bracket behind them
  arguments_stand : (es : Expressions) → From {s = list (thing expression_thing)} expressions_rule (expressions_row es ++ Fixed Close ∷ []) (items es)
  arguments_stand no_expressions = left_from (make_from (sign_from Close refl))
  arguments_stand (expression_before e es) =
      right_from (make_from (both_from (make_from (both_from (expression_stands e).is_expression (more_stand es))) (sign_from Close refl)))

  more_stand : (es : Expressions) → From {s = list (thing expression_thing)} (part more_expressions) (more_expressions_row es) (items es)
  more_stand no_expressions = part_from more_expressions (make_from none_from)
  more_stand (expression_before e es) =
      part_from more_expressions (make_from (some_from (both_from (sign_from Comma refl) (both_from (expression_stands e).is_expression (more_stand es)))))
