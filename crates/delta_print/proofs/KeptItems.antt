-- Each action of the grammar keeps the items of what it is made of, in order.
use Rattle.std.proofs.Common.{◌≡◌, ℕ, Bool, true, false, ◌||◌, List, [], ◌∷◌, ◌++◌, Option, Some, None, refl, sym, ap, ap₂, ◌∙◌, append_assoc, append-nil, arith}
use Rattle.std.specs.Prelude.{◌==◌}
use Rattle.std.proofs.lemmas.Bool.Decides.{nat_tests}
use Rattle.grammar.specs.Rules.{Sort, token, thing, pair, list}
use Rattle.delta_tree.specs.SyntaxTree.{WrittenType, sum_written, par_written, cat_written, star_written, WrittenContext, WrittenHist, Expression, if_at, Head, WrittenFunction}
use Rattle.hist_value.specs.HistExpr.{HistExpr, reckoned, choice, fold_expr}
use Rattle.delta_parse.specs.declared.terminal.Terminal.{Terminal}
use Rattle.delta_parse.specs.declared.terminal.Terminal.TheVariants.{FunWord, MainWord, TypeWord, LetWord, InWord, CaseWord, OfWord, InlWord, InrWord, NilWord, WaitWord, EpsWord, IfWord, ThenWord, ElseWord, FoldWord, FromWord, WithWord, IntWord, FstWord, SndWord, Open, Close, OpenBrace, CloseBrace, Comma, Semicolon, Colon, Colons, Equals, Arrow, Bar, Bars, Plus, Minus, Times, Slash, Less, Dot, NameToken, OneToken, NumberToken}
use Rattle.delta_parse.specs.Terminals.{Tok, code_of, is_kind}
use Rattle.delta_parse.specs.Parts.{Pattern, one_name, two_at_once, two_in_turn, Arms, sum_arms, star_arms, Ending, plain_ending, at_once, in_turn, of_type, Thing, type_thing, context_thing, entry_thing, history_thing, expression_thing, declaration_thing, Meant, Part, a_program, declarations, a_declaration, a_main, a_past, an_entry, more_entries, parameters, a_context, more_commas, more_semicolons, an_item, a_type, a_par, a_cat, a_star, more_stars, a_base, an_expression, a_pattern, a_head, an_application, an_atom, an_ending, the_arms, arguments, more_histories, more_expressions, a_history, a_comparison, a_sum, more_summands, a_product, more_factors, a_unary, a_history_atom, stands_for}
use Rattle.delta_parse.specs.Rules.{alias_rule, function_rule, let_rule, wait_rule, if_rule, cons_rule, bracket_rule, braces_rule, case_rule, name_rule, sum_arms_rule, star_arms_rule, histories_rule, expressions_rule, fold_rule, choice_rule, hist_cons_rule, hist_bracket_rule, rule_of}
use Rattle.delta_parse.specs.Actions.{more_of, more_behind, given_or_none, function_with, context_from, joined, starred, let_with, consed, head_from, atom_from, pattern_with, ended, bracketed, case_with, hist_consed, compared, to_left, hist_with, operator, bracketed_hist}
use Rattle.delta_print.specs.declared.chunk.Chunk.{Chunk}
use Rattle.delta_print.specs.declared.chunk.Chunk.TheVariants.{Fixed, TypeStar}
use Rattle.delta_print.specs.declared.place.TypePlace.TheVariants as types
use Rattle.delta_print.specs.declared.place.HistPlace.TheVariants as hists
use Rattle.delta_print.specs.Brackets.{enclosed, type_bare, hist_bare, expression_bare}
use Rattle.delta_print.specs.Chunks.{named}
use Rattle.delta_print.specs.Rows.{type_row, hist_row, expression_row, head_row, context_row, arm_row, sum_arms_row, star_arms_row, case_row, two_row, step_row, past_row, signature_row, function_row}
use Rattle.delta_print.proofs.Items.{Item, name, items, pattern_items, arms_items, ending_items, option_items, value_items, rule_items, TellNames, Keeps}
use Rattle.delta_print.proofs.ItemsOfRows.{items-append, items_before, items-enclosed, items-two, items-past, items-call, items-reckoned, items-prefixed, items-negated, items-context_with, items-between, items_inside, items-signature}

-- KINDS

same_kind : (n a k : ℕ) → (a == k) ≡ true → (n == k) ≡ (a == n)
same_kind n a k h = grind (arith, nat_tests)

tell : (a : Terminal) → TellNames (is_kind a)
tell a k h = same_kind (code_of NameToken) (code_of a) (code_of k) h

-- two kinds, neither of which is a name
tell_two : (p q : Terminal → Bool) → p NameToken ≡ false → q NameToken ≡ false → TellNames p → TellNames q → TellNames (λ k. p k || q k)
tell_two p q e f g h k i = cases (p k) refl i
  where
    cases : (b : Bool) → p k ≡ b → b || q k ≡ true → is_kind NameToken k ≡ (p NameToken || q NameToken)
    cases true c j = g k c ∙ e ∙ sym (ap₂ (λ x y. x || y) e f)
    cases false c j = h k j ∙ f ∙ sym (ap₂ (λ x y. x || y) e f)

tell_separator : TellNames (λ k. is_kind Comma k || is_kind Semicolon k)
tell_separator = tell_two (is_kind Comma) (is_kind Semicolon) refl refl (tell Comma) (tell Semicolon)

tell_comparison : TellNames (λ k. is_kind Less k || is_kind Equals k)
tell_comparison = tell_two (is_kind Less) (is_kind Equals) refl refl (tell Less) (tell Equals)

tell_sum : TellNames (λ k. is_kind Plus k || is_kind Minus k)
tell_sum = tell_two (is_kind Plus) (is_kind Minus) refl refl (tell Plus) (tell Minus)

tell_product : TellNames (λ k. is_kind Times k || is_kind Slash k)
tell_product = tell_two (is_kind Times) (is_kind Slash) refl refl (tell Times) (tell Slash)

tell_number : TellNames (λ k. is_kind OneToken k || is_kind NumberToken k)
tell_number = tell_two (is_kind OneToken) (is_kind NumberToken) refl refl (tell OneToken) (tell NumberToken)

tell_prefix : TellNames (λ k. is_kind FstWord k || (is_kind SndWord k || (is_kind InlWord k || is_kind InrWord k)))
tell_prefix =
    tell_two (is_kind FstWord) (λ k. is_kind SndWord k || (is_kind InlWord k || is_kind InrWord k)) refl refl (tell FstWord)
    (tell_two (is_kind SndWord) (λ k. is_kind InlWord k || is_kind InrWord k) refl refl (tell SndWord)
    (tell_two (is_kind InlWord) (is_kind InrWord) refl refl (tell InlWord) (tell InrWord)))

-- LISTS

more_of_kept : (s : Sort Thing) (x : Option (Meant s × List (Meant s))) → value_items (list s) (more_of x) ≡ option_items (λ v. value_items s v.0 ++ value_items (list s) v.1) x
more_of_kept s None = refl
more_of_kept s (Some x) = refl

more_behind_kept : (s : Sort Thing) (x : Option (Tok × (Meant s × List (Meant s)))) → value_items (list s) (more_behind x) ≡ option_items (λ v. value_items s v.1.0 ++ value_items (list s) v.1.1) x
more_behind_kept s None = refl
more_behind_kept s (Some x) = refl

given_or_none_kept : (s : Sort Thing) (x : Option (List (Meant s))) → value_items (list s) (given_or_none x) ≡ option_items (value_items (list s)) x
given_or_none_kept s None = refl
given_or_none_kept s (Some x) = refl

-- nothing stands behind
alone : (u : List Item) → u ≡ u ++ []
alone u = sym (append-nil u)

-- PARAMETERS AND TYPES

-- an item, and more behind a sign or none
context_from_kept : (x : WrittenContext × Option (Tok × WrittenContext)) → items (context_row (context_from x)) ≡ items (context_row x.0) ++ option_items (λ v. items (context_row v.1)) x.1
context_from_kept (a, None) = alone (items (context_row a))
context_from_kept (a, Some (t, b)) = items-context_with t.kind a b

joined_kept : (form : ℕ → WrittenType → WrittenType → WrittenType) → ((at : ℕ) (a b : WrittenType) → items (type_row (form at a b)) ≡ items (type_row a) ++ items (type_row b))
    → (x : ℕ × (WrittenType × Option (Tok × WrittenType))) → items (type_row (joined form x)) ≡ items (type_row x.1.0) ++ option_items (λ v. items (type_row v.1)) x.1.1
joined_kept form h (at, (a, None)) = alone (items (type_row a))
joined_kept form h (at, (a, Some (t, b))) = h at a b

sum_kept : (at : ℕ) (a b : WrittenType) → items (type_row (sum_written at a b)) ≡ items (type_row a) ++ items (type_row b)
sum_kept at a b = items-two (type_bare types.Par a) true (type_row a) (type_row b) (Fixed Plus) refl

par_kept : (at : ℕ) (a b : WrittenType) → items (type_row (par_written at a b)) ≡ items (type_row a) ++ items (type_row b)
par_kept at a b = items-two (type_bare types.Cat a) (type_bare types.Par b) (type_row a) (type_row b) (Fixed Bars) refl

cat_kept : (at : ℕ) (a b : WrittenType) → items (type_row (cat_written at a b)) ≡ items (type_row a) ++ items (type_row b)
cat_kept at a b = items-two (type_bare types.Star a) (type_bare types.Cat b) (type_row a) (type_row b) (Fixed Dot) refl

starred_kept : (at : ℕ) (t : WrittenType) (ss : List Tok) → items (type_row (starred at t ss)) ≡ items (type_row t) ++ value_items (list token) ss
starred_kept at t [] = alone (items (type_row t))
starred_kept at t (s ∷ ss) =
    starred_kept at (star_written at t) ss
    ∙ ap (λ r. r ++ value_items (list token) ss) (items_before (enclosed (type_bare types.Star t) (type_row t)) TypeStar refl ∙ items-enclosed (type_bare types.Star t) (type_row t))

-- HISTORICAL EXPRESSIONS

hist_consed_kept : (x : ℕ × (WrittenHist × Option (Tok × WrittenHist))) → items (hist_row (hist_consed x).expr) ≡ items (hist_row x.1.0.expr) ++ option_items (λ v. items (hist_row v.1.expr)) x.1.1
hist_consed_kept (at, (h, None)) = alone (items (hist_row h.expr))
hist_consed_kept (at, (h, Some (t, r))) = items-between (enclosed (hist_bare hists.Comparison h.expr) (hist_row h.expr)) (Fixed Colons) (hist_row r.expr) refl
    ∙ ap (λ u. u ++ items (hist_row r.expr)) (items-enclosed (hist_bare hists.Comparison h.expr) (hist_row h.expr))

compared_kept : (x : ℕ × (WrittenHist × Option (Tok × WrittenHist))) → items (hist_row (compared x).expr) ≡ items (hist_row x.1.0.expr) ++ option_items (λ v. items (hist_row v.1.expr)) x.1.1
compared_kept (at, (h, None)) = alone (items (hist_row h.expr))
compared_kept (at, (h, Some (t, r))) = items-reckoned (operator t.kind) h.expr r.expr

to_left_kept : (at : ℕ) (h : WrittenHist) (more : List (Tok × WrittenHist)) → items (hist_row (to_left at h more).expr) ≡ items (hist_row h.expr) ++ value_items (list (pair token (thing history_thing))) more
to_left_kept at h [] = alone (items (hist_row h.expr))
to_left_kept at h (x ∷ more) =
    to_left_kept at (hist_with at (reckoned (operator x.0.kind) h.expr x.1.expr)) more
    ∙ ap (λ r. r ++ value_items (list (pair token (thing history_thing))) more) (items-reckoned (operator x.0.kind) h.expr x.1.expr)
    ∙ append_assoc (items (hist_row h.expr)) (items (hist_row x.1.expr)) (value_items (list (pair token (thing history_thing))) more)

bracketed_hist_kept : (x : Tok × Option (WrittenHist × Option (Tok × WrittenHist)))
    → items (hist_row (bracketed_hist x).expr) ≡ option_items (λ v. items (hist_row v.0.expr) ++ option_items (λ w. items (hist_row w.1.expr)) v.1) x.1
bracketed_hist_kept (t, None) = refl
bracketed_hist_kept (t, Some (h, None)) = alone (items (hist_row h.expr))
bracketed_hist_kept (t, Some (h, Some r)) = items_inside (hist_row h.expr) (Fixed Comma) (hist_row r.1.expr) (Fixed Close) refl refl

-- the inside of a bracket
pair_kept : (h : WrittenHist) (o : Option (Tok × WrittenHist))
    → items (hist_row h.expr) ++ option_items (λ w. items (hist_row w.1.expr)) o ≡ items (hist_row h.expr) ++ (option_items (λ w. items (hist_row w.1.expr)) o ++ [])
pair_kept h o = ap (λ r. items (hist_row h.expr) ++ r) (alone (option_items (λ w. items (hist_row w.1.expr)) o))

folded_kept : (l s b : HistExpr) (x y : ℕ) → items (hist_row (fold_expr l s x y b)) ≡ items (hist_row l) ++ (items (hist_row s) ++ (name x ∷ name y ∷ items (hist_row b)))
folded_kept l s b x y =
    items-between (hist_row l) (Fixed FromWord) (hist_row s ++ step_row x y (hist_row b)) refl
    ∙ ap (λ r. items (hist_row l) ++ r) (items-append (hist_row s) (step_row x y (hist_row b)))

-- the arms of a choice, and of a case, by the side of a sum
sum_arms_kept : (x y : ℕ) (a b : List Chunk) → items (sum_arms_row x a y b) ≡ name x ∷ (items a ++ (name y ∷ items b))
sum_arms_kept x y a b = ap (λ r. name x ∷ r) (items-append a (Fixed Bar ∷ Fixed InrWord ∷ arm_row y b))

star_arms_kept : (y ys : ℕ) (a b : List Chunk) → items (star_arms_row a y ys b) ≡ items a ++ (name y ∷ name ys ∷ items b)
star_arms_kept y ys a b = items-append a (Fixed Bar ∷ named y ∷ Fixed Colons ∷ arm_row ys b)

-- a case of a subject with its arms
case_kept : (subject arms : List Chunk) → items (case_row subject arms) ≡ items subject ++ items arms
case_kept subject arms =
    items-append subject (Fixed OfWord ∷ Fixed OpenBrace ∷ (arms ++ Fixed CloseBrace ∷ [])) ∙ ap (λ r. items subject ++ r) (items_before arms (Fixed CloseBrace) refl)

chosen_kept : (h l r : HistExpr) (x y : ℕ) → items (hist_row (choice h x l y r)) ≡ items (hist_row h) ++ ((name x ∷ items (hist_row l)) ++ ((name y ∷ items (hist_row r)) ++ []))
chosen_kept h l r x y =
    case_kept (hist_row h) (sum_arms_row x (hist_row l) y (hist_row r))
    ∙ ap (λ u. items (hist_row h) ++ u) (sum_arms_kept x y (hist_row l) (hist_row r) ∙ ap (λ u. (name x ∷ items (hist_row l)) ++ u) (alone (name y ∷ items (hist_row r))))

-- EXPRESSIONS

let_with_kept : (at : ℕ) (p : Pattern) (h : Head) (e : Expression) → items (expression_row (let_with at p h e)) ≡ pattern_items p ++ (items (head_row h) ++ items (expression_row e))
let_with_kept at (one_name x) h e = ap (λ r. name x ∷ r) (items-between (head_row h) (Fixed InWord) (expression_row e) refl)
let_with_kept at (two_at_once x y) h e = ap (λ r. name x ∷ name y ∷ r) (items-between (head_row h) (Fixed InWord) (expression_row e) refl)
let_with_kept at (two_in_turn x y) h e = ap (λ r. name x ∷ name y ∷ r) (items-between (head_row h) (Fixed InWord) (expression_row e) refl)

consed_kept : (x : ℕ × (Expression × Option (Tok × Expression))) → items (expression_row (consed x)) ≡ items (expression_row x.1.0) ++ option_items (λ v. items (expression_row v.1)) x.1.1
consed_kept (at, (e, None)) = alone (items (expression_row e))
consed_kept (at, (e, Some (t, f))) = items-between (enclosed (expression_bare e) (expression_row e)) (Fixed Colons) (expression_row f) refl
    ∙ ap (λ u. u ++ items (expression_row f)) (items-enclosed (expression_bare e) (expression_row e))

head_from_kept : (x : Tok × Option (List WrittenHist × List Expression))
    → items (head_row (head_from x)) ≡ name x.0.worth.name ∷ option_items (value_items (pair (list (thing history_thing)) (list (thing expression_thing)))) x.1
head_from_kept (t, None) = refl
head_from_kept (t, Some (ms, es)) = items-call t.worth.name ms es

atom_from_kept : (x : Tok × Option (List WrittenHist × List Expression))
    → items (expression_row (atom_from x)) ≡ name x.0.worth.name ∷ option_items (value_items (pair (list (thing history_thing)) (list (thing expression_thing)))) x.1
atom_from_kept (t, None) = refl
atom_from_kept (t, Some (ms, es)) = items-call t.worth.name ms es

pattern_with_kept : (k : Terminal) (x y : ℕ) → pattern_items (pattern_with k x y) ≡ name x ∷ name y ∷ []
pattern_with_kept Semicolon x y = refl
pattern_with_kept _ x y = refl

ended_kept : (at : ℕ) (e : Expression) (x : Ending) → items (expression_row (ended at e x)) ≡ items (expression_row e) ++ ending_items x
ended_kept at e plain_ending = alone (items (expression_row e))
ended_kept at e (at_once f) = items_inside (expression_row e) (Fixed Comma) (expression_row f) (Fixed Close) refl refl
ended_kept at e (in_turn f) = items_inside (expression_row e) (Fixed Semicolon) (expression_row f) (Fixed Close) refl refl
ended_kept at e (of_type t) = items_inside (expression_row e) (Fixed Colon) (type_row t) (Fixed Close) refl refl

bracketed_kept : (x : Tok × Option (Expression × Ending)) → items (expression_row (bracketed x)) ≡ option_items (λ v. items (expression_row v.0) ++ ending_items v.1) x.1
bracketed_kept (t, None) = refl
bracketed_kept (t, Some (e, x)) = ended_kept t.at e x

case_with_kept : (at : ℕ) (h : Head) (x : Arms) → items (expression_row (case_with at h x)) ≡ items (head_row h) ++ arms_items x
case_with_kept at h (sum_arms x a y b) = case_kept (head_row h) (sum_arms_row x (expression_row a) y (expression_row b))
case_with_kept at h (star_arms a y ys b) = case_kept (head_row h) (star_arms_row (expression_row a) y ys (expression_row b))

if_kept : (m : WrittenHist) (at : ℕ) (a b : Expression) → items (expression_row (if_at at m a b)) ≡ items (hist_row m.expr) ++ (items (expression_row a) ++ items (expression_row b))
if_kept m at a b =
    items-between (hist_row m.expr) (Fixed ThenWord) (expression_row a ++ (Fixed ElseWord ∷ expression_row b)) refl
    ∙ ap (λ r. items (hist_row m.expr) ++ r) (items-between (expression_row a) (Fixed ElseWord) (expression_row b) refl)

-- an expression with its type
typed_kept : (a b : List Chunk) → items (two_row Colon a b) ≡ items a ++ (items b ++ [])
typed_kept a b = items_inside a (Fixed Colon) b (Fixed Close) refl refl ∙ ap (λ r. items a ++ r) (alone (items b))

-- FUNCTIONS

function_kept : (f : WrittenFunction) → items (function_row f)
    ≡ name f.name ∷ (value_items (list (thing entry_thing)) f.past ++ (items (context_row f.context) ++ (items (type_row f.result) ++ items (expression_row f.body))))
function_kept f = ap (λ r. name f.name ∷ r) (items-append (past_row f.past) (signature_row f) ∙ ap₂ (λ u w. u ++ w) (items-past f.past) (items-signature f))

-- what stands in brackets
enclosed_kept : (s : Sort Thing) (v : Meant s) → value_items s v ≡ value_items s v ++ []
enclosed_kept s v = alone (value_items s v)

-- RULES

alias_keeps : Keeps alias_rule
alias_keeps = (λ x. refl, (tell TypeWord, (tell NameToken, (tell Equals, tt))))

function_keeps : Keeps function_rule
function_keeps = (λ x. function_kept (function_with x.0.at x.1.0.worth.name x.1.1.0 x.1.1.1.0 x.1.1.1.1.1.0 x.1.1.1.1.1.1.1), (tell FunWord, (tell NameToken, ((given_or_none_kept (thing entry_thing), tt), (tt, (tell Colon, (tt, (tell Equals, tt))))))))

let_keeps : Keeps let_rule
let_keeps = (λ x. let_with_kept x.0.at x.1.0 x.1.1.1.0 x.1.1.1.1.1, (tell LetWord, (tt, (tell Equals, (tt, (tell InWord, tt))))))

wait_keeps : Keeps wait_rule
wait_keeps = (λ x. refl, (tell WaitWord, (tell NameToken, (tell InWord, tt))))

if_keeps : Keeps if_rule
if_keeps = (λ x. if_kept x.1.0 x.0.at x.1.1.1.0 x.1.1.1.1.1, (tell IfWord, (tt, (tell ThenWord, (tt, (tell ElseWord, tt))))))

cons_keeps : Keeps cons_rule
cons_keeps = (consed_kept, (tt, (tell Colons, tt)))

name_keeps : Keeps name_rule
name_keeps = (atom_from_kept, (tell NameToken, tt))

bracket_keeps : Keeps bracket_rule
bracket_keeps = (bracketed_kept, (tell Open, (λ v. refl, ((λ x. refl, tell Close), (λ x. refl, (tt, tt))))))

braces_keeps : Keeps braces_rule
braces_keeps = (λ x. items-append (hist_row x.1.0.expr) (Fixed CloseBrace ∷ []), (tell OpenBrace, (tt, tell CloseBrace)))

case_keeps : Keeps case_rule
case_keeps = (λ x. case_with_kept x.0.at x.1.0 x.1.1.1.1.0 ∙ ap (λ r. items (head_row x.1.0) ++ r) (alone (arms_items x.1.1.1.1.0)), (tell CaseWord, (tt, (tell OfWord, (tell OpenBrace, (tt, tell CloseBrace))))))

sum_arms_keeps : Keeps sum_arms_rule
sum_arms_keeps = (λ x. sum_arms_kept x.1.0.worth.name x.1.1.1.1.1.1.0.worth.name (expression_row x.1.1.1.0) (expression_row x.1.1.1.1.1.1.1.1), (tell InlWord, (tell NameToken, (tell Arrow, (tt, (tell Bar, (tell InrWord, (tell NameToken, (tell Arrow, tt)))))))))

star_arms_keeps : Keeps star_arms_rule
star_arms_keeps = (λ x. star_arms_kept x.1.1.1.1.0.worth.name x.1.1.1.1.1.1.0.worth.name (expression_row x.1.1.0) (expression_row x.1.1.1.1.1.1.1.1), (tell NilWord, (tell Arrow, (tt, (tell Bar, (tell NameToken, (tell Colons, (tell NameToken, (tell Arrow, tt)))))))))

histories_keeps : Keeps histories_rule
histories_keeps = (given_or_none_kept (thing history_thing), (λ x. enclosed_kept (list (thing history_thing)) x.1.0, (tell OpenBrace, ((λ x. refl, (tt, tt)), tell CloseBrace))))

expressions_keeps : Keeps expressions_rule
expressions_keeps = (λ v. refl, ((λ x. refl, tell Close), (λ x. enclosed_kept (list (thing expression_thing)) x.0, ((λ x. refl, (tt, tt)), tell Close))))

fold_keeps : Keeps fold_rule
fold_keeps = (λ x. folded_kept x.1.0.expr x.1.1.1.0.expr x.1.1.1.1.1.1.1.1.1.expr x.1.1.1.1.1.0.worth.name x.1.1.1.1.1.1.1.0.worth.name, (tell FoldWord, (tt, (tell FromWord, (tt, (tell WithWord, (tell NameToken, (tell Comma, (tell NameToken, (tell Dot, tt))))))))))

choice_keeps : Keeps choice_rule
choice_keeps = (λ x. chosen_kept x.1.0.expr x.1.1.1.1.0.1.expr x.1.1.1.1.1.1.0.1.expr x.1.1.1.1.0.0 x.1.1.1.1.1.1.0.0, (tell CaseWord, (tt, (tell OfWord, (tell OpenBrace, ((λ x. refl, (tell InlWord, (tell NameToken, (tell Arrow, tt)))), (tell Bar, ((λ x. refl, (tell InrWord, (tell NameToken, (tell Arrow, tt)))), tell CloseBrace))))))))

hist_cons_keeps : Keeps hist_cons_rule
hist_cons_keeps = (hist_consed_kept, (tt, (tell Colons, tt)))

hist_bracket_keeps : Keeps hist_bracket_rule
hist_bracket_keeps = (bracketed_hist_kept, (tell Open, (λ v. refl, ((λ x. refl, tell Close), (λ x. pair_kept x.0 x.1.0, (tt, ((tell Comma, tt), tell Close)))))))

-- each rule
pub keeps : (p : Part) → Keeps (rule_of p)
keeps a_program = (tt, tt)
keeps declarations = (more_of_kept (thing declaration_thing), (tt, tt))
keeps a_declaration = (λ v. refl, (alias_keeps, function_keeps))
keeps a_main = (λ x. items-signature (function_with x.0.at 0 [] x.1.0 x.1.1.1.0 x.1.1.1.1.1), (tell MainWord, (tt, (tell Colon, (tt, (tell Equals, tt))))))
keeps a_past = (λ x. enclosed_kept (list (thing entry_thing)) x.1.0, (tell OpenBrace, ((λ x. refl, (tt, tt)), tell CloseBrace)))
keeps an_entry = (λ x. refl, (tell NameToken, (tell Colon, tt)))
keeps more_entries = (more_behind_kept (thing entry_thing), (tell Comma, (tt, tt)))
keeps parameters = (λ x. refl, (tell Open, (λ v. refl, ((λ x. refl, tell Close), (λ x. enclosed_kept (thing context_thing) x.0, (tt, tell Close))))))
keeps a_context = (context_from_kept, (tt, (λ v. refl, ((tell Comma, tt), (tell Semicolon, tt)))))
keeps more_commas = (context_from_kept, (tt, (tell Comma, tt)))
keeps more_semicolons = (context_from_kept, (tt, (tell Semicolon, tt)))
keeps an_item = (λ v. refl, ((λ x. refl, (tell NameToken, (tell Colon, tt))), (λ x. enclosed_kept (thing context_thing) x.1.0, (tell Open, (tt, tell Close)))))
keeps a_type = (joined_kept sum_written sum_kept, (tt, (tell Plus, tt)))
keeps a_par = (joined_kept par_written par_kept, (tt, (tell Bars, tt)))
keeps a_cat = (joined_kept cat_written cat_kept, (tt, (tell Dot, tt)))
keeps a_star = (λ x. starred_kept x.0 x.1.0 x.1.1, (tt, tt))
keeps more_stars = (more_of_kept token, (tell Times, tt))
keeps a_base = (λ v. refl, ((λ x. refl, tell EpsWord), (λ v. refl, ((λ x. refl, tell OneToken), (λ v. refl, ((λ x. refl, tell IntWord), (λ v. refl, ((λ x. refl, tell NameToken), (λ x. enclosed_kept (thing type_thing) x.1.0, (tell Open, (tt, tell Close)))))))))))
keeps an_expression = (λ v. refl, (let_keeps, (λ v. refl, (wait_keeps, (λ v. refl, (if_keeps, cons_keeps))))))
keeps a_pattern = (λ v. refl, ((λ x. refl, tell NameToken), (λ x. pattern_with_kept x.1.1.0.kind x.1.0.worth.name x.1.1.1.0.worth.name, (tell Open, (tell NameToken, (tell_separator, (tell NameToken, tell Close)))))))
keeps a_head = (λ v. refl, ((head_from_kept, (tell NameToken, tt)), (λ x. typed_kept (expression_row x.1.0) (type_row x.1.1.1.0), (tell Open, (tt, (tell Colon, (tt, tell Close)))))))
keeps an_application = (λ v. refl, ((λ x. items-enclosed (expression_bare x.1) (expression_row x.1), (tell InlWord, tt)), (λ v. refl, ((λ x. items-enclosed (expression_bare x.1) (expression_row x.1), (tell InrWord, tt)), tt))))
keeps an_atom = (λ v. refl, (name_keeps, (λ v. refl, ((λ x. refl, tell EpsWord), (λ v. refl, ((λ x. refl, tell NilWord), (λ v. refl, (bracket_keeps, (λ v. refl, (braces_keeps, case_keeps))))))))))
keeps an_ending = (λ v. refl, ((λ x. refl, tell Close), (λ v. refl, ((λ x. enclosed_kept (thing expression_thing) x.1.0, (tell Comma, (tt, tell Close))), (λ v. refl, ((λ x. enclosed_kept (thing expression_thing) x.1.0, (tell Semicolon, (tt, tell Close))), (λ x. enclosed_kept (thing type_thing) x.1.0, (tell Colon, (tt, tell Close)))))))))
keeps the_arms = (λ v. refl, (sum_arms_keeps, star_arms_keeps))
keeps arguments = (λ x. refl, (histories_keeps, (tell Open, expressions_keeps)))
keeps more_histories = (more_behind_kept (thing history_thing), (tell Comma, (tt, tt)))
keeps more_expressions = (more_behind_kept (thing expression_thing), (tell Comma, (tt, tt)))
keeps a_history = (λ v. refl, (fold_keeps, (λ v. refl, (choice_keeps, hist_cons_keeps))))
keeps a_comparison = (compared_kept, (tt, (tell_comparison, tt)))
keeps a_sum = (λ x. to_left_kept x.0 x.1.0 x.1.1, (tt, tt))
keeps more_summands = (more_of_kept (pair token (thing history_thing)), ((tell_sum, tt), tt))
keeps a_product = (λ x. to_left_kept x.0 x.1.0 x.1.1, (tt, tt))
keeps more_factors = (more_of_kept (pair token (thing history_thing)), ((tell_product, tt), tt))
keeps a_unary = (λ v. refl, ((λ x. items-prefixed x.0.kind x.1.expr, (tell_prefix, tt)), tt))
keeps a_history_atom = (λ v. refl, ((λ x. refl, tell NameToken), (λ v. refl, ((λ x. refl, tell_number), (λ v. refl, ((λ x. items-negated x.1.worth.number, (tell Minus, tell_number)), (λ v. refl, ((λ x. refl, tell NilWord), hist_bracket_keeps))))))))

-- what a part stands for has the items that its rule brings
pub part_items : (p : Part) (v : Meant (stands_for p)) → rule_items (rule_of p) v ≡ value_items (stands_for p) v
part_items a_program v = refl
part_items declarations v = refl
part_items a_declaration v = refl
part_items a_main v = refl
part_items a_past v = refl
part_items an_entry v = refl
part_items more_entries v = refl
part_items parameters v = refl
part_items a_context v = refl
part_items more_commas v = refl
part_items more_semicolons v = refl
part_items an_item v = refl
part_items a_type v = refl
part_items a_par v = refl
part_items a_cat v = refl
part_items a_star v = refl
part_items more_stars v = refl
part_items a_base v = refl
part_items an_expression v = refl
part_items a_pattern v = refl
part_items a_head v = refl
part_items an_application v = refl
part_items an_atom v = refl
part_items an_ending v = refl
part_items the_arms v = refl
part_items arguments v = refl
part_items more_histories v = refl
part_items more_expressions v = refl
part_items a_history v = refl
part_items a_comparison v = refl
part_items a_sum v = refl
part_items more_summands v = refl
part_items a_product v = refl
part_items more_factors v = refl
part_items a_unary v = refl
part_items a_history_atom v = refl
