-- The actions of the grammar are the same with and without places.
use Rattle.std.proofs.Common.{◌≡◌, ℕ, List, [], ◌∷◌, Option, Some, None, map, refl, ap}
use Rattle.grammar.specs.Rules.{Sort, token, place, thing, pair, option, list}
use Rattle.delta_tree.specs.SyntaxTree.{WrittenType, cat_written, par_written, sum_written, star_written, WrittenContext, WrittenHist, Expression, expression_before, Head, call_head, call_at}
use Rattle.delta_tree.specs.Unplaced.{unplaced_type, unplaced_context, unplaced_hist, unplaced_hists, unplaced_expression, unplaced_head, unplaced_expressions}
use Rattle.hist_value.specs.HistExpr.{reckoned}
use Rattle.delta_parse.specs.declared.terminal.Terminal.{Terminal}
use Rattle.delta_parse.specs.declared.terminal.Terminal.TheVariants.{Semicolon}
use Rattle.delta_parse.specs.Terminals.{Tok}
use Rattle.delta_parse.specs.Parts.{Pattern, one_name, two_at_once, two_in_turn, Arms, sum_arms, star_arms, Ending, plain_ending, at_once, in_turn, of_type, Thing, type_thing, context_thing, entry_thing, history_thing, expression_thing, head_thing, arms_thing, ending_thing, pattern_thing, declaration_thing, Meant, Part, a_program, declarations, a_declaration, a_main, a_past, an_entry, more_entries, parameters, a_context, more_commas, more_semicolons, an_item, a_type, a_par, a_cat, a_star, more_stars, a_base, an_expression, a_pattern, a_head, an_application, an_atom, an_ending, the_arms, arguments, more_histories, more_expressions, a_history, a_comparison, a_sum, more_summands, a_product, more_factors, a_unary, a_history_atom}
use Rattle.delta_parse.specs.Rules.{rule_of}
use Rattle.delta_parse.specs.Actions.{more_of, more_behind, given_or_none, context_with, context_from, joined, starred, star_of, expression_list, let_with, let_of, consed, head_from, atom_from, ended, bracketed, case_with, case_of, hist_consed, compared, to_left, grouped, hist_with, operator, bracketed_hist}
use Rattle.delta_print.specs.Printable.{unplaced_token}
use Rattle.delta_print.proofs.Placing.{unplaced_arms, unplaced_ending, unplaced_value, Natural}

more_of_natural : (s : Sort Thing) (x : Option (Meant s × List (Meant s))) → unplaced_value (list s) (more_of x) ≡ more_of (unplaced_value (option (pair s (list s))) x)
more_of_natural s None = refl
more_of_natural s (Some x) = refl

more_behind_natural : (s : Sort Thing) (x : Option (Tok × (Meant s × List (Meant s)))) → unplaced_value (list s) (more_behind x) ≡ more_behind (unplaced_value (option (pair token (pair s (list s)))) x)
more_behind_natural s None = refl
more_behind_natural s (Some x) = refl

given_or_none_natural : (s : Sort Thing) (x : Option (List (Meant s))) → unplaced_value (list s) (given_or_none x) ≡ given_or_none (unplaced_value (option (list s)) x)
given_or_none_natural s None = refl
given_or_none_natural s (Some x) = refl

-- PARAMETERS

context_with_natural : (k : Terminal) (a b : WrittenContext) → unplaced_context (context_with k a b) ≡ context_with k (unplaced_context a) (unplaced_context b)
context_with_natural Semicolon a b = refl
context_with_natural _ a b = refl

context_from_natural : (x : WrittenContext × Option (Tok × WrittenContext)) → unplaced_context (context_from x) ≡ context_from (unplaced_value (pair (thing context_thing) (option (pair token (thing context_thing)))) x)
context_from_natural (a, None) = refl
context_from_natural (a, Some (t, b)) = context_with_natural t.kind a b

-- TYPES

joined_natural : (form : ℕ → WrittenType → WrittenType → WrittenType) → ((at : ℕ) (a b : WrittenType) → unplaced_type (form at a b) ≡ form 0 (unplaced_type a) (unplaced_type b))
    → (x : ℕ × (WrittenType × Option (Tok × WrittenType))) → unplaced_type (joined form x) ≡ joined form (unplaced_value (pair place (pair (thing type_thing) (option (pair token (thing type_thing))))) x)
joined_natural form h (at, (a, None)) = refl
joined_natural form h (at, (a, Some (t, b))) = h at a b

starred_natural : (at : ℕ) (t : WrittenType) (ss : List Tok) → unplaced_type (starred at t ss) ≡ starred 0 (unplaced_type t) (map unplaced_token ss)
starred_natural at t [] = refl
starred_natural at t (s ∷ ss) = starred_natural at (star_written at t) ss

star_of_natural : (x : ℕ × (WrittenType × List Tok)) → unplaced_type (star_of x) ≡ star_of (unplaced_value (pair place (pair (thing type_thing) (list token))) x)
star_of_natural (at, (t, ss)) = starred_natural at t ss

-- HISTORICAL EXPRESSIONS

hist_consed_natural : (x : ℕ × (WrittenHist × Option (Tok × WrittenHist))) → unplaced_hist (hist_consed x) ≡ hist_consed (unplaced_value (pair place (pair (thing history_thing) (option (pair token (thing history_thing))))) x)
hist_consed_natural (at, (h, None)) = refl
hist_consed_natural (at, (h, Some (t, r))) = refl

compared_natural : (x : ℕ × (WrittenHist × Option (Tok × WrittenHist))) → unplaced_hist (compared x) ≡ compared (unplaced_value (pair place (pair (thing history_thing) (option (pair token (thing history_thing))))) x)
compared_natural (at, (h, None)) = refl
compared_natural (at, (h, Some (t, r))) = refl

to_left_natural : (at : ℕ) (h : WrittenHist) (more : List (Tok × WrittenHist)) → unplaced_hist (to_left at h more) ≡ to_left 0 (unplaced_hist h) (map (unplaced_value (pair token (thing history_thing))) more)
to_left_natural at h [] = refl
to_left_natural at h (x ∷ more) = to_left_natural at (hist_with at (reckoned (operator x.0.kind) h.expr x.1.expr)) more

grouped_natural : (x : ℕ × (WrittenHist × List (Tok × WrittenHist))) → unplaced_hist (grouped x) ≡ grouped (unplaced_value (pair place (pair (thing history_thing) (list (pair token (thing history_thing))))) x)
grouped_natural (at, (h, more)) = to_left_natural at h more

bracketed_hist_natural : (x : Tok × Option (WrittenHist × Option (Tok × WrittenHist)))
    → unplaced_hist (bracketed_hist x) ≡ bracketed_hist (unplaced_value (pair token (option (pair (thing history_thing) (option (pair token (thing history_thing)))))) x)
bracketed_hist_natural (t, None) = refl
bracketed_hist_natural (t, Some (h, None)) = refl
bracketed_hist_natural (t, Some (h, Some r)) = refl

-- EXPRESSIONS

expression_list_natural : (es : List Expression) → unplaced_expressions (expression_list es) ≡ expression_list (map unplaced_expression es)
expression_list_natural [] = refl
expression_list_natural (e ∷ es) = ap (expression_before (unplaced_expression e)) (expression_list_natural es)

let_with_natural : (at : ℕ) (p : Pattern) (h : Head) (e : Expression) → unplaced_expression (let_with at p h e) ≡ let_with 0 p (unplaced_head h) (unplaced_expression e)
let_with_natural at (one_name x) h e = refl
let_with_natural at (two_at_once x y) h e = refl
let_with_natural at (two_in_turn x y) h e = refl

let_of_natural : (x : Tok × (Pattern × (Tok × (Head × (Tok × Expression)))))
    → unplaced_expression (let_of x) ≡ let_of (unplaced_value (pair token (pair (thing pattern_thing) (pair token (pair (thing head_thing) (pair token (thing expression_thing)))))) x)
let_of_natural (l, (p, (eq, (h, (i, e))))) = let_with_natural l.at p h e

consed_natural : (x : ℕ × (Expression × Option (Tok × Expression))) → unplaced_expression (consed x) ≡ consed (unplaced_value (pair place (pair (thing expression_thing) (option (pair token (thing expression_thing))))) x)
consed_natural (at, (e, None)) = refl
consed_natural (at, (e, Some (t, f))) = refl

head_from_natural : (x : Tok × Option (List WrittenHist × List Expression))
    → unplaced_head (head_from x) ≡ head_from (unplaced_value (pair token (option (pair (list (thing history_thing)) (list (thing expression_thing))))) x)
head_from_natural (t, None) = refl
head_from_natural (t, Some (ms, es)) = ap (call_head 0 t.worth.name (unplaced_hists ms)) (expression_list_natural es)

atom_from_natural : (x : Tok × Option (List WrittenHist × List Expression))
    → unplaced_expression (atom_from x) ≡ atom_from (unplaced_value (pair token (option (pair (list (thing history_thing)) (list (thing expression_thing))))) x)
atom_from_natural (t, None) = refl
atom_from_natural (t, Some (ms, es)) = ap (call_at 0 t.worth.name (unplaced_hists ms)) (expression_list_natural es)

ended_natural : (at : ℕ) (e : Expression) (x : Ending) → unplaced_expression (ended at e x) ≡ ended 0 (unplaced_expression e) (unplaced_ending x)
ended_natural at e plain_ending = refl
ended_natural at e (at_once f) = refl
ended_natural at e (in_turn f) = refl
ended_natural at e (of_type t) = refl

bracketed_natural : (x : Tok × Option (Expression × Ending)) → unplaced_expression (bracketed x) ≡ bracketed (unplaced_value (pair token (option (pair (thing expression_thing) (thing ending_thing)))) x)
bracketed_natural (t, None) = refl
bracketed_natural (t, Some (e, x)) = ended_natural t.at e x

case_with_natural : (at : ℕ) (h : Head) (x : Arms) → unplaced_expression (case_with at h x) ≡ case_with 0 (unplaced_head h) (unplaced_arms x)
case_with_natural at h (sum_arms x a y b) = refl
case_with_natural at h (star_arms a y ys b) = refl

case_of_natural : (x : Tok × (Head × (Tok × (Tok × (Arms × Tok)))))
    → unplaced_expression (case_of x) ≡ case_of (unplaced_value (pair token (pair (thing head_thing) (pair token (pair token (pair (thing arms_thing) token))))) x)
case_of_natural (c, (h, (o, (b, (x, d))))) = case_with_natural c.at h x

-- each rule
pub natural : (p : Part) → Natural (rule_of p)
natural a_program = (tt, tt)
natural declarations = (more_of_natural (thing declaration_thing), (tt, tt))
natural a_declaration = ((λ x. refl, (tt, (tt, (tt, tt)))), (λ x. refl, (tt, (tt, ((given_or_none_natural (thing entry_thing), tt), (tt, (tt, (tt, (tt, tt)))))))))
natural a_main = (λ x. refl, (tt, (tt, (tt, (tt, (tt, tt))))))
natural a_past = (λ x. refl, (tt, ((λ x. refl, (tt, tt)), tt)))
natural an_entry = (λ x. refl, (tt, (tt, tt)))
natural more_entries = (more_behind_natural (thing entry_thing), (tt, (tt, tt)))
natural parameters = (λ x. refl, (tt, ((λ x. refl, tt), (λ x. refl, (tt, tt)))))
natural a_context = (context_from_natural, (tt, ((tt, tt), (tt, tt))))
natural more_commas = (context_from_natural, (tt, (tt, tt)))
natural more_semicolons = (context_from_natural, (tt, (tt, tt)))
natural an_item = ((λ x. refl, (tt, (tt, tt))), (λ x. refl, (tt, (tt, tt))))
natural a_type = (joined_natural sum_written (λ at a b. refl), (tt, (tt, tt)))
natural a_par = (joined_natural par_written (λ at a b. refl), (tt, (tt, tt)))
natural a_cat = (joined_natural cat_written (λ at a b. refl), (tt, (tt, tt)))
natural a_star = (star_of_natural, (tt, tt))
natural more_stars = (more_of_natural token, (tt, tt))
natural a_base = ((λ x. refl, tt), ((λ x. refl, tt), ((λ x. refl, tt), ((λ x. refl, tt), (λ x. refl, (tt, (tt, tt)))))))
natural an_expression = ((let_of_natural, (tt, (tt, (tt, (tt, (tt, tt)))))), ((λ x. refl, (tt, (tt, (tt, tt)))), ((λ x. refl, (tt, (tt, (tt, (tt, (tt, tt)))))), (consed_natural, (tt, (tt, tt))))))
natural a_pattern = ((λ x. refl, tt), (λ x. refl, (tt, (tt, (tt, (tt, tt))))))
natural a_head = ((head_from_natural, (tt, tt)), (λ x. refl, (tt, (tt, (tt, (tt, tt))))))
natural an_application = ((λ x. refl, (tt, tt)), ((λ x. refl, (tt, tt)), tt))
natural an_atom = ((atom_from_natural, (tt, tt)), ((λ x. refl, tt), ((λ x. refl, tt), ((bracketed_natural, (tt, ((λ x. refl, tt), (λ x. refl, (tt, tt))))), ((λ x. refl, (tt, (tt, tt))), (case_of_natural, (tt, (tt, (tt, (tt, (tt, tt)))))))))))
natural an_ending = ((λ x. refl, tt), ((λ x. refl, (tt, (tt, tt))), ((λ x. refl, (tt, (tt, tt))), (λ x. refl, (tt, (tt, tt))))))
natural the_arms = ((λ x. refl, (tt, (tt, (tt, (tt, (tt, (tt, (tt, (tt, tt))))))))), (λ x. refl, (tt, (tt, (tt, (tt, (tt, (tt, (tt, (tt, tt))))))))))
natural arguments = (λ x. refl, ((given_or_none_natural (thing history_thing), (λ x. refl, (tt, ((λ x. refl, (tt, tt)), tt)))), (tt, ((λ x. refl, tt), (λ x. refl, ((λ x. refl, (tt, tt)), tt))))))
natural more_histories = (more_behind_natural (thing history_thing), (tt, (tt, tt)))
natural more_expressions = (more_behind_natural (thing expression_thing), (tt, (tt, tt)))
natural a_history = ((λ x. refl, (tt, (tt, (tt, (tt, (tt, (tt, (tt, (tt, (tt, tt)))))))))), ((λ x. refl, (tt, (tt, (tt, (tt, ((λ x. refl, (tt, (tt, (tt, tt)))), (tt, ((λ x. refl, (tt, (tt, (tt, tt)))), tt)))))))), (hist_consed_natural, (tt, (tt, tt)))))
natural a_comparison = (compared_natural, (tt, (tt, tt)))
natural a_sum = (grouped_natural, (tt, tt))
natural more_summands = (more_of_natural (pair token (thing history_thing)), ((tt, tt), tt))
natural a_product = (grouped_natural, (tt, tt))
natural more_factors = (more_of_natural (pair token (thing history_thing)), ((tt, tt), tt))
natural a_unary = ((λ x. refl, (tt, tt)), tt)
natural a_history_atom = ((λ x. refl, tt), ((λ x. refl, tt), ((λ x. refl, (tt, tt)), ((λ x. refl, tt), (bracketed_hist_natural, (tt, ((λ x. refl, tt), (λ x. refl, (tt, ((tt, tt), tt))))))))))
