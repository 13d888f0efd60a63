-- The grammar of Delta: one rule for each part, with the grammar's own line above it.
--
-- It is written so that one token decides each choice. So what begins alike stands together: a name and the arguments that may
-- follow it, the four brackets that begin with `(` and an expression, the two lists of parameters. What is repeated is a part of
-- its own that may derive no token.
use Rattle.std.specs.Prelude.{ℕ, Bool, ◌||◌}
use Rattle.grammar.specs.Rules.{token, thing, pair, option, list, one_of, part, both, either, maybe, placed, make}
use Rattle.delta_tree.specs.SyntaxTree.{WrittenType, eps_written, one_written, int_written, named_written, cat_written, par_written, sum_written, no_parameters}
use Rattle.delta_parse.specs.declared.terminal.Terminal.{Terminal}
use Rattle.delta_parse.specs.declared.terminal.Terminal.TheVariants.{FunWord, MainWord, TypeWord, LetWord, InWord, CaseWord, OfWord, InlWord, InrWord, NilWord, WaitWord, EpsWord, IfWord, ThenWord, ElseWord, FoldWord, FromWord, WithWord, IntWord, FstWord, SndWord, Open, Close, OpenBrace, CloseBrace, Comma, Semicolon, Colon, Colons, Equals, Arrow, Bar, Bars, Plus, Minus, Times, Slash, Less, Dot, NameToken, OneToken, NumberToken}
use Rattle.delta_parse.specs.Terminals.{is_kind}
use Rattle.delta_parse.specs.Parts.{type_thing, context_thing, entry_thing, branch_thing, history_thing, expression_thing, head_thing, pattern_thing, arms_thing, ending_thing, function_thing, declaration_thing, Part, a_program, declarations, a_declaration, a_main, a_past, an_entry, more_entries, parameters, a_context, more_commas, more_semicolons, an_item, a_type, a_par, a_cat, a_star, more_stars, a_base, an_expression, a_pattern, a_head, an_application, an_atom, an_ending, the_arms, arguments, more_histories, more_expressions, a_history, a_comparison, a_sum, more_summands, a_product, more_factors, a_unary, a_history_atom, stands_for, RuleFor}
use Rattle.delta_parse.specs.Actions.{alias_from, arguments_of, atom_from, bracketed, bracketed_context, bracketed_hist, bracketed_type, branch_of, case_of, chosen, compared, consed, context_from, ended_at_once, ended_in_turn, ended_of_type, ended_plain, entry_of, eps_of, first_of, folded, function_from, grouped, head_from, hist_consed, between, given_or_none, items_of, if_of, inl_of, inr_of, joined, let_of, main_from, more_behind, more_of, name_pattern, named_hist, negative_hist, nil_hist, nil_of, no_arguments, nothing_inside, number_hist, pair_inside, parameter_of, past_atom, pattern_of, prefixed, second_of, something_inside, star_arms_of, star_of, sum_arms_of, typed_head_of, unit_inside, wait_of}

-- a token of this kind
abbrev pub sign : Terminal → RuleFor token
sign k = one_of (is_kind k)

abbrev pub is_separator : Terminal → Bool
is_separator k = is_kind Comma k || is_kind Semicolon k

abbrev pub is_comparison : Terminal → Bool
is_comparison k = is_kind Less k || is_kind Equals k

abbrev pub is_sum : Terminal → Bool
is_sum k = is_kind Plus k || is_kind Minus k

abbrev pub is_product : Terminal → Bool
is_product k = is_kind Times k || is_kind Slash k

abbrev pub is_prefix : Terminal → Bool
is_prefix k = is_kind FstWord k || (is_kind SndWord k || (is_kind InlWord k || is_kind InrWord k))

abbrev pub is_number : Terminal → Bool
is_number k = is_kind OneToken k || is_kind NumberToken k

-- DECLARATIONS

-- "type" name "=" type
abbrev pub alias_rule : RuleFor (thing declaration_thing)
alias_rule = make alias_from (both (sign TypeWord) (both (sign NameToken) (both (sign Equals) (part a_type))))

-- name ":" type
abbrev pub entry_rule : RuleFor (thing entry_thing)
entry_rule = make entry_of (both (sign NameToken) (both (sign Colon) (part a_type)))

-- name ":" type { "," name ":" type }
abbrev pub entry_items_rule : RuleFor (list (thing entry_thing))
entry_items_rule = make items_of (both (part an_entry) (part more_entries))

-- "{" name ":" type { "," name ":" type } "}"
abbrev pub past_rule : RuleFor (list (thing entry_thing))
past_rule = make between (both (sign OpenBrace) (both entry_items_rule (sign CloseBrace)))

-- [ past ]
abbrev pub given_past_rule : RuleFor (list (thing entry_thing))
given_past_rule = make given_or_none (maybe (part a_past))

-- "fun" name [ past ] params ":" type "=" exp
abbrev pub function_rule : RuleFor (thing declaration_thing)
function_rule = make function_from (both (sign FunWord) (both (sign NameToken) (both given_past_rule (both (part parameters)
    (both (sign Colon) (both (part a_type) (both (sign Equals) (part an_expression))))))))

-- "main" params ":" type "=" exp
abbrev pub main_rule : RuleFor (thing function_thing)
main_rule = make main_from (both (sign MainWord) (both (part parameters) (both (sign Colon) (both (part a_type) (both (sign Equals) (part an_expression))))))

-- "(" [ ctx ] ")"
abbrev pub parameters_rule : RuleFor (thing context_thing)
parameters_rule = make second_of (both {t = thing context_thing} (sign Open)
    (either {s = thing context_thing} (make {t = thing context_thing} (λ c. no_parameters) (sign Close)) (make first_of (both (part a_context) (sign Close)))))

-- item { "," item } | item { ";" item }, factored: item [ "," commas | ";" semicolons ]
abbrev pub context_rule : RuleFor (thing context_thing)
context_rule = make context_from (both (part an_item) (maybe (either (both (sign Comma) (part more_commas)) (both (sign Semicolon) (part more_semicolons)))))

-- item [ "," commas ]: a list groups to the right
abbrev pub commas_rule : RuleFor (thing context_thing)
commas_rule = make context_from (both (part an_item) (maybe (both (sign Comma) (part more_commas))))

abbrev pub semicolons_rule : RuleFor (thing context_thing)
semicolons_rule = make context_from (both (part an_item) (maybe (both (sign Semicolon) (part more_semicolons))))

-- name ":" type | "(" ctx ")"
abbrev pub item_rule : RuleFor (thing context_thing)
item_rule =
    either (make parameter_of (both (sign NameToken) (both (sign Colon) (part a_type))))
    (make bracketed_context (both (sign Open) (both (part a_context) (sign Close))))

-- TYPES

-- left [ sign right ]
abbrev pub infix_rule : RuleFor (thing type_thing) → Terminal → RuleFor (thing type_thing) → (ℕ → WrittenType → WrittenType → WrittenType)
    → RuleFor (thing type_thing)
infix_rule left k right form = make (joined form) (placed (both left (maybe (both (sign k) right))))

-- "eps" | "1" | "Int" | name | "(" type ")"
abbrev pub base_rule : RuleFor (thing type_thing)
base_rule =
    either (make (λ t. eps_written t.at) (sign EpsWord))
    (either (make (λ t. one_written t.at) (sign OneToken))
    (either (make (λ t. int_written t.at) (sign IntWord))
    (either (make (λ t. named_written t.at t.worth.name) (sign NameToken))
    (make bracketed_type (both (sign Open) (both (part a_type) (sign Close)))))))

-- EXPRESSIONS

-- "let" pat "=" head "in" exp
abbrev pub let_rule : RuleFor (thing expression_thing)
let_rule = make let_of (both (sign LetWord) (both (part a_pattern) (both (sign Equals) (both (part a_head) (both (sign InWord) (part an_expression))))))

-- "wait" name "in" exp
abbrev pub wait_rule : RuleFor (thing expression_thing)
wait_rule = make wait_of (both (sign WaitWord) (both (sign NameToken) (both (sign InWord) (part an_expression))))

-- "if" hist "then" exp "else" exp
abbrev pub if_rule : RuleFor (thing expression_thing)
if_rule = make if_of (both (sign IfWord) (both (part a_history) (both (sign ThenWord) (both (part an_expression) (both (sign ElseWord) (part an_expression))))))

-- app [ "::" exp ]
abbrev pub cons_rule : RuleFor (thing expression_thing)
cons_rule = make consed (placed (both (part an_application) (maybe (both (sign Colons) (part an_expression)))))

-- name | "(" name "," name ")" | "(" name ";" name ")"
abbrev pub pattern_rule : RuleFor (thing pattern_thing)
pattern_rule =
    either (make name_pattern (sign NameToken))
    (make pattern_of (both (sign Open) (both (sign NameToken) (both (one_of is_separator) (both (sign NameToken) (sign Close))))))

-- name | call | "(" exp ":" type ")", factored: name [ arguments ] | "(" exp ":" type ")"
abbrev pub head_rule : RuleFor (thing head_thing)
head_rule =
    either (make head_from (both (sign NameToken) (maybe (part arguments))))
    (make typed_head_of (both (sign Open) (both (part an_expression) (both (sign Colon) (both (part a_type) (sign Close))))))

-- ")" | "," exp ")" | ";" exp ")" | ":" type ")"
abbrev pub ending_rule : RuleFor (thing ending_thing)
ending_rule =
    either (make ended_plain (sign Close))
    (either (make ended_at_once (both (sign Comma) (both (part an_expression) (sign Close))))
    (either (make ended_in_turn (both (sign Semicolon) (both (part an_expression) (sign Close))))
    (make ended_of_type (both (sign Colon) (both (part a_type) (sign Close))))))

-- "(" ")" | "(" exp ")" | "(" exp "," exp ")" | "(" exp ";" exp ")" | "(" exp ":" type ")"
abbrev pub bracket_rule : RuleFor (thing expression_thing)
bracket_rule = make bracketed (both {t = option (pair (thing expression_thing) (thing ending_thing))} (sign Open)
    (either {s = option (pair (thing expression_thing) (thing ending_thing))}
    (make {t = option (pair (thing expression_thing) (thing ending_thing))} nothing_inside (sign Close))
    (make {t = option (pair (thing expression_thing) (thing ending_thing))} something_inside (both (part an_expression) (part an_ending)))))

-- "{" hist "}"
abbrev pub braces_rule : RuleFor (thing expression_thing)
braces_rule = make past_atom (both (sign OpenBrace) (both (part a_history) (sign CloseBrace)))

-- "case" head "of" "{" arms "}"
abbrev pub case_rule : RuleFor (thing expression_thing)
case_rule = make case_of (both (sign CaseWord) (both (part a_head) (both (sign OfWord) (both (sign OpenBrace) (both (part the_arms) (sign CloseBrace))))))

-- name | call
abbrev pub name_rule : RuleFor (thing expression_thing)
name_rule = make atom_from (both (sign NameToken) (maybe (part arguments)))

-- "inl" name "=>" exp "|" "inr" name "=>" exp
abbrev pub sum_arms_rule : RuleFor (thing arms_thing)
sum_arms_rule = make sum_arms_of (both (sign InlWord) (both (sign NameToken) (both (sign Arrow) (both (part an_expression)
    (both (sign Bar) (both (sign InrWord) (both (sign NameToken) (both (sign Arrow) (part an_expression)))))))))

-- "nil" "=>" exp "|" name "::" name "=>" exp
abbrev pub star_arms_rule : RuleFor (thing arms_thing)
star_arms_rule = make star_arms_of (both (sign NilWord) (both (sign Arrow) (both (part an_expression)
    (both (sign Bar) (both (sign NameToken) (both (sign Colons) (both (sign NameToken) (both (sign Arrow) (part an_expression)))))))))

-- hist { "," hist }
abbrev pub history_items_rule : RuleFor (list (thing history_thing))
history_items_rule = make items_of (both (part a_history) (part more_histories))

-- "{" hist { "," hist } "}"
abbrev pub braced_histories_rule : RuleFor (list (thing history_thing))
braced_histories_rule = make between (both (sign OpenBrace) (both history_items_rule (sign CloseBrace)))

-- [ "{" hist { "," hist } "}" ]
abbrev pub histories_rule : RuleFor (list (thing history_thing))
histories_rule = make given_or_none (maybe braced_histories_rule)

-- exp { "," exp }
abbrev pub expression_items_rule : RuleFor (list (thing expression_thing))
expression_items_rule = make items_of (both (part an_expression) (part more_expressions))

-- [ exp { "," exp } ] ")"
abbrev pub expressions_rule : RuleFor (list (thing expression_thing))
expressions_rule = either {s = list (thing expression_thing)} (make {t = list (thing expression_thing)} no_arguments (sign Close))
    (make first_of (both expression_items_rule (sign Close)))

-- [ "{" hist { "," hist } "}" ] "(" [ exp { "," exp } ] ")"
abbrev pub arguments_rule : RuleFor (pair (list (thing history_thing)) (list (thing expression_thing)))
arguments_rule = make arguments_of (both histories_rule (both (sign Open) expressions_rule))

-- HISTORICAL EXPRESSIONS

-- "inl" name "=>" hist
abbrev pub branch_rule : Terminal → RuleFor (thing branch_thing)
branch_rule k = make branch_of (both (sign k) (both (sign NameToken) (both (sign Arrow) (part a_history))))

-- "fold" hist "from" hist "with" name "," name "." hist
abbrev pub fold_rule : RuleFor (thing history_thing)
fold_rule = make folded (both (sign FoldWord) (both (part a_history) (both (sign FromWord) (both (part a_history)
    (both (sign WithWord) (both (sign NameToken) (both (sign Comma) (both (sign NameToken) (both (sign Dot) (part a_history))))))))))

-- "case" hist "of" "{" "inl" name "=>" hist "|" "inr" name "=>" hist "}"
abbrev pub choice_rule : RuleFor (thing history_thing)
choice_rule = make chosen (both (sign CaseWord) (both (part a_history) (both (sign OfWord) (both (sign OpenBrace)
    (both (branch_rule InlWord) (both (sign Bar) (both (branch_rule InrWord) (sign CloseBrace))))))))

-- comp [ "::" hist ]
abbrev pub hist_cons_rule : RuleFor (thing history_thing)
hist_cons_rule = make hist_consed (placed (both (part a_comparison) (maybe (both (sign Colons) (part a_history)))))

-- "(" ")" | "(" hist ")" | "(" hist "," hist ")", factored: "(" ( ")" | hist [ "," hist ] ")" )
abbrev pub hist_bracket_rule : RuleFor (thing history_thing)
hist_bracket_rule = make bracketed_hist (both {t = option (pair (thing history_thing) (option (pair token (thing history_thing))))} (sign Open)
    (either {s = option (pair (thing history_thing) (option (pair token (thing history_thing))))}
    (make {t = option (pair (thing history_thing) (option (pair token (thing history_thing))))} unit_inside (sign Close))
    (make {t = option (pair (thing history_thing) (option (pair token (thing history_thing))))} pair_inside
    (both (part a_history) (both (maybe (both (sign Comma) (part a_history))) (sign Close))))))

abbrev pub rule_of : (p : Part) → RuleFor (stands_for p)
-- program = { decl } main
rule_of a_program = both (part declarations) (part a_main)
rule_of declarations = make more_of (maybe (both (part a_declaration) (part declarations)))
-- decl = "type" name "=" type | "fun" name [ past ] params ":" type "=" exp
rule_of a_declaration = either alias_rule function_rule
rule_of a_main = main_rule
rule_of a_past = past_rule
rule_of an_entry = entry_rule
rule_of more_entries = make more_behind (maybe (both (sign Comma) (both (part an_entry) (part more_entries))))
rule_of parameters = parameters_rule
rule_of a_context = context_rule
rule_of more_commas = commas_rule
rule_of more_semicolons = semicolons_rule
rule_of an_item = item_rule
-- type = par [ "+" type ]
rule_of a_type = infix_rule (part a_par) Plus (part a_type) sum_written
-- par = cat [ "||" par ]
rule_of a_par = infix_rule (part a_cat) Bars (part a_par) par_written
-- cat = star [ "." cat ]
rule_of a_cat = infix_rule (part a_star) Dot (part a_cat) cat_written
-- star = base { "*" }
rule_of a_star = make star_of (placed (both (part a_base) (part more_stars)))
rule_of more_stars = make more_of (maybe (both (sign Times) (part more_stars)))
rule_of a_base = base_rule
-- exp = "let" pat "=" head "in" exp | "wait" name "in" exp | "if" hist "then" exp "else" exp | app [ "::" exp ]
rule_of an_expression = either let_rule (either wait_rule (either if_rule cons_rule))
rule_of a_pattern = pattern_rule
rule_of a_head = head_rule
-- app = "inl" app | "inr" app | atom
rule_of an_application =
    either (make inl_of (both (sign InlWord) (part an_application)))
    (either (make inr_of (both (sign InrWord) (part an_application)))
    (part an_atom))
-- atom = name | call | "eps" | "nil" | a bracket | "{" hist "}" | "case" head "of" "{" arms "}"
rule_of an_atom =
    either name_rule
    (either (make eps_of (sign EpsWord))
    (either (make nil_of (sign NilWord))
    (either bracket_rule
    (either braces_rule case_rule))))
rule_of an_ending = ending_rule
rule_of the_arms = either sum_arms_rule star_arms_rule
rule_of arguments = arguments_rule
rule_of more_histories = make more_behind (maybe (both (sign Comma) (both (part a_history) (part more_histories))))
rule_of more_expressions = make more_behind (maybe (both (sign Comma) (both (part an_expression) (part more_expressions))))
-- hist = fold | case | comp [ "::" hist ]
rule_of a_history = either fold_rule (either choice_rule hist_cons_rule)
-- comp = sum [ ( "<" | "=" ) sum ]
rule_of a_comparison = make compared (placed (both (part a_sum) (maybe (both (one_of is_comparison) (part a_sum)))))
-- sum = prod { ( "+" | "-" ) prod }
rule_of a_sum = make grouped (placed (both (part a_product) (part more_summands)))
rule_of more_summands = make more_of (maybe (both (both (one_of is_sum) (part a_product)) (part more_summands)))
-- prod = un { ( "*" | "/" ) un }
rule_of a_product = make grouped (placed (both (part a_unary) (part more_factors)))
rule_of more_factors = make more_of (maybe (both (both (one_of is_product) (part a_unary)) (part more_factors)))
-- un = ( "fst" | "snd" | "inl" | "inr" ) un | hatom
rule_of a_unary = either (make prefixed (both (one_of is_prefix) (part a_unary))) (part a_history_atom)
-- hatom = name | number | "-" number | "(" ")" | "nil" | "(" hist ")" | "(" hist "," hist ")"
rule_of a_history_atom =
    either (make named_hist (sign NameToken))
    (either (make number_hist (one_of is_number))
    (either (make negative_hist (both (sign Minus) (one_of is_number)))
    (either (make nil_hist (sign NilWord))
    hist_bracket_rule)))
