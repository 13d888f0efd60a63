-- A sentence of each part of the grammar, and all that is checked of it.
use Rattle.std.proofs.Common.{◌≡◌, Bool, true, List, [], ◌∷◌, refl, pos}
use Rattle.std.proofs.lemmas.Bool.{eq-eqb}
use Rattle.grammar.specs.Rules.{token, one_of, part}
use Rattle.grammar.specs.Grammar.{Derives, by_token, by_part, by_both, by_left, by_right, by_none, by_placed, by_make}
use Rattle.grammar.proofs.Checked.{Sample, IsSound, Checked}
use Rattle.delta_parse.specs.declared.terminal.Terminal.{Terminal}
use Rattle.delta_parse.specs.declared.terminal.Terminal.TheVariants.{FunWord, MainWord, TypeWord, LetWord, InWord, CaseWord, OfWord, InlWord, InrWord, NilWord, WaitWord, EpsWord, IfWord, ThenWord, ElseWord, FoldWord, FromWord, WithWord, IntWord, FstWord, Open, Close, OpenBrace, CloseBrace, Comma, Semicolon, Colon, Colons, Equals, Arrow, Bar, Bars, Plus, Minus, Times, Less, Dot, NameToken, OneToken, NumberToken}
use Rattle.delta_parse.specs.Terminals.{Tok, code_of, is_kind}
use Rattle.delta_parse.specs.Parts.{Part, a_program, declarations, a_declaration, a_main, a_past, an_entry, more_entries, parameters, a_context, more_commas, more_semicolons, an_item, a_type, a_par, a_cat, a_star, more_stars, a_base, an_expression, a_pattern, a_head, an_application, an_atom, an_ending, the_arms, arguments, more_histories, more_expressions, a_history, a_comparison, a_sum, more_summands, a_product, more_factors, a_unary, a_history_atom, stands_for, delta, Meant}
use Rattle.delta_parse.specs.Rules.{rule_of}
use Rattle.delta_parse.specs.Tables.{delta_grammar}
use Rattle.delta_parse.proofs.Tables.{every, every_is, part_next, nullable_is, first_is, next_is, decided, ranked, rank_below}

abbrev pub a_token_of : Terminal → Tok
a_token_of k = record { kind = k; at = 0; worth = record { name = 0; number = pos 0 } }

a_token : {is : Terminal → Bool} → (k : Terminal) → is k ≡ true → Derives delta delta_grammar token (one_of is) (a_token_of k ∷ []) (a_token_of k)
a_token k h = by_token h

abbrev A : Part → Type 0
A p = Sample delta delta_grammar (stands_for p) (part p)

sampled : (p : Part) → {u : List Tok} {v : Meant (stands_for p)} → Derives delta delta_grammar (stands_for p) (part p) u v → A p
sampled p {u = u} {v = v} d = record { tokens = u; value = v; derived = d }

sample_declarations : A declarations
sample_declarations = sampled declarations (by_part {p = declarations} (by_make by_none))

sample_more_entries : A more_entries
sample_more_entries = sampled more_entries (by_part {p = more_entries} (by_make by_none))

sample_more_stars : A more_stars
sample_more_stars = sampled more_stars (by_part {p = more_stars} (by_make by_none))

sample_more_histories : A more_histories
sample_more_histories = sampled more_histories (by_part {p = more_histories} (by_make by_none))

sample_more_expressions : A more_expressions
sample_more_expressions = sampled more_expressions (by_part {p = more_expressions} (by_make by_none))

sample_more_summands : A more_summands
sample_more_summands = sampled more_summands (by_part {p = more_summands} (by_make by_none))

sample_more_factors : A more_factors
sample_more_factors = sampled more_factors (by_part {p = more_factors} (by_make by_none))

sample_a_base : A a_base
sample_a_base = sampled a_base (by_part {p = a_base} (by_left (by_make (a_token EpsWord refl))))

sample_a_star : A a_star
sample_a_star = sampled a_star (by_part {p = a_star} (by_make (by_placed (by_both sample_a_base.derived sample_more_stars.derived))))

sample_a_cat : A a_cat
sample_a_cat = sampled a_cat (by_part {p = a_cat} (by_make (by_placed (by_both sample_a_star.derived by_none))))

sample_a_par : A a_par
sample_a_par = sampled a_par (by_part {p = a_par} (by_make (by_placed (by_both sample_a_cat.derived by_none))))

sample_a_type : A a_type
sample_a_type = sampled a_type (by_part {p = a_type} (by_make (by_placed (by_both sample_a_par.derived by_none))))

sample_an_item : A an_item
sample_an_item = sampled an_item (by_part {p = an_item} (by_left (by_make (by_both (a_token NameToken refl) (by_both (a_token Colon refl) sample_a_type.derived)))))

sample_a_context : A a_context
sample_a_context = sampled a_context (by_part {p = a_context} (by_make (by_both sample_an_item.derived by_none)))

sample_more_commas : A more_commas
sample_more_commas = sampled more_commas (by_part {p = more_commas} (by_make (by_both sample_an_item.derived by_none)))

sample_more_semicolons : A more_semicolons
sample_more_semicolons = sampled more_semicolons (by_part {p = more_semicolons} (by_make (by_both sample_an_item.derived by_none)))

sample_parameters : A parameters
sample_parameters = sampled parameters (by_part {p = parameters} (by_make (by_both (a_token Open refl) (by_left (by_make (a_token Close refl))))))

sample_an_atom : A an_atom
sample_an_atom = sampled an_atom (by_part {p = an_atom} (by_right (by_left (by_make (a_token EpsWord refl)))))

sample_an_application : A an_application
sample_an_application = sampled an_application (by_part {p = an_application} (by_right (by_right sample_an_atom.derived)))

sample_an_expression : A an_expression
sample_an_expression = sampled an_expression (by_part {p = an_expression} (by_right (by_right (by_right (by_make (by_placed (by_both sample_an_application.derived by_none)))))))

sample_a_main : A a_main
sample_a_main = sampled a_main (by_part {p = a_main} (by_make (by_both (a_token MainWord refl) (by_both sample_parameters.derived (by_both (a_token Colon refl) (by_both sample_a_type.derived (by_both (a_token Equals refl) sample_an_expression.derived)))))))

sample_a_declaration : A a_declaration
sample_a_declaration = sampled a_declaration (by_part {p = a_declaration} (by_left (by_make (by_both (a_token TypeWord refl) (by_both (a_token NameToken refl) (by_both (a_token Equals refl) sample_a_type.derived))))))

sample_a_program : A a_program
sample_a_program = sampled a_program (by_part {p = a_program} (by_both sample_declarations.derived sample_a_main.derived))

sample_an_entry : A an_entry
sample_an_entry = sampled an_entry (by_part {p = an_entry} (by_make (by_both (a_token NameToken refl) (by_both (a_token Colon refl) sample_a_type.derived))))

sample_a_past : A a_past
sample_a_past = sampled a_past (by_part {p = a_past} (by_make (by_both (a_token OpenBrace refl) (by_both (by_make (by_both sample_an_entry.derived sample_more_entries.derived)) (a_token CloseBrace refl)))))

sample_a_pattern : A a_pattern
sample_a_pattern = sampled a_pattern (by_part {p = a_pattern} (by_left (by_make (a_token NameToken refl))))

sample_a_head : A a_head
sample_a_head = sampled a_head (by_part {p = a_head} (by_left (by_make (by_both (a_token NameToken refl) by_none))))

sample_a_history_atom : A a_history_atom
sample_a_history_atom = sampled a_history_atom (by_part {p = a_history_atom} (by_right (by_right (by_right (by_left (by_make (a_token NilWord refl)))))))

sample_a_unary : A a_unary
sample_a_unary = sampled a_unary (by_part {p = a_unary} (by_right sample_a_history_atom.derived))

sample_a_product : A a_product
sample_a_product = sampled a_product (by_part {p = a_product} (by_make (by_placed (by_both sample_a_unary.derived sample_more_factors.derived))))

sample_a_sum : A a_sum
sample_a_sum = sampled a_sum (by_part {p = a_sum} (by_make (by_placed (by_both sample_a_product.derived sample_more_summands.derived))))

sample_a_comparison : A a_comparison
sample_a_comparison = sampled a_comparison (by_part {p = a_comparison} (by_make (by_placed (by_both sample_a_sum.derived by_none))))

sample_a_history : A a_history
sample_a_history = sampled a_history (by_part {p = a_history} (by_right (by_right (by_make (by_placed (by_both sample_a_comparison.derived by_none))))))

sample_arguments : A arguments
sample_arguments = sampled arguments (by_part {p = arguments} (by_make (by_both (by_make by_none) (by_both (a_token Open refl) (by_left (by_make (a_token Close refl)))))))

sample_an_ending : A an_ending
sample_an_ending = sampled an_ending (by_part {p = an_ending} (by_left (by_make (a_token Close refl))))

sample_the_arms : A the_arms
sample_the_arms = sampled the_arms (by_part {p = the_arms} (by_right (by_make (by_both (a_token NilWord refl) (by_both (a_token Arrow refl) (by_both sample_an_expression.derived (by_both (a_token Bar refl) (by_both (a_token NameToken refl) (by_both (a_token Colons refl) (by_both (a_token NameToken refl) (by_both (a_token Arrow refl) sample_an_expression.derived)))))))))))

sample : (p : Part) → A p
sample a_program = sample_a_program
sample declarations = sample_declarations
sample a_declaration = sample_a_declaration
sample a_main = sample_a_main
sample an_entry = sample_an_entry
sample a_past = sample_a_past
sample more_entries = sample_more_entries
sample parameters = sample_parameters
sample a_context = sample_a_context
sample more_commas = sample_more_commas
sample more_semicolons = sample_more_semicolons
sample an_item = sample_an_item
sample a_type = sample_a_type
sample a_par = sample_a_par
sample a_cat = sample_a_cat
sample a_star = sample_a_star
sample more_stars = sample_more_stars
sample a_base = sample_a_base
sample an_expression = sample_an_expression
sample a_pattern = sample_a_pattern
sample a_head = sample_a_head
sample an_application = sample_an_application
sample an_atom = sample_an_atom
sample an_ending = sample_an_ending
sample the_arms = sample_the_arms
sample arguments = sample_arguments
sample more_histories = sample_more_histories
sample more_expressions = sample_more_expressions
sample a_history = sample_a_history
sample a_comparison = sample_a_comparison
sample a_sum = sample_a_sum
sample more_summands = sample_more_summands
sample a_product = sample_a_product
sample more_factors = sample_more_factors
sample a_unary = sample_a_unary
sample a_history_atom = sample_a_history_atom

is : (k : Terminal) → (x : Tok) × (is_kind k x.kind ≡ true)
is k = (a_token_of k, eq-eqb (code_of k) (code_of k) refl)

sound : (p : Part) → IsSound delta delta_grammar (rule_of p)
sound a_program = (tt, tt)
sound declarations = (tt, tt)
sound a_declaration = ((is TypeWord, (is NameToken, (is Equals, tt))), (is FunWord, (is NameToken, (tt, (tt, (is Colon, (tt, (is Equals, tt))))))))
sound a_main = (is MainWord, (tt, (is Colon, (tt, (is Equals, tt)))))
sound a_past = (is OpenBrace, ((tt, tt), is CloseBrace))
sound an_entry = (is NameToken, (is Colon, tt))
sound more_entries = (is Comma, (tt, tt))
sound parameters = (is Open, (is Close, (tt, is Close)))
sound a_context = (tt, ((is Comma, tt), (is Semicolon, tt)))
sound more_commas = (tt, (is Comma, tt))
sound more_semicolons = (tt, (is Semicolon, tt))
sound an_item = ((is NameToken, (is Colon, tt)), (is Open, (tt, is Close)))
sound a_type = ((tt, (is Plus, tt)), refl)
sound a_par = ((tt, (is Bars, tt)), refl)
sound a_cat = ((tt, (is Dot, tt)), refl)
sound a_star = ((tt, tt), refl)
sound more_stars = (is Times, tt)
sound a_base = (is EpsWord, (is OneToken, (is IntWord, (is NameToken, (is Open, (tt, is Close))))))
sound an_expression = ((is LetWord, (tt, (is Equals, (tt, (is InWord, tt))))), ((is WaitWord, (is NameToken, (is InWord, tt))), ((is IfWord, (tt, (is ThenWord, (tt, (is ElseWord, tt))))), ((tt, (is Colons, tt)), refl))))
sound a_pattern = (is NameToken, (is Open, (is NameToken, ((a_token_of Comma, refl), (is NameToken, is Close)))))
sound a_head = ((is NameToken, tt), (is Open, (tt, (is Colon, (tt, is Close)))))
sound an_application = ((is InlWord, tt), ((is InrWord, tt), tt))
sound an_atom = ((is NameToken, tt), (is EpsWord, (is NilWord, ((is Open, (is Close, (tt, tt))), ((is OpenBrace, (tt, is CloseBrace)), (is CaseWord, (tt, (is OfWord, (is OpenBrace, (tt, is CloseBrace))))))))))
sound an_ending = (is Close, ((is Comma, (tt, is Close)), ((is Semicolon, (tt, is Close)), (is Colon, (tt, is Close)))))
sound the_arms = ((is InlWord, (is NameToken, (is Arrow, (tt, (is Bar, (is InrWord, (is NameToken, (is Arrow, tt)))))))), (is NilWord, (is Arrow, (tt, (is Bar, (is NameToken, (is Colons, (is NameToken, (is Arrow, tt)))))))))
sound arguments = ((is OpenBrace, ((tt, tt), is CloseBrace)), (is Open, (is Close, ((tt, tt), is Close))))
sound more_histories = (is Comma, (tt, tt))
sound more_expressions = (is Comma, (tt, tt))
sound a_history = ((is FoldWord, (tt, (is FromWord, (tt, (is WithWord, (is NameToken, (is Comma, (is NameToken, (is Dot, tt))))))))), ((is CaseWord, (tt, (is OfWord, (is OpenBrace, ((is InlWord, (is NameToken, (is Arrow, tt))), (is Bar, ((is InrWord, (is NameToken, (is Arrow, tt))), is CloseBrace))))))), ((tt, (is Colons, tt)), refl)))
sound a_comparison = ((tt, ((a_token_of Less, refl), tt)), refl)
sound a_sum = ((tt, tt), refl)
sound more_summands = (((a_token_of Plus, refl), tt), tt)
sound a_product = ((tt, tt), refl)
sound more_factors = (((a_token_of Times, refl), tt), tt)
sound a_unary = (((a_token_of FstWord, refl), tt), tt)
sound a_history_atom = (is NameToken, ((a_token_of NumberToken, refl), ((is Minus, (a_token_of NumberToken, refl)), (is NilWord, (is Open, (is Close, (tt, ((is Comma, tt), is Close))))))))

-- the grammar is checked
pub delta_checked : Checked delta delta_grammar
delta_checked = record {
  every = every;
  every_is = every_is;
  part_next = part_next;
  nullable_is = nullable_is;
  first_is = first_is;
  next_is = next_is;
  decided = decided;
  ranked = ranked;
  rank_below = rank_below;
  sound = sound;
  sample = sample;
}
