-- Reading a part is reading its rule: a lemma for each part, so that a reader's proof unfolds its own part alone.
use Rattle.std.proofs.Common.{◌≡◌, List, length}
use Rattle.std.proofs.lemmas.List.{length-map}
use Rattle.grammar.proofs.Levels.{reading_is}
use Rattle.delta_parse.specs.declared.plain.Plain.{Plain}
use Rattle.delta_parse.specs.Terminals.{Tok, plain_of, plains}
use Rattle.delta_parse.specs.Parts.{Part, a_program, declarations, a_declaration, a_main, a_past, an_entry, more_entries, parameters, a_context, more_commas, more_semicolons, an_item, a_type, a_par, a_cat, a_star, more_stars, a_base, an_expression, a_pattern, a_head, an_application, an_atom, an_ending, the_arms, arguments, more_histories, more_expressions, a_history, a_comparison, a_sum, more_summands, a_product, more_factors, a_unary, a_history_atom, delta}
use Rattle.delta_parse.specs.Rules.{rule_of}
use Rattle.delta_parse.specs.Tables.{delta_grammar, reading, read_rule}
use Rattle.delta_parse.proofs.Samples.{delta_checked}

pub plains_length : (ts : List Plain) → length (plains ts) ≡ length ts
plains_length ts = length-map ts plain_of

pub reads : (p : Part) (ts : List Tok) → reading p ts ≡ read_rule (rule_of p) ts
unfolding reading
reads p ts = reading_is delta delta_grammar delta_checked p ts

pub program_is : (ts : List Tok) → reading a_program ts ≡ read_rule (rule_of a_program) ts
program_is ts = reads a_program ts

pub declarations_is : (ts : List Tok) → reading declarations ts ≡ read_rule (rule_of declarations) ts
declarations_is ts = reads declarations ts

pub declaration_is : (ts : List Tok) → reading a_declaration ts ≡ read_rule (rule_of a_declaration) ts
declaration_is ts = reads a_declaration ts

pub main_is : (ts : List Tok) → reading a_main ts ≡ read_rule (rule_of a_main) ts
main_is ts = reads a_main ts

pub past_is : (ts : List Tok) → reading a_past ts ≡ read_rule (rule_of a_past) ts
past_is ts = reads a_past ts

pub entry_is : (ts : List Tok) → reading an_entry ts ≡ read_rule (rule_of an_entry) ts
entry_is ts = reads an_entry ts

pub entries_is : (ts : List Tok) → reading more_entries ts ≡ read_rule (rule_of more_entries) ts
entries_is ts = reads more_entries ts

pub parameters_is : (ts : List Tok) → reading parameters ts ≡ read_rule (rule_of parameters) ts
parameters_is ts = reads parameters ts

pub context_is : (ts : List Tok) → reading a_context ts ≡ read_rule (rule_of a_context) ts
context_is ts = reads a_context ts

pub commas_is : (ts : List Tok) → reading more_commas ts ≡ read_rule (rule_of more_commas) ts
commas_is ts = reads more_commas ts

pub semicolons_is : (ts : List Tok) → reading more_semicolons ts ≡ read_rule (rule_of more_semicolons) ts
semicolons_is ts = reads more_semicolons ts

pub item_is : (ts : List Tok) → reading an_item ts ≡ read_rule (rule_of an_item) ts
item_is ts = reads an_item ts

pub type_is : (ts : List Tok) → reading a_type ts ≡ read_rule (rule_of a_type) ts
type_is ts = reads a_type ts

pub par_is : (ts : List Tok) → reading a_par ts ≡ read_rule (rule_of a_par) ts
par_is ts = reads a_par ts

pub cat_is : (ts : List Tok) → reading a_cat ts ≡ read_rule (rule_of a_cat) ts
cat_is ts = reads a_cat ts

pub star_is : (ts : List Tok) → reading a_star ts ≡ read_rule (rule_of a_star) ts
star_is ts = reads a_star ts

pub stars_is : (ts : List Tok) → reading more_stars ts ≡ read_rule (rule_of more_stars) ts
stars_is ts = reads more_stars ts

pub base_is : (ts : List Tok) → reading a_base ts ≡ read_rule (rule_of a_base) ts
base_is ts = reads a_base ts

pub expression_is : (ts : List Tok) → reading an_expression ts ≡ read_rule (rule_of an_expression) ts
expression_is ts = reads an_expression ts

pub pattern_is : (ts : List Tok) → reading a_pattern ts ≡ read_rule (rule_of a_pattern) ts
pattern_is ts = reads a_pattern ts

pub head_is : (ts : List Tok) → reading a_head ts ≡ read_rule (rule_of a_head) ts
head_is ts = reads a_head ts

pub application_is : (ts : List Tok) → reading an_application ts ≡ read_rule (rule_of an_application) ts
application_is ts = reads an_application ts

pub atom_is : (ts : List Tok) → reading an_atom ts ≡ read_rule (rule_of an_atom) ts
atom_is ts = reads an_atom ts

pub ending_is : (ts : List Tok) → reading an_ending ts ≡ read_rule (rule_of an_ending) ts
ending_is ts = reads an_ending ts

pub arms_is : (ts : List Tok) → reading the_arms ts ≡ read_rule (rule_of the_arms) ts
arms_is ts = reads the_arms ts

pub arguments_is : (ts : List Tok) → reading arguments ts ≡ read_rule (rule_of arguments) ts
arguments_is ts = reads arguments ts

pub histories_is : (ts : List Tok) → reading more_histories ts ≡ read_rule (rule_of more_histories) ts
histories_is ts = reads more_histories ts

pub expressions_is : (ts : List Tok) → reading more_expressions ts ≡ read_rule (rule_of more_expressions) ts
expressions_is ts = reads more_expressions ts

pub history_is : (ts : List Tok) → reading a_history ts ≡ read_rule (rule_of a_history) ts
history_is ts = reads a_history ts

pub comparison_is : (ts : List Tok) → reading a_comparison ts ≡ read_rule (rule_of a_comparison) ts
comparison_is ts = reads a_comparison ts

pub sum_is : (ts : List Tok) → reading a_sum ts ≡ read_rule (rule_of a_sum) ts
sum_is ts = reads a_sum ts

pub summands_is : (ts : List Tok) → reading more_summands ts ≡ read_rule (rule_of more_summands) ts
summands_is ts = reads more_summands ts

pub product_is : (ts : List Tok) → reading a_product ts ≡ read_rule (rule_of a_product) ts
product_is ts = reads a_product ts

pub factors_is : (ts : List Tok) → reading more_factors ts ≡ read_rule (rule_of more_factors) ts
factors_is ts = reads more_factors ts

pub unary_is : (ts : List Tok) → reading a_unary ts ≡ read_rule (rule_of a_unary) ts
unary_is ts = reads a_unary ts

pub history_atom_is : (ts : List Tok) → reading a_history_atom ts ≡ read_rule (rule_of a_history_atom) ts
history_atom_is ts = reads a_history_atom ts
