-- The tables by which the grammar is read, and reading with them.
use Rattle.std.specs.Prelude.{ℕ, Bool, true, false, ◌||◌, List}
use Rattle.grammar.specs.Rules.{Sort}
use Rattle.grammar.specs.Grammar.{Grammar}
use Rattle.grammar.specs.Reading.{Outcome, got, stuck, out, ◌>>=◌}
use Rattle.grammar.specs.Reading as general
use Rattle.delta_parse.specs.declared.terminal.Terminal.{Terminal}
use Rattle.delta_parse.specs.declared.terminal.Terminal.TheVariants.{FunWord, MainWord, TypeWord, LetWord, CaseWord, InlWord, InrWord, NilWord, WaitWord, EpsWord, IfWord, FoldWord, IntWord, Open, Close, OpenBrace, Comma, Colon, Minus, Times, NameToken, OneToken}
use Rattle.delta_parse.specs.Terminals.{Tok, is_kind}
use Rattle.delta_parse.specs.Parts.{Part, a_program, declarations, a_declaration, a_main, a_past, an_entry, more_entries, parameters, a_context, more_commas, more_semicolons, an_item, a_type, a_par, a_cat, a_star, more_stars, a_base, an_expression, a_pattern, a_head, an_application, an_atom, an_ending, the_arms, arguments, more_histories, more_expressions, a_history, a_comparison, a_sum, more_summands, a_product, more_factors, a_unary, a_history_atom, stands_for, delta, Meant, RuleFor}
use Rattle.delta_parse.specs.Rules.{is_separator, is_sum, is_product, is_prefix, is_number, rule_of}

-- the parts that may derive no token
abbrev pub part_nullable : Part → Bool
part_nullable declarations = true
part_nullable more_entries = true
part_nullable more_stars = true
part_nullable more_histories = true
part_nullable more_expressions = true
part_nullable more_summands = true
part_nullable more_factors = true
part_nullable _ = false

abbrev pub starts_declaration : Terminal → Bool
starts_declaration t = is_kind TypeWord t || is_kind FunWord t

abbrev pub starts_item : Terminal → Bool
starts_item t = is_kind NameToken t || is_kind Open t

abbrev pub starts_type : Terminal → Bool
starts_type t = is_kind EpsWord t || (is_kind OneToken t || (is_kind IntWord t || (is_kind NameToken t || is_kind Open t)))

abbrev pub starts_atom : Terminal → Bool
starts_atom t = is_kind NameToken t || (is_kind EpsWord t || (is_kind NilWord t || (is_kind Open t || (is_kind OpenBrace t || is_kind CaseWord t))))

abbrev pub starts_application : Terminal → Bool
starts_application t = is_kind InlWord t || (is_kind InrWord t || starts_atom t)

abbrev pub starts_expression : Terminal → Bool
starts_expression t = is_kind LetWord t || (is_kind WaitWord t || (is_kind IfWord t || starts_application t))

abbrev pub starts_history_atom : Terminal → Bool
starts_history_atom t = is_kind NameToken t || (is_number t || (is_kind Minus t || (is_kind NilWord t || is_kind Open t)))

abbrev pub starts_unary : Terminal → Bool
starts_unary t = is_prefix t || starts_history_atom t

abbrev pub starts_history : Terminal → Bool
starts_history t = is_kind FoldWord t || (is_kind CaseWord t || starts_unary t)

-- the terminals with which a part may begin
abbrev pub part_first : Part → Terminal → Bool
part_first a_program t = starts_declaration t || is_kind MainWord t
part_first declarations t = starts_declaration t
part_first a_declaration t = starts_declaration t
part_first a_main t = is_kind MainWord t
part_first a_past t = is_kind OpenBrace t
part_first an_entry t = is_kind NameToken t
part_first more_entries t = is_kind Comma t
part_first parameters t = is_kind Open t
part_first a_context t = starts_item t
part_first more_commas t = starts_item t
part_first more_semicolons t = starts_item t
part_first an_item t = starts_item t
part_first a_type t = starts_type t
part_first a_par t = starts_type t
part_first a_cat t = starts_type t
part_first a_star t = starts_type t
part_first more_stars t = is_kind Times t
part_first a_base t = starts_type t
part_first an_expression t = starts_expression t
part_first a_pattern t = is_kind NameToken t || is_kind Open t
part_first a_head t = is_kind NameToken t || is_kind Open t
part_first an_application t = starts_application t
part_first an_atom t = starts_atom t
part_first an_ending t = is_kind Close t || (is_separator t || is_kind Colon t)
part_first the_arms t = is_kind InlWord t || is_kind NilWord t
part_first arguments t = is_kind OpenBrace t || is_kind Open t
part_first more_histories t = is_kind Comma t
part_first more_expressions t = is_kind Comma t
part_first a_history t = starts_history t
part_first a_comparison t = starts_unary t
part_first a_sum t = starts_unary t
part_first more_summands t = is_sum t
part_first a_product t = starts_unary t
part_first more_factors t = is_product t
part_first a_unary t = starts_unary t
part_first a_history_atom t = starts_history_atom t

-- a part that stands first in another has the lower rank
abbrev pub rank : Part → ℕ
rank a_program = 2
rank declarations = 1
rank a_context = 2
rank more_commas = 2
rank more_semicolons = 2
rank an_item = 1
rank a_type = 5
rank a_par = 4
rank a_cat = 3
rank a_star = 2
rank a_base = 1
rank an_expression = 3
rank an_application = 2
rank an_atom = 1
rank a_history = 6
rank a_comparison = 5
rank a_sum = 4
rank a_product = 3
rank a_unary = 2
rank a_history_atom = 1
rank _ = 0

-- the grammar with its tables
abbrev pub delta_grammar : Grammar delta
delta_grammar = record { rule_of = rule_of; part_nullable = part_nullable; part_first = part_first; rank = rank }

-- a part, read from left to right by the next token alone
unfoldable pub reading : (p : Part) → List Tok → Outcome Tok (Meant (stands_for p))
reading p ts = general.reading delta delta_grammar p ts

-- a rule, where reading reads its parts
abbrev pub read_rule : {s : Sort _} → RuleFor s → List Tok → Outcome Tok (Meant s)
read_rule a ts = general.read_with delta delta_grammar reading a ts
