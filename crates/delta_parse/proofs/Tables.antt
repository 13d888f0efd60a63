-- The grammar's tables are right, and one token decides each of its choices.
use Rattle.std.proofs.Common.{◌≡◌, Bool, true, false, ◌||◌, ◌&&◌, refl, nat_lt}
use Rattle.std.proofs.lemmas.Bool.{and_parts}
use Rattle.grammar.specs.Reading.{nullable, first}
use Rattle.grammar.proofs.Tests.{implied}
use Rattle.grammar.proofs.Checked.{left_below, next, is_decided}
use Rattle.delta_parse.specs.declared.terminal.Terminal.{Terminal}
use Rattle.delta_parse.specs.declared.terminal.Terminal.TheVariants.{FunWord, MainWord, TypeWord, LetWord, InWord, CaseWord, OfWord, InlWord, InrWord, NilWord, WaitWord, EpsWord, IfWord, ThenWord, ElseWord, FoldWord, FromWord, WithWord, IntWord, FstWord, SndWord, Open, Close, OpenBrace, CloseBrace, Comma, Semicolon, Colon, Colons, Equals, Arrow, Bar, Bars, Plus, Minus, Times, Slash, Less, Dot, NameToken, OneToken, NumberToken, Other}
use Rattle.delta_parse.specs.Terminals.{is_kind}
use Rattle.delta_parse.specs.Parts.{Part, a_program, declarations, a_declaration, a_main, a_past, an_entry, more_entries, parameters, a_context, more_commas, more_semicolons, an_item, a_type, a_par, a_cat, a_star, more_stars, a_base, an_expression, a_pattern, a_head, an_application, an_atom, an_ending, the_arms, arguments, more_histories, more_expressions, a_history, a_comparison, a_sum, more_summands, a_product, more_factors, a_unary, a_history_atom, delta}
use Rattle.delta_parse.specs.Rules.{is_separator, is_comparison, is_sum, is_product, rule_of}
use Rattle.delta_parse.specs.Tables.{part_nullable, part_first, rank, delta_grammar, starts_declaration}

-- each terminal passes the test
abbrev pub every : (Terminal → Bool) → Bool
every p = p FunWord && (p MainWord && (p TypeWord && (p LetWord && (p InWord && (p CaseWord && (p OfWord && (p InlWord && (p InrWord && (p NilWord && (p WaitWord && (p EpsWord && (p IfWord && (p ThenWord && (p ElseWord && (p FoldWord && (p FromWord && (p WithWord && (p IntWord && (p FstWord && (p SndWord && (p Open && (p Close && (p OpenBrace && (p CloseBrace && (p Comma && (p Semicolon && (p Colon && (p Colons && (p Equals && (p Arrow && (p Bar && (p Bars && (p Plus && (p Minus && (p Times && (p Slash && (p Less && (p Dot && (p NameToken && (p OneToken && (p NumberToken && p Other)))))))))))))))))))))))))))))))))))))))))

pub every_is : (p : Terminal → Bool) → every p ≡ true → (t : Terminal) → p t ≡ true
every_is p e t =
    let a0 = and_parts _ _ e in
    let a1 = and_parts _ _ a0.1 in
    let a2 = and_parts _ _ a1.1 in
    let a3 = and_parts _ _ a2.1 in
    let a4 = and_parts _ _ a3.1 in
    let a5 = and_parts _ _ a4.1 in
    let a6 = and_parts _ _ a5.1 in
    let a7 = and_parts _ _ a6.1 in
    let a8 = and_parts _ _ a7.1 in
    let a9 = and_parts _ _ a8.1 in
    let a10 = and_parts _ _ a9.1 in
    let a11 = and_parts _ _ a10.1 in
    let a12 = and_parts _ _ a11.1 in
    let a13 = and_parts _ _ a12.1 in
    let a14 = and_parts _ _ a13.1 in
    let a15 = and_parts _ _ a14.1 in
    let a16 = and_parts _ _ a15.1 in
    let a17 = and_parts _ _ a16.1 in
    let a18 = and_parts _ _ a17.1 in
    let a19 = and_parts _ _ a18.1 in
    let a20 = and_parts _ _ a19.1 in
    let a21 = and_parts _ _ a20.1 in
    let a22 = and_parts _ _ a21.1 in
    let a23 = and_parts _ _ a22.1 in
    let a24 = and_parts _ _ a23.1 in
    let a25 = and_parts _ _ a24.1 in
    let a26 = and_parts _ _ a25.1 in
    let a27 = and_parts _ _ a26.1 in
    let a28 = and_parts _ _ a27.1 in
    let a29 = and_parts _ _ a28.1 in
    let a30 = and_parts _ _ a29.1 in
    let a31 = and_parts _ _ a30.1 in
    let a32 = and_parts _ _ a31.1 in
    let a33 = and_parts _ _ a32.1 in
    let a34 = and_parts _ _ a33.1 in
    let a35 = and_parts _ _ a34.1 in
    let a36 = and_parts _ _ a35.1 in
    let a37 = and_parts _ _ a36.1 in
    let a38 = and_parts _ _ a37.1 in
    let a39 = and_parts _ _ a38.1 in
    let a40 = and_parts _ _ a39.1 in
    let a41 = and_parts _ _ a40.1 in
    elim t as (λ t. p t ≡ true) [ FunWord ↦ a0.0 | MainWord ↦ a1.0 | TypeWord ↦ a2.0 | LetWord ↦ a3.0 | InWord ↦ a4.0 | CaseWord ↦ a5.0 | OfWord ↦ a6.0 | InlWord ↦ a7.0 | InrWord ↦ a8.0 | NilWord ↦ a9.0 | WaitWord ↦ a10.0 | EpsWord ↦ a11.0 | IfWord ↦ a12.0 | ThenWord ↦ a13.0 | ElseWord ↦ a14.0 | FoldWord ↦ a15.0 | FromWord ↦ a16.0 | WithWord ↦ a17.0 | IntWord ↦ a18.0 | FstWord ↦ a19.0 | SndWord ↦ a20.0 | Open ↦ a21.0 | Close ↦ a22.0 | OpenBrace ↦ a23.0 | CloseBrace ↦ a24.0 | Comma ↦ a25.0 | Semicolon ↦ a26.0 | Colon ↦ a27.0 | Colons ↦ a28.0 | Equals ↦ a29.0 | Arrow ↦ a30.0 | Bar ↦ a31.0 | Bars ↦ a32.0 | Plus ↦ a33.0 | Minus ↦ a34.0 | Times ↦ a35.0 | Slash ↦ a36.0 | Less ↦ a37.0 | Dot ↦ a38.0 | NameToken ↦ a39.0 | OneToken ↦ a40.0 | NumberToken ↦ a41.0 | Other ↦ a41.1 ]

abbrev pub goes_on_type : Terminal → Bool
goes_on_type t = is_kind Plus t || (is_kind Bars t || (is_kind Dot t || is_kind Times t))

abbrev pub starts_arguments : Terminal → Bool
starts_arguments t = is_kind OpenBrace t || is_kind Open t

abbrev pub goes_on_expression : Terminal → Bool
goes_on_expression t = is_kind Colons t || starts_arguments t

abbrev pub goes_on_sum : Terminal → Bool
goes_on_sum t = is_sum t || is_product t

abbrev pub goes_on_history : Terminal → Bool
goes_on_history t = is_kind Colons t || (is_comparison t || goes_on_sum t)

-- the terminals with which a part that is over could go on
abbrev pub part_next : Part → Terminal → Bool
part_next a_program t = goes_on_expression t
part_next declarations t = starts_declaration t || (goes_on_type t || goes_on_expression t)
part_next a_declaration t = goes_on_type t || goes_on_expression t
part_next a_main t = goes_on_expression t
part_next an_entry t = goes_on_type t
part_next more_entries t = is_kind Comma t || goes_on_type t
part_next a_context t = is_separator t || goes_on_type t
part_next more_commas t = is_kind Comma t || goes_on_type t
part_next more_semicolons t = is_kind Semicolon t || goes_on_type t
part_next an_item t = goes_on_type t
part_next a_type t = goes_on_type t
part_next a_par t = is_kind Bars t || (is_kind Dot t || is_kind Times t)
part_next a_cat t = is_kind Dot t || is_kind Times t
part_next a_star t = is_kind Times t
part_next more_stars t = is_kind Times t
part_next an_expression t = goes_on_expression t
part_next a_head t = starts_arguments t
part_next an_application t = starts_arguments t
part_next an_atom t = starts_arguments t
part_next the_arms t = goes_on_expression t
part_next more_histories t = is_kind Comma t || goes_on_history t
part_next more_expressions t = is_kind Comma t || goes_on_expression t
part_next a_history t = goes_on_history t
part_next a_comparison t = is_comparison t || goes_on_sum t
part_next a_sum t = goes_on_sum t
part_next more_summands t = goes_on_sum t
part_next a_product t = is_product t
part_next more_factors t = is_product t
part_next _ t = false

pub nullable_is : (p : Part) → nullable delta delta_grammar (rule_of p) ≡ true → part_nullable p ≡ true
nullable_is a_program e = e
nullable_is declarations e = refl
nullable_is a_declaration e = e
nullable_is a_main e = e
nullable_is a_past e = e
nullable_is an_entry e = e
nullable_is more_entries e = refl
nullable_is parameters e = e
nullable_is a_context e = e
nullable_is more_commas e = e
nullable_is more_semicolons e = e
nullable_is an_item e = e
nullable_is a_type e = e
nullable_is a_par e = e
nullable_is a_cat e = e
nullable_is a_star e = e
nullable_is more_stars e = refl
nullable_is a_base e = e
nullable_is an_expression e = e
nullable_is a_pattern e = e
nullable_is a_head e = e
nullable_is an_application e = e
nullable_is an_atom e = e
nullable_is an_ending e = e
nullable_is the_arms e = e
nullable_is arguments e = e
nullable_is more_histories e = refl
nullable_is more_expressions e = refl
nullable_is a_history e = e
nullable_is a_comparison e = e
nullable_is a_sum e = e
nullable_is more_summands e = refl
nullable_is a_product e = e
nullable_is more_factors e = refl
nullable_is a_unary e = e
nullable_is a_history_atom e = e

pub first_is : (p : Part) → every (λ t. implied (first delta delta_grammar (rule_of p) t) (part_first p t)) ≡ true
first_is a_program = refl
first_is declarations = refl
first_is a_declaration = refl
first_is a_main = refl
first_is a_past = refl
first_is an_entry = refl
first_is more_entries = refl
first_is parameters = refl
first_is a_context = refl
first_is more_commas = refl
first_is more_semicolons = refl
first_is an_item = refl
first_is a_type = refl
first_is a_par = refl
first_is a_cat = refl
first_is a_star = refl
first_is more_stars = refl
first_is a_base = refl
first_is an_expression = refl
first_is a_pattern = refl
first_is a_head = refl
first_is an_application = refl
first_is an_atom = refl
first_is an_ending = refl
first_is the_arms = refl
first_is arguments = refl
first_is more_histories = refl
first_is more_expressions = refl
first_is a_history = refl
first_is a_comparison = refl
first_is a_sum = refl
first_is more_summands = refl
first_is a_product = refl
first_is more_factors = refl
first_is a_unary = refl
first_is a_history_atom = refl

pub next_is : (p : Part) → every (λ t. implied (next delta delta_grammar part_next (rule_of p) t) (part_next p t)) ≡ true
next_is a_program = refl
next_is declarations = refl
next_is a_declaration = refl
next_is a_main = refl
next_is a_past = refl
next_is an_entry = refl
next_is more_entries = refl
next_is parameters = refl
next_is a_context = refl
next_is more_commas = refl
next_is more_semicolons = refl
next_is an_item = refl
next_is a_type = refl
next_is a_par = refl
next_is a_cat = refl
next_is a_star = refl
next_is more_stars = refl
next_is a_base = refl
next_is an_expression = refl
next_is a_pattern = refl
next_is a_head = refl
next_is an_application = refl
next_is an_atom = refl
next_is an_ending = refl
next_is the_arms = refl
next_is arguments = refl
next_is more_histories = refl
next_is more_expressions = refl
next_is a_history = refl
next_is a_comparison = refl
next_is a_sum = refl
next_is more_summands = refl
next_is a_product = refl
next_is more_factors = refl
next_is a_unary = refl
next_is a_history_atom = refl

pub decided : (p : Part) → is_decided delta delta_grammar part_next every (rule_of p) ≡ true
decided a_program = refl
decided declarations = refl
decided a_declaration = refl
decided a_main = refl
decided a_past = refl
decided an_entry = refl
decided more_entries = refl
decided parameters = refl
decided a_context = refl
decided more_commas = refl
decided more_semicolons = refl
decided an_item = refl
decided a_type = refl
decided a_par = refl
decided a_cat = refl
decided a_star = refl
decided more_stars = refl
decided a_base = refl
decided an_expression = refl
decided a_pattern = refl
decided a_head = refl
decided an_application = refl
decided an_atom = refl
decided an_ending = refl
decided the_arms = refl
decided arguments = refl
decided more_histories = refl
decided more_expressions = refl
decided a_history = refl
decided a_comparison = refl
decided a_sum = refl
decided more_summands = refl
decided a_product = refl
decided more_factors = refl
decided a_unary = refl
decided a_history_atom = refl

pub ranked : (p : Part) → left_below delta delta_grammar (rank p) (rule_of p) ≡ true
ranked a_program = refl
ranked declarations = refl
ranked a_declaration = refl
ranked a_main = refl
ranked a_past = refl
ranked an_entry = refl
ranked more_entries = refl
ranked parameters = refl
ranked a_context = refl
ranked more_commas = refl
ranked more_semicolons = refl
ranked an_item = refl
ranked a_type = refl
ranked a_par = refl
ranked a_cat = refl
ranked a_star = refl
ranked more_stars = refl
ranked a_base = refl
ranked an_expression = refl
ranked a_pattern = refl
ranked a_head = refl
ranked an_application = refl
ranked an_atom = refl
ranked an_ending = refl
ranked the_arms = refl
ranked arguments = refl
ranked more_histories = refl
ranked more_expressions = refl
ranked a_history = refl
ranked a_comparison = refl
ranked a_sum = refl
ranked more_summands = refl
ranked a_product = refl
ranked more_factors = refl
ranked a_unary = refl
ranked a_history_atom = refl

pub rank_below : (p : Part) → nat_lt (rank p) 64 ≡ true
rank_below a_program = refl
rank_below declarations = refl
rank_below a_declaration = refl
rank_below a_main = refl
rank_below a_past = refl
rank_below an_entry = refl
rank_below more_entries = refl
rank_below parameters = refl
rank_below a_context = refl
rank_below more_commas = refl
rank_below more_semicolons = refl
rank_below an_item = refl
rank_below a_type = refl
rank_below a_par = refl
rank_below a_cat = refl
rank_below a_star = refl
rank_below more_stars = refl
rank_below a_base = refl
rank_below an_expression = refl
rank_below a_pattern = refl
rank_below a_head = refl
rank_below an_application = refl
rank_below an_atom = refl
rank_below an_ending = refl
rank_below the_arms = refl
rank_below arguments = refl
rank_below more_histories = refl
rank_below more_expressions = refl
rank_below a_history = refl
rank_below a_comparison = refl
rank_below a_sum = refl
rank_below more_summands = refl
rank_below a_product = refl
rank_below more_factors = refl
rank_below a_unary = refl
rank_below a_history_atom = refl
