-- What the rules of declarations read, with their parts in one row.
use Rattle.std.proofs.Common.{◌≡◌, ◌∙◌, true, false, List, [], ◌∷◌, refl, ap}
use Rattle.grammar.specs.Rules.{thing, list, part, both, make}
use Rattle.grammar.specs.Reading.{got, ◌>>=◌, starts, token_at}
use Rattle.delta_tree.specs.SyntaxTree.{alias_declared, function_declared}
use Rattle.delta_parse.specs.declared.terminal.Terminal.TheVariants.{FunWord, MainWord, TypeWord, Equals, Colon, OpenBrace, CloseBrace, NameToken}
use Rattle.delta_parse.specs.Terminals.{Tok, is_kind}
use Rattle.delta_parse.specs.Parts.{entry_thing, declaration_thing, RuleFor, a_declaration, a_main, an_entry, more_entries, parameters, a_type, an_expression}
use Rattle.delta_parse.specs.Actions.{function_from}
use Rattle.delta_parse.specs.Rules.{sign, alias_rule, function_rule, given_past_rule, entry_items_rule}
use Rattle.delta_parse.specs.Tables.{reading, read_rule}
use Rattle.delta_parse.specs.Readers.{behind}
use Rattle.delta_parse.specs.Reads.{before, name_between, fun_name, headed}
use Rattle.delta_parse.proofs.Steps.{declaration_is, main_is, past_is}
use Rattle.delta_parse.proofs.Flat.{assoc}

pub declaration_alias : (ts : List Tok) → starts (is_kind TypeWord) ts ≡ true → reading a_declaration ts ≡ read_rule alias_rule ts
declaration_alias ts k = rw (declaration_is ts, k) refl

pub declaration_function : (ts : List Tok) → starts (is_kind TypeWord) ts ≡ false → reading a_declaration ts ≡ read_rule function_rule ts
declaration_function ts k = rw (declaration_is ts, k) refl

pub alias_flat : (ts : List Tok) → read_rule alias_rule ts ≡ (name_between TypeWord Equals ts >>= λ x. reading a_type x.1 >>= λ t. got (alias_declared (record { name = x.0.1; type = t.0; at = x.0.0 })) t.1)
alias_flat ts = simp assoc

function_of : (past : RuleFor (list (thing entry_thing))) (ts : List Tok) → read_rule {s = thing declaration_thing} (make {t = thing declaration_thing} function_from (both (sign FunWord) (both (sign NameToken) (both past (both (part parameters)
    (both (sign Colon) (both (part a_type) (both (sign Equals) (part an_expression))))))))) ts ≡ (fun_name ts >>= λ x. read_rule past x.1 >>= λ p. headed x.0.0 x.0.1 p.0 p.1 >>= λ g. got (function_declared g.0) g.1)
function_of past ts = simp assoc

pub function_flat : (ts : List Tok) → read_rule function_rule ts ≡ (fun_name ts >>= λ x. read_rule given_past_rule x.1 >>= λ p. headed x.0.0 x.0.1 p.0 p.1 >>= λ g. got (function_declared g.0) g.1)
function_flat ts = function_of given_past_rule ts

pub main_flat : (ts : List Tok) → reading a_main ts ≡ (token_at (is_kind MainWord) ts >>= λ m. headed m.0.at 0 [] m.1)
main_flat ts = rw (main_is ts) (simp assoc)

pub past_none : (ts : List Tok) → starts (is_kind OpenBrace) ts ≡ false → read_rule given_past_rule ts ≡ got [] ts
past_none ts k = rw k refl

pub past_some : (ts : List Tok) (t : Tok) (mid : List Tok) → ts ≡ t ∷ mid → is_kind OpenBrace t.kind ≡ true → read_rule given_past_rule ts ≡ before CloseBrace (read_rule entry_items_rule mid)
past_some ts t mid q k = ap (λ us. read_rule given_past_rule us) q ∙ rw (past_is (t ∷ mid), k) (simp assoc)

pub items_flat : (ts : List Tok) → read_rule entry_items_rule ts ≡ (reading an_entry ts >>= λ x. behind (x.0 ∷ []) (reading more_entries x.1))
items_flat ts = simp assoc
