-- What the rules of parameters read, with their parts in one row.
use Rattle.std.proofs.Common.{◌≡◌, ◌∙◌, true, false, List, [], ◌∷◌, refl, ap, sym}
use Rattle.grammar.specs.Rules.{thing, part, both, either, maybe, make}
use Rattle.grammar.specs.Reading.{Outcome, got, ◌>>=◌, starts, token_at}
use Rattle.delta_tree.specs.SyntaxTree.{WrittenContext, parameter, no_parameters}
use Rattle.delta_parse.specs.declared.terminal.Terminal.{Terminal}
use Rattle.delta_parse.specs.declared.terminal.Terminal.TheVariants.{NameToken, Open, Close, Comma, Semicolon, Colon}
use Rattle.delta_parse.specs.Terminals.{Tok, is_kind}
use Rattle.delta_parse.specs.Parts.{context_thing, RuleFor, parameters, a_context, more_commas, more_semicolons, an_item, an_entry, a_type}
use Rattle.delta_parse.specs.Actions.{context_with, context_from, first_of}
use Rattle.delta_parse.specs.Rules.{sign}
use Rattle.delta_parse.specs.Tables.{reading, read_rule}
use Rattle.delta_parse.specs.Reads.{before}
use Rattle.delta_parse.proofs.Steps.{parameters_is, context_is, commas_is, semicolons_is, item_is, entry_is}
use Rattle.delta_parse.proofs.Flat.{assoc}

pub entry_flat : (ts : List Tok) → reading an_entry ts ≡ (before Colon (token_at (is_kind NameToken) ts) >>= λ x. reading a_type x.1 >>= λ t. got (x.0.worth.name, t.0) t.1)
entry_flat ts = rw (entry_is ts) (simp assoc)

pub item_named : (ts : List Tok) → starts (is_kind NameToken) ts ≡ true → reading an_item ts ≡ (reading an_entry ts >>= λ x. got (parameter x.0.0 x.0.1) x.1)
item_named ts k = rw (item_is ts, entry_is ts, k) (simp assoc)

pub item_bracket : (ts : List Tok) → starts (is_kind NameToken) ts ≡ false → reading an_item ts ≡ (token_at (is_kind Open) ts >>= λ t. before Close (reading a_context t.1))
item_bracket ts k = rw (item_is ts, k) (simp assoc)

-- an item, and maybe others behind a sign
abbrev pub tail : Terminal → RuleFor (thing context_thing) → WrittenContext → List Tok → Outcome Tok WrittenContext
tail k more a ts = read_rule (maybe (both (sign k) more)) ts >>= λ y. got (context_from (a, y.0)) y.1

pub commas_flat : (ts : List Tok) → reading more_commas ts ≡ (reading an_item ts >>= λ x. tail Comma (part more_commas) x.0 x.1)
commas_flat ts = rw (commas_is ts) (simp assoc)

pub semicolons_flat : (ts : List Tok) → reading more_semicolons ts ≡ (reading an_item ts >>= λ x. tail Semicolon (part more_semicolons) x.0 x.1)
semicolons_flat ts = rw (semicolons_is ts) (simp assoc)

pub tail_alone : (k : Terminal) (more : RuleFor (thing context_thing)) (a : WrittenContext) (ts : List Tok) → starts (is_kind k) ts ≡ false → tail k more a ts ≡ got a ts
tail_alone k more a ts e = rw e refl

pub tail_more : (k : Terminal) (more : RuleFor (thing context_thing)) (a : WrittenContext) (ts : List Tok) (t : Tok) (mid : List Tok) → ts ≡ t ∷ mid → is_kind k t.kind ≡ true
    → tail k more a ts ≡ (read_rule more mid >>= λ y. got (context_with t.kind a y.0) y.1)
tail_more k more a ts t mid q e = ap (tail k more a) q ∙ rw e (simp assoc)

-- the same of the first item, which either sign may follow
abbrev pub first_tail : WrittenContext → List Tok → Outcome Tok WrittenContext
first_tail a ts = read_rule (maybe (either (both (sign Comma) (part more_commas)) (both (sign Semicolon) (part more_semicolons)))) ts >>= λ y. got (context_from (a, y.0)) y.1

pub context_flat : (ts : List Tok) → reading a_context ts ≡ (reading an_item ts >>= λ x. first_tail x.0 x.1)
context_flat ts = rw (context_is ts) (simp assoc)

pub first_alone : (a : WrittenContext) (ts : List Tok) → starts (is_kind Comma) ts ≡ false → starts (is_kind Semicolon) ts ≡ false → first_tail a ts ≡ got a ts
first_alone a [] n p = refl
first_alone a (t ∷ mid) n p = rw (n, p) refl

pub first_commas : (a : WrittenContext) (ts : List Tok) (t : Tok) (mid : List Tok) → ts ≡ t ∷ mid → is_kind Comma t.kind ≡ true → first_tail a ts ≡ (reading more_commas mid >>= λ y. got (context_with t.kind a y.0) y.1)
first_commas a ts t mid q k = ap (first_tail a) q ∙ rw k (simp assoc)

pub first_semicolons : (a : WrittenContext) (ts : List Tok) (t : Tok) (mid : List Tok) → starts (is_kind Comma) ts ≡ false → ts ≡ t ∷ mid → is_kind Semicolon t.kind ≡ true
    → first_tail a ts ≡ (reading more_semicolons mid >>= λ y. got (context_with t.kind a y.0) y.1)
first_semicolons a ts t mid n q k =
    let m : is_kind Comma t.kind ≡ false = sym (ap (λ us. starts (is_kind Comma) us) q) ∙ n in
    ap (first_tail a) q ∙ rw (m, k) (simp assoc)

-- what stands behind the bracket of parameters
abbrev pub inside_rule : RuleFor (thing context_thing)
inside_rule = either {s = thing context_thing} (make {t = thing context_thing} (λ c. no_parameters) (sign Close)) (make first_of (both (part a_context) (sign Close)))

abbrev pub inside : List Tok → Outcome Tok WrittenContext
inside ts = read_rule inside_rule ts >>= λ y. got y.0 y.1

pub parameters_flat : (ts : List Tok) → reading parameters ts ≡ (token_at (is_kind Open) ts >>= λ t. inside t.1)
parameters_flat ts = rw (parameters_is ts) (simp assoc)

pub inside_none : (ts : List Tok) (t : Tok) (mid : List Tok) → ts ≡ t ∷ mid → is_kind Close t.kind ≡ true → inside ts ≡ got no_parameters mid
inside_none ts t mid q k = ap inside q ∙ rw k refl

pub inside_some : (ts : List Tok) → starts (is_kind Close) ts ≡ false → inside ts ≡ before Close (reading a_context ts)
inside_some ts k = rw k (simp assoc)
