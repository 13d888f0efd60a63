-- What the grammar derives is made as it makes trees: no list of parameters has an empty part, and `main` has no historical parameters.
use Rattle.std.proofs.Common.{◌≡◌, Bool, true, ◌&&◌, List, [], Option, Some, None, refl, ap, ap₂, ◌∙◌, ◌⊎◌, inl, inr}
use Rattle.grammar.specs.Rules.{Sort, one_of, part, both, either, maybe, placed, make}
use Rattle.grammar.specs.Grammar.{Derives, by_token, by_part, by_both, by_left, by_right, by_none, by_some, by_placed, by_make}
use Rattle.delta_tree.specs.SyntaxTree.{WrittenContext, no_parameters, parameter, side_by_side, in_sequence, WrittenFunction, Declaration}
use Rattle.delta_parse.specs.declared.terminal.Terminal.{Terminal}
use Rattle.delta_parse.specs.declared.terminal.Terminal.TheVariants.{Semicolon}
use Rattle.delta_parse.specs.Terminals.{Tok}
use Rattle.delta_parse.specs.Parts.{Thing, Part, a_program, declarations, a_declaration, a_main, parameters, a_context, more_commas, more_semicolons, an_item, stands_for, delta, Meant, RuleFor}
use Rattle.delta_parse.specs.Rules.{rule_of}
use Rattle.delta_parse.specs.Actions.{more_of, context_with, context_from}
use Rattle.delta_parse.specs.Tables.{delta_grammar}
use Rattle.delta_print.specs.Printable.{has_parameters, is_made, declaration_is_made, declarations_are_made}

-- what is so of each value of a part
abbrev pub PartIsMade : (p : Part) → Meant (stands_for p) → Type 0
PartIsMade a_program v = (declarations_are_made v.0 ≡ true) × ((is_made v.1.context ≡ true) × (v.1.past ≡ []))
PartIsMade declarations v = declarations_are_made v ≡ true
PartIsMade a_declaration v = declaration_is_made v ≡ true
PartIsMade a_main v = (is_made v.context ≡ true) × (v.past ≡ [])
PartIsMade parameters v = is_made v ≡ true
PartIsMade a_context v = has_parameters v ≡ true
PartIsMade more_commas v = has_parameters v ≡ true
PartIsMade more_semicolons v = has_parameters v ≡ true
PartIsMade an_item v = has_parameters v ≡ true
PartIsMade _ v = Unit {0}

abbrev OptionIsMade : {A : Type 0} → (A → Type 0) → Option A → Type 0
OptionIsMade P None = Unit {0}
OptionIsMade P (Some x) = P x

-- a value is made by the rule of parts that are made
abbrev IsMadeBy : {s : Sort Thing} → RuleFor s → Meant s → Type 0
IsMadeBy (one_of is) v = Unit {0}
IsMadeBy (part p) v = PartIsMade p v
IsMadeBy (both a b) v = IsMadeBy a v.0 × IsMadeBy b v.1
IsMadeBy (either a b) v = IsMadeBy a v ⊎ IsMadeBy b v
IsMadeBy (maybe a) v = OptionIsMade (IsMadeBy a) v
IsMadeBy (placed a) v = IsMadeBy a v.1
IsMadeBy (make {s = s} f a) v = (x : Meant s) × ((v ≡ f x) × IsMadeBy a x)

both_are : (a b : Bool) → a ≡ true → b ≡ true → a && b ≡ true
both_are a b e f = ap₂ (λ x y. x && y) e f

more_are_made : (x : Option (Declaration × List Declaration)) → OptionIsMade (λ v. (declaration_is_made v.0 ≡ true) × (declarations_are_made v.1 ≡ true)) x → declarations_are_made (more_of x) ≡ true
more_are_made None h = refl
more_are_made (Some (d, ds)) h = both_are _ _ h.0 h.1

has_then_is : (c : WrittenContext) → has_parameters c ≡ true → is_made c ≡ true
has_then_is no_parameters h = refl
has_then_is (parameter x t) h = refl
has_then_is (side_by_side a b) h = h
has_then_is (in_sequence a b) h = h

two_have : (k : Terminal) (a b : WrittenContext) → has_parameters a ≡ true → has_parameters b ≡ true → has_parameters (context_with k a b) ≡ true
two_have Semicolon a b h g = both_are _ _ h g
two_have _ a b h g = both_are _ _ h g

-- an item, and more behind a sign or none
list_has : (x : WrittenContext × Option (Tok × WrittenContext)) → has_parameters x.0 ≡ true → OptionIsMade (λ v. has_parameters v.1 ≡ true) x.1 → has_parameters (context_from x) ≡ true
list_has (a, None) h g = h
list_has (a, Some (t, b)) h g = two_have t.kind a b h g

either_sign : (x : Option (Tok × WrittenContext)) → OptionIsMade (λ v. (Unit {0} × (has_parameters v.1 ≡ true)) ⊎ (Unit {0} × (has_parameters v.1 ≡ true))) x
    → OptionIsMade (λ v. has_parameters v.1 ≡ true) x
either_sign None h = tt
either_sign (Some v) (inl h) = h.1
either_sign (Some v) (inr h) = h.1

one_sign : (x : Option (Tok × WrittenContext)) → OptionIsMade (λ v. Unit {0} × (has_parameters v.1 ≡ true)) x → OptionIsMade (λ v. has_parameters v.1 ≡ true) x
one_sign None h = tt
one_sign (Some v) h = h.1

part_is_made : (p : Part) (v : Meant (stands_for p)) → IsMadeBy (rule_of p) v → PartIsMade p v
part_is_made a_program v h = h
part_is_made declarations v (x, (e, m)) = ap declarations_are_made e ∙ more_are_made x m
part_is_made a_declaration v (inl (x, (e, m))) = ap declaration_is_made e
part_is_made a_declaration v (inr (x, (e, m))) = ap declaration_is_made e ∙ m.1.1.1.0
part_is_made a_main v (x, (e, m)) = (ap (λ (f : WrittenFunction). is_made f.context) e ∙ m.1.0, ap (λ (f : WrittenFunction). f.past) e)
part_is_made parameters v (x, (e, (o, inl (y, (f, m))))) = ap is_made (e ∙ f)
part_is_made parameters v (x, (e, (o, inr (y, (f, m))))) = ap is_made (e ∙ f) ∙ has_then_is y.0 m.0
part_is_made a_context v (x, (e, m)) = ap has_parameters e ∙ list_has x m.0 (either_sign x.1 m.1)
part_is_made more_commas v (x, (e, m)) = ap has_parameters e ∙ list_has x m.0 (one_sign x.1 m.1)
part_is_made more_semicolons v (x, (e, m)) = ap has_parameters e ∙ list_has x m.0 (one_sign x.1 m.1)
part_is_made an_item v (inl (x, (e, m))) = ap has_parameters e
part_is_made an_item v (inr (x, (e, m))) = ap has_parameters e ∙ m.1.0
part_is_made _ v h = tt

module _ (part_is : (p : Part) (v : Meant (stands_for p)) → IsMadeBy (rule_of p) v → PartIsMade p v) where
  made_by : {s : Sort Thing} {a : RuleFor s} {ts : List Tok} {v : Meant s} → Derives delta delta_grammar s a ts v → IsMadeBy a v
  made_by (by_token h) = tt
  made_by (by_part {p = p} {v = v} d) = part_is p v (made_by d)
  made_by (by_both d e) = (made_by d, made_by e)
  made_by (by_left d) = inl (made_by d)
  made_by (by_right d) = inr (made_by d)
  made_by by_none = tt
  made_by (by_some d) = made_by d
  made_by (by_placed d) = made_by d
  made_by (by_make {x = x} d) = (x, (refl, made_by d))

-- a program that is derived is made so
pub program_is_made : (ts : List Tok) (ds : List Declaration) (m : WrittenFunction) → Derives delta delta_grammar _ (part a_program) ts (ds, m)
    → (declarations_are_made ds ≡ true) × ((is_made m.context ≡ true) × (m.past ≡ []))
program_is_made ts ds m d = made_by part_is_made d
