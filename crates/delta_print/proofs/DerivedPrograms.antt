-- The grammar derives the tokens of each program that it makes.
use Rattle.std.proofs.Common.{◌≡◌, ℕ, Bool, true, false, ◌&&◌, List, [], ◌∷◌, ◌++◌, map, refl, sym, ap, ◌∙◌}
use Rattle.grammar.specs.Rules.{thing, list, pair, part}
use Rattle.stream_type.specs.StreamType.{StreamType, eps, one, int, cat, par, sum, star}
use Rattle.delta_tree.specs.SyntaxTree.{WrittenType, WrittenContext, no_parameters, parameter, side_by_side, in_sequence, WrittenFunction, Declaration, alias_declared, function_declared}
use Rattle.delta_tree.specs.Unplaced.{unplaced_type, unplaced_context, unplaced_past, unplaced_expression, unplaced_function, unplaced_declaration}
use Rattle.delta_parse.specs.declared.terminal.Terminal.TheVariants.{FunWord, MainWord, TypeWord, Open, Close, OpenBrace, CloseBrace, Comma, Semicolon, Colon, Equals}
use Rattle.delta_parse.specs.Parts.{type_thing, context_thing, entry_thing, declaration_thing, function_thing, a_type, a_program, declarations, a_declaration, a_main, a_past, an_entry, more_entries, parameters, a_context, more_commas, more_semicolons, an_item}
use Rattle.delta_parse.specs.Rules.{given_past_rule}
use Rattle.delta_parse.specs.Actions.{function_with}
use Rattle.delta_print.specs.declared.chunk.Chunk.{Chunk}
use Rattle.delta_print.specs.declared.chunk.Chunk.TheVariants.{Fixed}
use Rattle.delta_print.specs.declared.place.ContextPlace.TheVariants as contexts
use Rattle.delta_print.specs.Chunks.{named}
use Rattle.delta_print.specs.Rows.{type_row, context_row, context_row_at, parameters_row, entry_row, more_entries_row, past_row, declaration_row, main_row}
use Rattle.delta_print.specs.Canonical.{written}
use Rattle.delta_print.specs.Printable.{declarations_row, program_row, has_parameters, is_made, declaration_is_made, declarations_are_made}
use Rattle.delta_print.specs.Laws.{CanonicalIsDerived, ShownIsDerived}
use Rattle.delta_print.proofs.Deriving.{From, token_from, part_from, both_from, alone_from, left_from, right_from, none_from, some_from, make_from, sign_from, grouped_from}
use Rattle.delta_print.proofs.Placing.{Placed, give_places}
use Rattle.delta_print.proofs.NaturalRules.{natural}
use Rattle.delta_print.proofs.DerivedTypes.{brackets, type_stands}
use Rattle.delta_print.proofs.DerivedExpressions.{expression_stands}

pub both_true : (a b : Bool) → a && b ≡ true → (a ≡ true) × (b ≡ true)
both_true true b h = (refl, h)
both_true false b h = absurd (cc h)

-- PARAMETERS

-- parameters, derived as a whole and at each place, by the rows that stand there
pub record ContextStands (v : WrittenContext) (whole item commas semicolons : List Chunk) : Type 0 where
  pub is_context : From {s = thing context_thing} (part a_context) whole v
  pub is_item : From {s = thing context_thing} (part an_item) item v
  pub is_commas : From {s = thing context_thing} (part more_commas) commas v
  pub is_semicolons : From {s = thing context_thing} (part more_semicolons) semicolons v

at_item : (u : List Chunk) (v : WrittenContext) → From {s = thing context_thing} (part an_item) u v → ContextStands v u u u u
at_item u v d = record {
  is_context = part_from a_context (make_from (alone_from d none_from));
  is_item = d;
  is_commas = part_from more_commas (make_from (alone_from d none_from));
  is_semicolons = part_from more_semicolons (make_from (alone_from d none_from));
}

-- in brackets they stand everywhere
in_brackets : (u : List Chunk) (v : WrittenContext) → From {s = thing context_thing} (part a_context) u v → ContextStands v (brackets u) (brackets u) (brackets u) (brackets u)
in_brackets u v d = at_item (brackets u) v (part_from an_item (right_from (make_from (both_from (sign_from Open refl) (both_from d (sign_from Close refl))))))

-- side by side, and in sequence
commas_from : (u w : List Chunk) (a b : WrittenContext) → From {s = thing context_thing} (part an_item) u a → From {s = thing context_thing} (part more_commas) w b
    → ContextStands (side_by_side a b) (u ++ Fixed Comma ∷ w) (brackets (u ++ Fixed Comma ∷ w)) (u ++ Fixed Comma ∷ w) (brackets (u ++ Fixed Comma ∷ w))
commas_from u w a b d e =
    let c : From {s = thing context_thing} (part a_context) (u ++ Fixed Comma ∷ w) (side_by_side a b) = part_from a_context (make_from (both_from d (some_from (left_from (both_from (sign_from Comma refl) e))))) in
    record {
      is_context = c;
      is_item = (in_brackets _ _ c).is_item;
      is_commas = part_from more_commas (make_from (both_from d (some_from (both_from (sign_from Comma refl) e))));
      is_semicolons = (in_brackets _ _ c).is_semicolons;
    }

semicolons_from : (u w : List Chunk) (a b : WrittenContext) → From {s = thing context_thing} (part an_item) u a → From {s = thing context_thing} (part more_semicolons) w b
    → ContextStands (in_sequence a b) (u ++ Fixed Semicolon ∷ w) (brackets (u ++ Fixed Semicolon ∷ w)) (brackets (u ++ Fixed Semicolon ∷ w)) (u ++ Fixed Semicolon ∷ w)
semicolons_from u w a b d e =
    let c : From {s = thing context_thing} (part a_context) (u ++ Fixed Semicolon ∷ w) (in_sequence a b) = part_from a_context (make_from (both_from d (some_from (right_from (both_from (sign_from Semicolon refl) e))))) in
    record {
      is_context = c;
      is_item = (in_brackets _ _ c).is_item;
      is_commas = (in_brackets _ _ c).is_commas;
      is_semicolons = part_from more_semicolons (make_from (both_from d (some_from (both_from (sign_from Semicolon refl) e))));
    }

context_stands : (c : WrittenContext) → has_parameters c ≡ true → ContextStands (unplaced_context c) (context_row c) (context_row_at contexts.Item c) (context_row_at contexts.Commas c) (context_row_at contexts.Semicolons c)
context_stands no_parameters h = absurd (cc h)
context_stands (parameter x t) h =
    at_item _ _ (part_from an_item (left_from (make_from (both_from (token_from (named x) refl) (both_from (sign_from Colon refl) (type_stands t).is_type)))))
context_stands (side_by_side a b) h =
    commas_from _ _ _ _ (context_stands a (both_true _ _ h).0).is_item (context_stands b (both_true _ _ h).1).is_commas
context_stands (in_sequence a b) h =
    semicolons_from _ _ _ _ (context_stands a (both_true _ _ h).0).is_item (context_stands b (both_true _ _ h).1).is_semicolons

listed_from : (u : List Chunk) (v : WrittenContext) → From {s = thing context_thing} (part a_context) u v
    → From {s = thing context_thing} (part parameters) (Fixed Open ∷ (u ++ Fixed Close ∷ [])) v
listed_from u v d = part_from parameters (make_from (both_from (sign_from Open refl) (right_from (make_from (both_from d (sign_from Close refl))))))

parameters_stand : (c : WrittenContext) → is_made c ≡ true → From {s = thing context_thing} (part parameters) (parameters_row c) (unplaced_context c)
parameters_stand no_parameters h = part_from parameters (make_from (both_from (sign_from Open refl) (left_from (make_from (sign_from Close refl)))))
parameters_stand (parameter x t) h = listed_from _ _ (context_stands (parameter x t) h).is_context
parameters_stand (side_by_side a b) h = listed_from _ _ (context_stands (side_by_side a b) h).is_context
parameters_stand (in_sequence a b) h = listed_from _ _ (context_stands (in_sequence a b) h).is_context

entry_stands : (p : ℕ × WrittenType) → From {s = thing entry_thing} (part an_entry) (entry_row p) (unplaced_past p)
entry_stands (x, t) = part_from an_entry (make_from (both_from (token_from (named x) refl) (both_from (sign_from Colon refl) (type_stands t).is_type)))

more_entries_stand : (ps : List (ℕ × WrittenType)) → From {s = list (thing entry_thing)} (part more_entries) (more_entries_row ps) (map unplaced_past ps)
more_entries_stand [] = part_from more_entries (make_from none_from)
more_entries_stand (p ∷ ps) = part_from more_entries (make_from (some_from (both_from (sign_from Comma refl) (both_from (entry_stands p) (more_entries_stand ps)))))

past_stands : (ps : List (ℕ × WrittenType)) → From {s = list (thing entry_thing)} given_past_rule (past_row ps) (map unplaced_past ps)
past_stands [] = make_from none_from
past_stands (p ∷ ps) =
    make_from (some_from (part_from a_past (make_from (both_from (sign_from OpenBrace refl)
    (grouped_from (entry_row p) (more_entries_row ps) (Fixed CloseBrace ∷ []) (both_from (make_from (both_from (entry_stands p) (more_entries_stand ps))) (sign_from CloseBrace refl)))))))

-- DECLARATIONS

declaration_stands : (d : Declaration) → declaration_is_made d ≡ true → From {s = thing declaration_thing} (part a_declaration) (declaration_row d) (unplaced_declaration d)
declaration_stands (alias_declared a) h =
    part_from a_declaration (left_from (make_from (both_from (sign_from TypeWord refl) (both_from (token_from (named a.name) refl) (both_from (sign_from Equals refl) (type_stands a.type).is_type)))))
declaration_stands (function_declared f) h =
    part_from a_declaration (right_from (make_from (both_from (sign_from FunWord refl) (both_from (token_from (named f.name) refl) (both_from (past_stands f.past) (both_from (parameters_stand f.context h)
    (both_from (sign_from Colon refl) (both_from (type_stands f.result).is_type (both_from (sign_from Equals refl) (expression_stands f.body).is_expression)))))))))

declarations_stand : (ds : List Declaration) → declarations_are_made ds ≡ true → From {s = list (thing declaration_thing)} (part declarations) (declarations_row ds) (map unplaced_declaration ds)
declarations_stand [] h = part_from declarations (make_from none_from)
declarations_stand (d ∷ ds) h =
    part_from declarations (make_from (some_from (both_from (declaration_stands d (both_true _ _ h).0) (declarations_stand ds (both_true _ _ h).1))))

main_stands : (f : WrittenFunction) → is_made f.context ≡ true → From {s = thing function_thing} (part a_main) (main_row f) (function_with 0 0 [] (unplaced_context f.context) (unplaced_type f.result) (unplaced_expression f.body))
main_stands f h =
    part_from a_main (make_from (both_from (sign_from MainWord refl) (both_from (parameters_stand f.context h)
    (both_from (sign_from Colon refl) (both_from (type_stands f.result).is_type (both_from (sign_from Equals refl) (expression_stands f.body).is_expression))))))

-- the tokens of each program that the grammar makes are derived
pub canonical_is_derived : CanonicalIsDerived
canonical_is_derived p made ts h =
    let m : WrittenFunction = function_with 0 0 [] (unplaced_context p.main.context) (unplaced_type p.main.result) (unplaced_expression p.main.body) in
    let whole : From {s = pair (list (thing declaration_thing)) (thing function_thing)} (part a_program) (program_row p) (map unplaced_declaration p.declarations, m)
    = part_from a_program (both_from (declarations_stand p.declarations made.declarations) (main_stands p.main made.context)) in
    let k : Placed {s = pair (list (thing declaration_thing)) (thing function_thing)} (part a_program) ts (map unplaced_declaration p.declarations, m)
    = give_places natural whole.given tt ts (sym h) in
    let main_is : record (unplaced_function p.main) { name = 0 } ≡ m = rw made.past refl in record {
      found = k.value.0;
      main = k.value.1;
      program = record { derived = k.derived };
      same_declarations = ap (λ (v : List Declaration × WrittenFunction). v.0) k.same;
      same_main = ap (λ (v : List Declaration × WrittenFunction). v.1) k.same ∙ sym main_is;
    }

-- TYPES

-- a type that is written at no place has no places
written-unplaced : (t : StreamType) → unplaced_type (written t) ≡ written t
written-unplaced eps = refl
written-unplaced one = refl
written-unplaced int = refl
written-unplaced (cat s t) = cc (written-unplaced s, written-unplaced t)
written-unplaced (par s t) = cc (written-unplaced s, written-unplaced t)
written-unplaced (sum s t) = cc (written-unplaced s, written-unplaced t)
written-unplaced (star s) = cc (written-unplaced s)

pub shown_is_derived : ShownIsDerived
shown_is_derived t ts h =
    let whole : From {s = thing type_thing} (part a_type) (type_row (written t)) (written t) = rw (written-unplaced t) at (type_stands (written t)).is_type in
    let k : Placed {s = thing type_thing} (part a_type) ts (written t) = give_places natural whole.given tt ts (sym h) in
    record { found = k.value; derived = k.derived; same = k.same }
