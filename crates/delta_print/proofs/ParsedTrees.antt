-- The tree of the tokens of a text can be printed, and its canonical text is read as that tree.
use Rattle.std.proofs.Common.{◌≡◌, ℕ, ◌+◌, ◌<◌, Bool, true, false, List, [], ◌∷◌, ◌++◌, length, refl, sym, ap, subst, ◌∙◌}
use Rattle.std.specs.Prelude.{◌==◌, if◌then◌else◌}
use Rattle.std.specs.Str.{chars}
use Rattle.std.proofs.lemmas.Str.{scalars-chars}
use Rattle.grammar.specs.Rules.{pair, thing, list}
use Rattle.delta_tree.specs.SyntaxTree.{WrittenFunction, Declaration, ProgramTree}
use Rattle.delta_parse.specs.Parts.{declaration_thing, function_thing}
use Rattle.delta_parse.specs.Plain.{names_in, grammar_tokens}
use Rattle.delta_parse.specs.Programs.{tree_with}
use Rattle.delta_print.specs.declared.chunk.Chunk.{Chunk}
use Rattle.delta_print.specs.declared.chunk.Chunk.TheVariants.{Fixed, Named, Digits, Minus, TypeStar}
use Rattle.delta_print.specs.Chunks.{name_text}
use Rattle.delta_print.specs.Rows.{declaration_row, main_row}
use Rattle.delta_print.specs.Printable.{declarations_row, program_row}
use Rattle.delta_print.specs.ReadingBack.{IsNameText, AreSpelled, AreInOrder, IsPrintable}
use Rattle.delta_print.specs.Laws.{ParsedIsPrintable, ParsedIsRead}
use Rattle.delta_print.proofs.Items.{Item, textless, has_text, items, value_items}
use Rattle.delta_print.proofs.ItemsOfRows.{items-append}
use Rattle.delta_print.proofs.KeptItems.{keeps, part_items}
use Rattle.delta_print.proofs.ItemsOfTokens.{item_names, AreWritable, AreItemsOf, items_of_derived}
use Rattle.delta_print.proofs.MadeTrees.{program_is_made}
use Rattle.delta_print.proofs.NumberedNames.{AreInTurn, are_numbers, are_in_turn, name_within, text_is_name, names_are_distinct}
use Rattle.delta_print.proofs.Numbering.{canonical_is_read}

-- a word or a sign is no name
fixed_names : (b : Bool) (r : List Item) → item_names ((if b then [] else textless ∷ []) ++ r) ≡ item_names r
fixed_names true r = refl
fixed_names false r = refl

-- names in turn are in order in their row
ordered : (all n : ℕ) (row : List Chunk) → AreInTurn all n (item_names (items row)) → AreInOrder all n row
ordered all n [] h = h
ordered all n (Fixed k ∷ row) h = (tt, ordered all n row (subst (AreInTurn all n) (fixed_names (has_text k) (items row)) h))
ordered all n (Named x ∷ row) h = (h.0, ordered all (if x.0 == n then n + 1 else n) row h.1)
ordered all n (Digits m ∷ row) h = (tt, ordered all n row h)
ordered all n (Minus ∷ row) h = (tt, ordered all n row h)
ordered all n (TypeStar ∷ row) h = (tt, ordered all n row h)

-- a word or a sign with a text
fixed_writable : (b : Bool) (r : List Item) → AreWritable ((if b then [] else textless ∷ []) ++ r) → (b ≡ true) × AreWritable r
fixed_writable true r h = (refl, h)
fixed_writable false r h = absurd h.0

-- tokens that can be written have texts that are tokens
spelled : (names : List (List ℕ)) (n : ℕ) (row : List Chunk) → ((i : ℕ) → i < length names → IsNameText (name_text names i)) → AreWritable (items row) → AreInTurn (length names) n (item_names (items row))
    → AreSpelled names row
spelled names n [] t w h = tt
spelled names n (Fixed k ∷ row) t w h =
    let parts = fixed_writable (has_text k) (items row) w in
    (parts.0, spelled names n row t parts.1 (subst (AreInTurn (length names) n) (fixed_names (has_text k) (items row)) h))
spelled names n (Named x ∷ row) t w h =
    let within : x.0 < length names = name_within (length names) n x.0 (item_names (items row)) h in
    ((within, t x.0 within), spelled names (if x.0 == n then n + 1 else n) row t w.1 h.1)
spelled names n (Digits m ∷ row) t w h = (w.0, spelled names n row t w.1 h)
spelled names n (Minus ∷ row) t w h = (tt, spelled names n row t w h)
spelled names n (TypeStar ∷ row) t w h = (tt, spelled names n row t w h)

items-declarations : (ds : List Declaration) → items (declarations_row ds) ≡ value_items (list (thing declaration_thing)) ds
items-declarations [] = refl
items-declarations (d ∷ ds) = items-append (declaration_row d) (declarations_row ds) ∙ ap (λ r. items (declaration_row d) ++ r) (items-declarations ds)

items-program : (names : List (List ℕ)) (ds : List Declaration) (m : WrittenFunction) → value_items (pair (list (thing declaration_thing)) (thing function_thing)) (ds, m) ≡ items (program_row (tree_with names ds m))
items-program names ds m =
    ap (λ r. r ++ items (main_row m)) (sym (items-declarations ds)) ∙ sym (items-append (declarations_row ds) (main_row m))

pub parsed_is_printable : ParsedIsPrintable
parsed_is_printable text ls tree utf8 d is =
    let names : List (List ℕ) = names_in ls in
    let whole : ProgramTree = tree_with names is.found is.main in
    let said : AreItemsOf (grammar_tokens ls) (value_items (pair (list (thing declaration_thing)) (thing function_thing)) (is.found, is.main)) =
    items_of_derived keeps part_items is.program.derived tt in
    let of_row : AreItemsOf (grammar_tokens ls) (items (program_row whole)) = subst (AreItemsOf (grammar_tokens ls)) (items-program names is.found is.main) said in
    let turn : AreInTurn (length names) 0 (item_names (items (program_row whole))) = subst (AreInTurn (length names) 0) (sym of_row.names) (are_in_turn [] ls) in
    let writable : AreWritable (items (program_row whole)) = of_row.writable (are_numbers [] ls) in
    let made = program_is_made (grammar_tokens ls) is.found is.main is.program.derived in
    let printable : IsPrintable whole = record {
      made = record { declarations = made.0; context = made.1.0; past = made.1.1 };
      spelled = spelled names 0 (program_row whole) (text_is_name (chars text) ls d (scalars-chars text utf8)) writable turn;
      ordered = ordered (length names) 0 (program_row whole) turn;
      distinct = names_are_distinct ls;
      main = refl;
    } in
    subst IsPrintable (sym is.is) printable

pub parsed_is_read : ParsedIsRead
parsed_is_read text ls tree utf8 d is = canonical_is_read tree (parsed_is_printable text ls tree utf8 d is)
