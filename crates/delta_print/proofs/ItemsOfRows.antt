-- The items of rows: of rows one behind the other, of a row in brackets, and of each form.
use Rattle.std.proofs.Common.{◌≡◌, ℕ, Bool, true, false, List, [], ◌∷◌, ◌++◌, refl, sym, ap, ap₂, ◌∙◌, append_assoc, append-nil}
use Rattle.std.specs.Prelude.{ℤ, pos, negsuc, zero, suc, neg_ℤ}
use Rattle.hist_value.specs.declared.expr.Op.{Op}
use Rattle.hist_value.specs.declared.expr.Op.TheVariants.{Add, Sub, Mul, Div, Less as LessOp, Same}
use Rattle.hist_value.specs.HistExpr.{HistExpr, reckoned}
use Rattle.delta_tree.specs.SyntaxTree.{WrittenType, WrittenContext, WrittenHist, Expression, WrittenFunction}
use Rattle.delta_parse.specs.declared.terminal.Terminal.{Terminal}
use Rattle.delta_parse.specs.declared.terminal.Terminal.TheVariants.{Open, Close, CloseBrace, Comma, Colon, Equals, FstWord, SndWord, InlWord, Semicolon}
use Rattle.delta_parse.specs.Parts.{entry_thing, history_thing, expression_thing}
use Rattle.delta_parse.specs.Actions.{expression_list, context_with, prefixed_expr}
use Rattle.delta_print.specs.declared.chunk.Chunk.{Chunk}
use Rattle.delta_print.specs.declared.chunk.Chunk.TheVariants.{Fixed}
use Rattle.delta_print.specs.Brackets.{enclosed, hist_bare, left_place, right_place}
use Rattle.delta_print.specs.Rows.{type_row, context_row, entry_row, more_entries_row, past_row, op_sign, number_row, hist_row, more_hists_row, hists_row, call_row, signature_row, expression_row, expressions_row, more_expressions_row}
use Rattle.grammar.specs.Rules.{thing, list}
use Rattle.delta_print.proofs.Items.{name, chunk_items, items, value_items}

pub items-append : (a b : List Chunk) → items (a ++ b) ≡ items a ++ items b
items-append [] b = refl
items-append (c ∷ a) b = ap (λ r. chunk_items c ++ r) (items-append a b) ∙ sym (append_assoc (chunk_items c) (items a) (items b))

-- before a word or a sign that ends the row
pub items_before : (a : List Chunk) (c : Chunk) → chunk_items c ≡ [] → items (a ++ c ∷ []) ≡ items a
items_before a c e = items-append a (c ∷ []) ∙ ap (λ r. items a ++ (r ++ [])) e ∙ append-nil (items a)

-- with a word or a sign between them
pub items-between : (a : List Chunk) (c : Chunk) (b : List Chunk) → chunk_items c ≡ [] → items (a ++ c ∷ b) ≡ items a ++ items b
items-between a c b e = items-append a (c ∷ b) ∙ ap (λ r. items a ++ (r ++ items b)) e

-- and another one that ends the row
pub items_inside : (a : List Chunk) (c : Chunk) (b : List Chunk) (d : Chunk) → chunk_items c ≡ [] → chunk_items d ≡ [] → items (a ++ c ∷ (b ++ d ∷ [])) ≡ items a ++ items b
items_inside a c b d e h = items-between a c (b ++ d ∷ []) e ∙ ap (λ r. items a ++ r) (items_before b d h)

pub items-enclosed : (bare : Bool) (row : List Chunk) → items (enclosed bare row) ≡ items row
items-enclosed true row = refl
items-enclosed false row = items_before row (Fixed Close) refl

-- two rows, each in brackets or not, with a sign between them
pub items-two : (p q : Bool) (a b : List Chunk) (c : Chunk) → chunk_items c ≡ [] → items (enclosed p a ++ c ∷ enclosed q b) ≡ items a ++ items b
items-two p q a b c e = items-between (enclosed p a) c (enclosed q b) e ∙ ap₂ (λ u w. u ++ w) (items-enclosed p a) (items-enclosed q b)

-- each of the parameters of both kinds
pub items-more_entries : (ps : List (ℕ × WrittenType)) → items (more_entries_row ps) ≡ value_items (list (thing entry_thing)) ps
items-more_entries [] = refl
items-more_entries (p ∷ ps) = items-append (entry_row p) (more_entries_row ps) ∙ ap (λ r. items (entry_row p) ++ r) (items-more_entries ps)

pub items-past : (ps : List (ℕ × WrittenType)) → items (past_row ps) ≡ value_items (list (thing entry_thing)) ps
items-past [] = refl
items-past (p ∷ ps) =
    items-append (entry_row p) (more_entries_row ps ++ Fixed CloseBrace ∷ []) ∙ ap (λ r. items (entry_row p) ++ r) (items_before (more_entries_row ps) (Fixed CloseBrace) refl ∙ items-more_entries ps)

-- arguments of both kinds
pub items-more_hists : (ms : List WrittenHist) → items (more_hists_row ms) ≡ value_items (list (thing history_thing)) ms
items-more_hists [] = refl
items-more_hists (m ∷ ms) = items-append (hist_row m.expr) (more_hists_row ms) ∙ ap (λ r. items (hist_row m.expr) ++ r) (items-more_hists ms)

pub items-hists : (ms : List WrittenHist) → items (hists_row ms) ≡ value_items (list (thing history_thing)) ms
items-hists [] = refl
items-hists (m ∷ ms) =
    items-append (hist_row m.expr) (more_hists_row ms ++ Fixed CloseBrace ∷ []) ∙ ap (λ r. items (hist_row m.expr) ++ r) (items_before (more_hists_row ms) (Fixed CloseBrace) refl ∙ items-more_hists ms)

pub items-more_expressions : (es : List Expression) → items (more_expressions_row (expression_list es)) ≡ value_items (list (thing expression_thing)) es
items-more_expressions [] = refl
items-more_expressions (e ∷ es) =
    items-append (expression_row e) (more_expressions_row (expression_list es)) ∙ ap (λ r. items (expression_row e) ++ r) (items-more_expressions es)

pub items-expressions : (es : List Expression) → items (expressions_row (expression_list es)) ≡ value_items (list (thing expression_thing)) es
items-expressions [] = refl
items-expressions (e ∷ es) =
    items-append (expression_row e) (more_expressions_row (expression_list es)) ∙ ap (λ r. items (expression_row e) ++ r) (items-more_expressions es)

pub items-call : (f : ℕ) (ms : List WrittenHist) (es : List Expression)
    → items (call_row f ms (expressions_row (expression_list es))) ≡ name f ∷ (value_items (list (thing history_thing)) ms ++ value_items (list (thing expression_thing)) es)
items-call f ms es =
    ap (λ r. name f ∷ r) (items-append (hists_row ms) (Fixed Open ∷ (expressions_row (expression_list es) ++ Fixed Close ∷ []))
    ∙ ap₂ (λ u w. u ++ w) (items-hists ms) (items_before (expressions_row (expression_list es)) (Fixed Close) refl ∙ items-expressions es))

-- HISTORICAL EXPRESSIONS

op_silent : (o : Op) → chunk_items (Fixed (op_sign o)) ≡ []
op_silent Add = refl
op_silent Sub = refl
op_silent Mul = refl
op_silent Div = refl
op_silent LessOp = refl
op_silent Same = refl

pub items-reckoned : (o : Op) (a b : HistExpr) → items (hist_row (reckoned o a b)) ≡ items (hist_row a) ++ items (hist_row b)
items-reckoned o a b =
    items-two (hist_bare (left_place o) a) (hist_bare (right_place o) b) (hist_row a) (hist_row b) (Fixed (op_sign o)) (op_silent o)

pub items-prefixed : (k : Terminal) (e : HistExpr) → items (hist_row (prefixed_expr k e)) ≡ items (hist_row e)
items-prefixed FstWord e = items-enclosed _ (hist_row e)
items-prefixed SndWord e = items-enclosed _ (hist_row e)
items-prefixed InlWord e = items-enclosed _ (hist_row e)
items-prefixed _ e = items-enclosed _ (hist_row e)

pub items-negated : (z : ℤ) → items (number_row (neg_ℤ z)) ≡ items (number_row z)
items-negated (pos zero) = refl
items-negated (pos (suc n)) = refl
items-negated (negsuc n) = refl

-- PARAMETERS

pub items-context_with : (k : Terminal) (a b : WrittenContext) → items (context_row (context_with k a b)) ≡ items (context_row a) ++ items (context_row b)
items-context_with Semicolon a b = items-two _ _ (context_row a) (context_row b) (Fixed Semicolon) refl
items-context_with _ a b = items-two _ _ (context_row a) (context_row b) (Fixed Comma) refl

-- FUNCTIONS

pub items-signature : (f : WrittenFunction) → items (signature_row f) ≡ items (context_row f.context) ++ (items (type_row f.result) ++ items (expression_row f.body))
items-signature f =
    items-append (context_row f.context ++ Fixed Close ∷ []) (Fixed Colon ∷ (type_row f.result ++ (Fixed Equals ∷ expression_row f.body)))
    ∙ ap₂ (λ u w. u ++ w) (items_before (context_row f.context) (Fixed Close) refl) (items-between (type_row f.result) (Fixed Equals) (expression_row f.body) refl)
