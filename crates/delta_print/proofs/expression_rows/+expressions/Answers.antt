-- A call is what its parts append, with its arguments as a list. Each part of a form is less deep.
use Rattle.std.proofs.Common.{◌≡◌, ℕ, arith, [], ◌∷◌, ◌++◌, map, sym, ap, ◌∙◌}
use Rattle.delta_parse.specs.declared.terminal.Terminal.TheVariants.{Open, Close}
use Rattle.delta_tree.specs.SyntaxTree.{Expression, Head, call_at, call_head}
use Rattle.delta_tree.specs.Tree.{expression_form_of, expressions_of, head_form_of, hist_of}
use Rattle.delta_tree.proofs.Rows.{expression_form_of-call, head_form_of-call}
use Rattle.delta_print.specs.declared.chunk.Chunk.TheVariants.{Fixed}
use Rattle.delta_print.specs.Chunks.{named}
use Rattle.delta_print.specs.Rows.{expression_row, expressions_row, head_row, hists_row}
use Rattle.delta_print.proofs.Appends.{on_ok_from, call_appended}
use Rattle.delta_print.proofs.Depths.{par_parts, cat_parts, cons_parts, inl_parts, inr_parts, typed_parts, let_parts, let_par_parts, let_cat_parts, case_sum_parts, case_star_parts, wait_parts, if_parts}
use Rattle.delta_print.proofs.expression_rows.+expressions.Goals as goal

pub put_form-returns-in_ok-put_expressions-in-Call : goal.put_form-returns-in_ok-put_expressions-in-Call
put_form-returns-in_ok-put_expressions-in-Call t c =
    let old = c.args.row.now.items in
    let front : c.put_callee.new.row.items ≡ old ++ named c.in-Call.f.0 ∷ (hists_row (map hist_of c.in-Call.hists.items) ++ Fixed Open ∷ []) = rw c.deref.ensures.value at c.in_ok-put_callee-in-Call.ensures in
    let inside : c.put_expressions.new.row.items ≡ c.put_callee.new.row.items ++ expressions_row (expressions_of c.in-Call.arguments.items) = rw c.deref-in-Call.ensures.value at c.in_ok-put_expressions-in-Call.ensures in
    let P : Type 0 = c.put_fixed-in-Call.new.row.items ≡ c.put_expressions.new.row.items ++ Fixed Close ∷ [] in
    let Q : Type 0 = (at : ℕ) → c.put_fixed-in-Call.new.row.items ≡ old ++ expression_row (expression_form_of at c.args.form.now) in
    let tree : (at : ℕ) → expression_form_of at c.args.form.now ≡ call_at at c.in-Call.f.0 (map hist_of c.in-Call.hists.items) (expressions_of c.in-Call.arguments.items) =
    λ at. ap (expression_form_of at) c.in-Call.is ∙ expression_form_of-call at c.in-Call.f c.in-Call.hists c.in-Call.arguments in
    on_ok_from P Q c.put_fixed-in-Call.result
    (λ closed at. call_appended old _ _ _ c.in-Call.f.0 (map hist_of c.in-Call.hists.items) (expressions_row (expressions_of c.in-Call.arguments.items)) front inside closed
    ∙ ap (λ (e : Expression). old ++ expression_row e) (sym (tree at)))
    c.put_fixed-in-Call.ensures

pub put_head_form-returns-in_ok-put_expressions-in-Call : goal.put_head_form-returns-in_ok-put_expressions-in-Call
put_head_form-returns-in_ok-put_expressions-in-Call t c =
    let old = c.args.row.now.items in
    let front : c.put_callee.new.row.items ≡ old ++ named c.in-Call.f.0 ∷ (hists_row (map hist_of c.in-Call.hists.items) ++ Fixed Open ∷ []) = rw c.deref.ensures.value at c.in_ok-put_callee-in-Call.ensures in
    let inside : c.put_expressions.new.row.items ≡ c.put_callee.new.row.items ++ expressions_row (expressions_of c.in-Call.arguments.items) = rw c.deref-in-Call.ensures.value at c.in_ok-put_expressions-in-Call.ensures in
    let P : Type 0 = c.put_fixed.new.row.items ≡ c.put_expressions.new.row.items ++ Fixed Close ∷ [] in
    let Q : Type 0 = (at : ℕ) → c.put_fixed.new.row.items ≡ old ++ head_row (head_form_of at c.args.form.now) in
    let tree : (at : ℕ) → head_form_of at c.args.form.now ≡ call_head at c.in-Call.f.0 (map hist_of c.in-Call.hists.items) (expressions_of c.in-Call.arguments.items) =
    λ at. ap (head_form_of at) c.in-Call.is ∙ head_form_of-call at c.in-Call.f c.in-Call.hists c.in-Call.arguments in
    on_ok_from P Q c.put_fixed.result
    (λ closed at. call_appended old _ _ _ c.in-Call.f.0 (map hist_of c.in-Call.hists.items) (expressions_row (expressions_of c.in-Call.arguments.items)) front inside closed
    ∙ ap (λ (h : Head). old ++ head_row h) (sym (tree at)))
    c.put_fixed.ensures

pub put_form-put_application-requires : goal.put_form-put_application-requires
put_form-put_application-requires t c = let parts = cons_parts _ _ _ c.in-Cons.is in (omega arith, tt)

pub put_form-put_typed-requires : goal.put_form-put_typed-requires
put_form-put_typed-requires t c = let parts = typed_parts _ _ _ c.in-Asc.is in (omega arith, tt)

pub put_form-put_bound-requires : goal.put_form-put_bound-requires
put_form-put_bound-requires t c = let parts = let_parts _ _ _ _ c.in-Let.is in (omega arith, tt)

pub put_form-put_expression-requires-in-Let : goal.put_form-put_expression-requires-in-Let
put_form-put_expression-requires-in-Let t c = let parts = let_parts _ _ _ _ c.in-Let.is in (omega arith, tt)

pub put_form-put_expression-requires-in-Wait : goal.put_form-put_expression-requires-in-Wait
put_form-put_expression-requires-in-Wait t c = let parts = wait_parts _ _ _ c.in-Wait.is in (omega arith, tt)

pub put_form-put_expression-requires-in-If : goal.put_form-put_expression-requires-in-If
put_form-put_expression-requires-in-If t c = let parts = if_parts _ _ _ _ c.in-If.is in (omega arith, tt)

pub put_form-put_expression-requires-in-If-2 : goal.put_form-put_expression-requires-in-If-2
put_form-put_expression-requires-in-If-2 t c = let parts = if_parts _ _ _ _ c.in-If.is in (omega arith, tt)

pub put_form-put_pair-requires : goal.put_form-put_pair-requires
put_form-put_pair-requires t c = let parts = par_parts _ _ _ c.in-Par.is in (omega arith, tt)

pub put_form-put_pair-requires-in-Cat : goal.put_form-put_pair-requires-in-Cat
put_form-put_pair-requires-in-Cat t c = let parts = cat_parts _ _ _ c.in-Cat.is in (omega arith, tt)

pub put_form-put_expression-requires : goal.put_form-put_expression-requires
put_form-put_expression-requires t c = let parts = cons_parts _ _ _ c.in-Cons.is in (omega arith, tt)

pub put_form-put_side-requires : goal.put_form-put_side-requires
put_form-put_side-requires t c = let parts = inl_parts _ _ c.in-Inl.is in (omega arith, tt)

pub put_form-put_side-requires-in-Inr : goal.put_form-put_side-requires-in-Inr
put_form-put_side-requires-in-Inr t c = let parts = inr_parts _ _ c.in-Inr.is in (omega arith, tt)

pub put_form-put_split-requires : goal.put_form-put_split-requires
put_form-put_split-requires t c = let parts = let_par_parts _ _ _ _ _ c.in-LetPar.is in (omega arith, tt)

pub put_form-put_split-requires-in-LetCat : goal.put_form-put_split-requires-in-LetCat
put_form-put_split-requires-in-LetCat t c = let parts = let_cat_parts _ _ _ _ _ c.in-LetCat.is in (omega arith, tt)

pub put_form-put_sum_case-requires : goal.put_form-put_sum_case-requires
put_form-put_sum_case-requires t c = let parts = case_sum_parts _ _ _ _ _ _ c.in-CaseSum.is in (omega arith, tt)

pub put_form-put_star_case-requires : goal.put_form-put_star_case-requires
put_form-put_star_case-requires t c = let parts = case_star_parts _ _ _ _ _ _ c.in-CaseStar.is in (omega arith, tt)

pub put_application-put_expression-requires : goal.put_application-put_expression-requires
put_application-put_expression-requires t c = (omega arith, tt)

pub put_application-put_expression-requires-2 : goal.put_application-put_expression-requires-2
put_application-put_expression-requires-2 t c = (omega arith, tt)

pub put_arm-put_expression-requires : goal.put_arm-put_expression-requires
put_arm-put_expression-requires t c = (omega arith, tt)

pub put_bound-put_head-requires : goal.put_bound-put_head-requires
put_bound-put_head-requires t c = (omega arith, tt)

pub put_first-put_expression-requires : goal.put_first-put_expression-requires
put_first-put_expression-requires t c = (omega arith, tt)

pub put_item_arm-put_expression-requires : goal.put_item_arm-put_expression-requires
put_item_arm-put_expression-requires t c = (omega arith, tt)

pub put_subject-put_head-requires : goal.put_subject-put_head-requires
put_subject-put_head-requires t c = (omega arith, tt)

pub put_typed-put_first-requires : goal.put_typed-put_first-requires
put_typed-put_first-requires t c = (omega arith, tt)

pub put_pair-put_first-requires : goal.put_pair-put_first-requires
put_pair-put_first-requires t c = (omega arith, tt)

pub put_pair-put_expression-requires : goal.put_pair-put_expression-requires
put_pair-put_expression-requires t c = (omega arith, tt)

pub put_side-put_application-requires : goal.put_side-put_application-requires
put_side-put_application-requires t c = (omega arith, tt)

pub put_split-put_bound-requires : goal.put_split-put_bound-requires
put_split-put_bound-requires t c = (omega arith, tt)

pub put_split-put_expression-requires : goal.put_split-put_expression-requires
put_split-put_expression-requires t c = (omega arith, tt)

pub put_sum_case-put_subject-requires : goal.put_sum_case-put_subject-requires
put_sum_case-put_subject-requires t c = (omega arith, tt)

pub put_sum_case-put_arm-requires : goal.put_sum_case-put_arm-requires
put_sum_case-put_arm-requires t c = (omega arith, tt)

pub put_sum_case-put_arm-requires-2 : goal.put_sum_case-put_arm-requires-2
put_sum_case-put_arm-requires-2 t c = (omega arith, tt)

pub put_star_case-put_subject-requires : goal.put_star_case-put_subject-requires
put_star_case-put_subject-requires t c = (omega arith, tt)

pub put_star_case-put_expression-requires : goal.put_star_case-put_expression-requires
put_star_case-put_expression-requires t c = (omega arith, tt)

pub put_star_case-put_item_arm-requires : goal.put_star_case-put_item_arm-requires
put_star_case-put_item_arm-requires t c = (omega arith, tt)
