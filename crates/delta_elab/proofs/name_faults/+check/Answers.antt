-- What comes before in the order of reading is fine.
use Rattle.std.proofs.Common.{◌≡◌, ◌⊎◌, inl, inr, ℕ, Bool, true, Option, Some, None, map, sym, ap, ◌∙◌}
use Rattle.std.proofs.lemmas.Result.{err_from_is_err_and}
use Rattle.bunch.specs.Names.{put}
use Rattle.hist_value.specs.HistExpr.{expr_of}
use Rattle.delta_tree.specs.declared.expressions.Exp.{Exp}
use Rattle.delta_tree.specs.declared.expressions.Form.{Form}
use Rattle.delta_tree.specs.declared.expressions.Form.TheVariants.{Par, Cat, Cons}
use Rattle.delta_tree.specs.SyntaxTree.{call_at, call_head}
use Rattle.delta_tree.specs.Tree.{hist_of, expression_form_of, expression_of, head_of, expressions_of, declaration_of}
use Rattle.delta_tree.proofs.Rows.{expression_form_of-call, head_form_of-call}
use Rattle.delta_meaning.specs.TypeNames.{TypeNames}
use Rattle.delta_meaning.specs.KnownTypes.{names_known}
use Rattle.delta_meaning.specs.Faults.{Fault, expr_faults, exprs_faults, faults_in, argument_faults}
use Rattle.delta_elab.specs.Bounds.{bound_in, is_declared}
use Rattle.delta_elab.specs.FirstFault.{fault_of, said, to_say}
use Rattle.delta_elab.proofs.Firsts.{later, earlier}
use Rattle.delta_elab.proofs.name_faults.+check.Goals as goal

pub check_expression-returns-in_err-check_expression-in-CaseSum : goal.check_expression-returns-in_err-check_expression-in-CaseSum
check_expression-returns-in_err-check_expression-in-CaseSum t c =
    let is_there = is_declared (map declaration_of c.args.known.now.decls.now) in
    let names = names_known c.args.known.now.types.now in
    let bound = bound_in c.args.bound.now in
    let e = c.in_err-check_expression-in-CaseSum.field-0.0 in
    let second : Some (fault_of e) ≡ to_say (faults_in is_there names (expression_of c.in-CaseSum.a) (put c.in-CaseSum.x.0 true bound)) =
    cc c.in_err-check_expression-in-CaseSum.ensures in
    let exit = err_from_is_err_and c.from_residual-in_err-check_expression-in-CaseSum.result c.from_residual-in_err-check_expression-in-CaseSum.ensures.1 in
    rw (sym c.deref.ensures ∙ c.in-CaseSum.is, exit.1, exit.2) (later _ _ _ c.in_ok-check_head-in-CaseSum.ensures (earlier _ _ _ second))

pub check_expression-returns-in_ok-check_histories-in-Call : goal.check_expression-returns-in_ok-check_histories-in-Call
check_expression-returns-in_ok-check_histories-in-Call t c =
    let is_there = is_declared (map declaration_of c.args.known.now.decls.now) in
    let names = names_known c.args.known.now.types.now in
    let bound = bound_in c.args.bound.now in
    let whole : expression_of c.args.e.now ≡ call_at c.args.e.now.at c.in-Call.f.0 (map hist_of c.in-Call.past.items) (expressions_of c.in-Call.arguments.items) =
    rw (sym c.deref.ensures ∙ c.in-Call.is) (expression_form_of-call _ c.in-Call.f c.in-Call.past c.in-Call.arguments) in
    let second : None ≡ to_say (exprs_faults (map hist_of c.in-Call.past.items) bound) =
    cc (c.in_ok-check_histories-in-Call.ensures, c.deref-in-Call.ensures.value) in
    let third : said c.check_arguments.result ≡ to_say (argument_faults is_there names (expressions_of c.in-Call.arguments.items) bound) =
    cc (c.check_arguments.ensures, c.deref-in-Call-2.ensures.value) in
    rw whole (later _ _ _ c.in_ok-check_function-in-Call.ensures (later _ _ _ second third))

pub check_head-returns-in_ok-check_histories-in-Call : goal.check_head-returns-in_ok-check_histories-in-Call
check_head-returns-in_ok-check_histories-in-Call t c =
    let is_there = is_declared (map declaration_of c.args.known.now.decls.now) in
    let names = names_known c.args.known.now.types.now in
    let bound = bound_in c.args.bound.now in
    let whole : head_of c.args.h.now ≡ call_head c.args.h.now.at c.in-Call.f.0 (map hist_of c.in-Call.past.items) (expressions_of c.in-Call.arguments.items) =
    rw (sym c.deref.ensures ∙ c.in-Call.is) (head_form_of-call _ c.in-Call.f c.in-Call.past c.in-Call.arguments) in
    let second : None ≡ to_say (exprs_faults (map hist_of c.in-Call.past.items) bound) =
    cc (c.in_ok-check_histories-in-Call.ensures, c.deref-in-Call.ensures.value) in
    let third : said c.check_arguments.result ≡ to_say (argument_faults is_there names (expressions_of c.in-Call.arguments.items) bound) =
    cc (c.check_arguments.ensures, c.deref-in-Call-2.ensures.value) in
    rw whole (later _ _ _ c.in_ok-check_function-in-Call.ensures (later _ _ _ second third))

-- two parts in turn, whatever the form
two_parts : (is_there : ℕ → Bool) (names : TypeNames) (bound : ℕ → Bool) (at : ℕ) (form : Form) (a b : Exp) (s : Option (Option Fault))
    → (form ≡ Par a b) ⊎ ((form ≡ Cat a b) ⊎ (form ≡ Cons a b))
    → None ≡ to_say (faults_in is_there names (expression_of a) bound) → s ≡ to_say (faults_in is_there names (expression_of b) bound)
    → s ≡ to_say (faults_in is_there names (expression_form_of at form) bound)
two_parts is_there names bound at form a b s (inl p) h k = rw p (later (faults_in is_there names (expression_of a) bound) (faults_in is_there names (expression_of b) bound) s h k)
two_parts is_there names bound at form a b s (inr (inl p)) h k = rw p (later (faults_in is_there names (expression_of a) bound) (faults_in is_there names (expression_of b) bound) s h k)
two_parts is_there names bound at form a b s (inr (inr p)) h k = rw p (later (faults_in is_there names (expression_of a) bound) (faults_in is_there names (expression_of b) bound) s h k)

pub check_expression-returns-in_ok-check_expression-in-Par : goal.check_expression-returns-in_ok-check_expression-in-Par
check_expression-returns-in_ok-check_expression-in-Par t c =
    let is_there = is_declared (map declaration_of c.args.known.now.decls.now) in
    let names = names_known c.args.known.now.types.now in
    rw (sym c.deref.ensures) (two_parts is_there names (bound_in c.args.bound.now) c.args.e.now.at c.deref.result.now c.in-Par.a c.in-Par.b (said c.check_expression-in-Par-2.result) c.in-Par.is
    c.in_ok-check_expression-in-Par.ensures c.check_expression-in-Par-2.ensures)

pub check_expression-returns-in_ok-check_expression-in-Asc : goal.check_expression-returns-in_ok-check_expression-in-Asc
check_expression-returns-in_ok-check_expression-in-Asc t c =
    rw (sym c.deref.ensures ∙ c.in-Asc.is) (later _ _ _ c.in_ok-check_expression-in-Asc.ensures c.check_type.ensures)

pub check_expression-returns-in_ok-check_expression-in-If : goal.check_expression-returns-in_ok-check_expression-in-If
check_expression-returns-in_ok-check_expression-in-If t c =
    let bound = bound_in c.args.bound.now in
    let first : None ≡ to_say (expr_faults c.in-If.m.at (expr_of c.in-If.m.expr.value) bound) = c.in_ok-check_history-in-If.ensures ∙ ap (λ u. to_say (expr_faults c.in-If.m.at (expr_of u) bound)) c.deref-in-If.ensures in
    rw (sym c.deref.ensures ∙ c.in-If.is) (later _ _ _ first (later _ _ _ c.in_ok-check_expression-in-If.ensures c.check_expression-in-If-2.ensures))
