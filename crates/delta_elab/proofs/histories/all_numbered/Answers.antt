-- One more argument is numbered.
use Rattle.std.proofs.Common.{◌≡◌, ◌+◌, ◌++◌, [], ◌∷◌, length, map, drop, sym, ap, ◌∙◌}
use Rattle.std.proofs.lemmas.List.{map-append}
use Rattle.hist_value.specs.HistExpr.{expr_of}
use Rattle.delta_tree.specs.Tree.{hist_of}
use Rattle.delta_meaning.specs.NewNames.{new_in_expr, new_in_exprs}
use Rattle.delta_meaning.specs.Elaboration.{numbered_expr, numbered_exprs}
use Rattle.delta_elab.specs.Numbering.{origins_of, numbers_in}
use Rattle.delta_elab.proofs.NextItems.{map-next}
use Rattle.delta_elab.proofs.Numbered.{pass_expr, pass_new}
use Rattle.delta_elab.proofs.histories.all_numbered.Goals as goal

pub loop-m-preserved : goal.loop-m-preserved
loop-m-preserved c =
    let i = c.loop-m.m-index in
    let m = c.m-item.result in
    let left = map hist_of (drop (i + 1) c.args.past.now) in
    let before = origins_of c.loop-m.origins.items in
    let after = origins_of c.numbered.new.origins.items in
    let numbers = numbers_in c.args.scope.now in
    let done = map expr_of c.loop-m.exprs.items in
    let made = c.in_ok-numbered.field-0.value in
    let inv = c.loop-m.invariant in
    let here : map hist_of (drop i c.args.past.now) ≡ hist_of m ∷ left = map-next hist_of c.args.past.now i m c.loop-m-test.true c.m-item.is in
    let is : expr_of made ≡ numbered_expr (expr_of m.expr.value) numbers (length before) =
    c.in_ok-numbered.ensures.expr ∙ ap (λ e. numbered_expr (expr_of e) numbers (length before)) c.deref.ensures in
    let more : after ≡ before ++ new_in_expr (expr_of m.expr.value) = c.in_ok-numbered.ensures.next ∙ ap (λ e. before ++ new_in_expr (expr_of e)) c.deref.ensures in
    let exprs : map expr_of c.push.new.self.items ≡ done ++ expr_of made ∷ [] =
    ap (map expr_of) c.in_ok-push.ensures.items
    ∙ (map-append expr_of c.loop-m.exprs.items (c.into_inner.result ∷ []) ∙ ap (λ e. done ++ expr_of e ∷ []) c.into_inner.ensures) in
    let all-exprs = numbered_exprs (map hist_of c.args.past.now) numbers (length (origins_of c.args.origins.now.items)) in
    let all-names = origins_of c.args.origins.now.items ++ new_in_exprs (map hist_of c.args.past.now) in (
      pass_expr all-exprs done numbers before after (hist_of m) left (expr_of made) (inv.0 ∙ ap (λ l. done ++ numbered_exprs l numbers (length before)) here) is more
          ∙ ap (λ l. l ++ numbered_exprs left numbers (length after)) (sym exprs),
      pass_new all-names before after (hist_of m) left (inv.1 ∙ ap (λ l. before ++ new_in_exprs l) here) more,
    )
