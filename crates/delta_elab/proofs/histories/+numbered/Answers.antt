-- Expressions by their numbered parts.
use Rattle.std.proofs.Common.{◌≡◌, ◌++◌, [], ◌∷◌, length, Some, ap, ◌∙◌, append_assoc}
use Rattle.hist_value.specs.HistExpr.{expr_of, choice, fold_expr}
use Rattle.delta_meaning.specs.NewNames.{new_in_expr}
use Rattle.delta_meaning.specs.Elaboration.{numbered_expr}
use Rattle.delta_elab.specs.Numbering.{origins_of, numbers_in}
use Rattle.delta_elab.proofs.Numbered.{is_made, on_ok, then_more, numbered-next, choice-numbered, fold-numbered}
use Rattle.delta_elab.proofs.histories.+numbered.Goals as goal

pub both-returns-clause-right : goal.both-returns-clause-right
both-returns-clause-right t c =
    numbered-next (expr_of c.args.a.now) (expr_of c.args.b.now) (numbers_in c.args.scope.now) (origins_of c.args.origins.now.items) (origins_of c.numbered.new.origins.items) (expr_of c.in_ok-numbered.field-0.value)
    c.in_ok-a.ensures.next c.in_ok-numbered.ensures.expr

pub both-returns-clause-next : goal.both-returns-clause-next
both-returns-clause-next t c =
    then_more (origins_of c.args.origins.now.items) (origins_of c.numbered.new.origins.items) (origins_of c.numbered-2.new.origins.items) (new_in_expr (expr_of c.args.a.now)) (new_in_expr (expr_of c.args.b.now))
    c.in_ok-a.ensures.next c.in_ok-numbered.ensures.next

pub choice-returns-clause-expr : goal.choice-returns-clause-expr
choice-returns-clause-expr t c =
    let a = expr_of c.args.a.now in
    let b = expr_of c.args.b.now in
    let d = expr_of c.args.c.now in
    let first = origins_of c.args.origins.now.items in
    let numbers = numbers_in c.args.scope.now in
    is_made c.boxed.result (λ r. expr_of r.value) (choice (expr_of c.in_ok-a.a.value) c.in_ok-i.i.0 (expr_of c.in_ok-b.b.value) c.in_ok-j.j.0 (expr_of c.in_ok-c.c.value)) (numbered_expr (choice a c.args.x.0 b c.args.y.0 d) numbers (length first))
    (choice-numbered a b d c.args.x.0 c.args.y.0 c.in_ok-i.i.0 c.in_ok-j.j.0 numbers
    first (origins_of c.numbered.new.origins.items) (origins_of c.named.new.origins.items) (origins_of c.numbered-2.new.origins.items) (origins_of c.named-2.new.origins.items)
    (expr_of c.in_ok-a.a.value) (expr_of c.in_ok-b.b.value) (expr_of c.in_ok-c.c.value)
    c.in_ok-a.ensures.next c.in_ok-i.ensures.next c.in_ok-b.ensures.next c.in_ok-j.ensures.next c.in_ok-i.ensures.number c.in_ok-j.ensures.number
    c.in_ok-a.ensures.expr c.in_ok-b.ensures.expr c.in_ok-c.ensures.expr)
    c.boxed.ensures

pub choice-returns-clause-next : goal.choice-returns-clause-next
choice-returns-clause-next t c =
    let a = new_in_expr (expr_of c.args.a.now) in
    let b = new_in_expr (expr_of c.args.b.now) in
    let d = new_in_expr (expr_of c.args.c.now) in
    let first = origins_of c.args.origins.now.items in
    let second = origins_of c.numbered.new.origins.items in
    let third = origins_of c.named.new.origins.items in
    let fourth = origins_of c.numbered-2.new.origins.items in
    let fifth = origins_of c.named-2.new.origins.items in
    let last = origins_of c.numbered-3.new.origins.items in
    let x = Some c.args.x.0 in
    let y = Some c.args.y.0 in
    on_ok (last ≡ first ++ (a ++ (x ∷ (b ++ (y ∷ d))))) c.boxed.result
    (then_more first second last a (x ∷ (b ++ (y ∷ d))) c.in_ok-a.ensures.next
    (then_more second third last (x ∷ []) (b ++ (y ∷ d)) c.in_ok-i.ensures.next
    (then_more third fourth last b (y ∷ d) c.in_ok-b.ensures.next
    (then_more fourth fifth last (y ∷ []) d c.in_ok-j.ensures.next c.in_ok-c.ensures.next))))

pub fold-returns-clause-expr : goal.fold-returns-clause-expr
fold-returns-clause-expr t c =
    let a = expr_of c.args.a.now in
    let s = expr_of c.args.s.now in
    let b = expr_of c.args.b.now in
    let first = origins_of c.args.origins.now.items in
    let numbers = numbers_in c.args.scope.now in
    is_made c.boxed.result (λ r. expr_of r.value) (fold_expr (expr_of c.in_ok-a.a.value) (expr_of c.in_ok-a.s.value) c.in_ok-i.i.0 c.in_ok-j.j.0 (expr_of c.in_ok-b.b.value)) (numbered_expr (fold_expr a s c.args.x.0 c.args.y.0 b) numbers (length first))
    (fold-numbered a s b c.args.x.0 c.args.y.0 c.in_ok-i.i.0 c.in_ok-j.j.0 numbers
    first (origins_of c.both.new.origins.items) (origins_of c.named.new.origins.items) (origins_of c.named-2.new.origins.items)
    (expr_of c.in_ok-a.a.value) (expr_of c.in_ok-a.s.value) (expr_of c.in_ok-b.b.value)
    c.in_ok-a.ensures.next c.in_ok-i.ensures.next c.in_ok-j.ensures.next c.in_ok-i.ensures.number c.in_ok-j.ensures.number
    c.in_ok-a.ensures.left c.in_ok-a.ensures.right c.in_ok-b.ensures.expr)
    c.boxed.ensures

pub fold-returns-clause-next : goal.fold-returns-clause-next
fold-returns-clause-next t c =
    let a = new_in_expr (expr_of c.args.a.now) in
    let s = new_in_expr (expr_of c.args.s.now) in
    let b = new_in_expr (expr_of c.args.b.now) in
    let first = origins_of c.args.origins.now.items in
    let second = origins_of c.both.new.origins.items in
    let third = origins_of c.named.new.origins.items in
    let fourth = origins_of c.named-2.new.origins.items in
    let last = origins_of c.numbered.new.origins.items in
    let x = Some c.args.x.0 in
    let y = Some c.args.y.0 in
    on_ok (last ≡ first ++ (a ++ (s ++ (x ∷ (y ∷ b))))) c.boxed.result
    (then_more first second last (a ++ s) (x ∷ (y ∷ b)) c.in_ok-a.ensures.next
    (then_more second third last (x ∷ []) (y ∷ b) c.in_ok-i.ensures.next
    (then_more third fourth last (y ∷ []) b c.in_ok-j.ensures.next c.in_ok-b.ensures.next))
    ∙ ap (λ l. first ++ l) (append_assoc a s (x ∷ (y ∷ b))))
