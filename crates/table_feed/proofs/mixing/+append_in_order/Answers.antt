-- The first word, and then the others, one step more to the right.
use Rattle.std.proofs.Common.{◌≡◌, List, ◌∷◌, ◌++◌, ◌+◌, map, suc, length, ap, ◌∙◌, sym, subst, append_assoc}
use Rattle.std.specs.Prelude.{OnOk}
use Rattle.std.proofs.lemmas.List.{length-map}
use Rattle.event_word.specs.StreamEvent.{StreamEvent}
use Rattle.table_feed.specs.Mixing.{in_order}
use Rattle.table_feed.specs.Room.{right_by, placed}
use Rattle.table_feed.proofs.Placing.{told_empty, in_order_step}
use Rattle.table_feed.proofs.mixing.+append_in_order.Goals as goal

pub returns : goal.returns
returns t c =
    let ws = map (λ w. w.now) c.in-Some.rest.now in
    let len : length (c.in-Some.word.now.now ∷ ws) ≡ suc (length c.in-Some.rest.now) = ap suc (length-map c.in-Some.rest.now (λ w. w.now)) in
    let last = told_empty c.is_empty.result (length c.in-Some.rest.now) (length (c.in-Some.word.now.now ∷ ws)) c.is_empty.ensures len in
    let step = in_order_step c.args.depth c.in-Some.word.now.now ws c.is_empty.result last in
    let split = ap (map (λ w. w.now)) c.in-Some.ensures.cases.0 in
    let tail = map (right_by (c.args.depth + 1)) (in_order ws) in
    let whole = ap (λ (xs : List StreamEvent). xs ++ tail) c.in_ok-append_word.ensures
    ∙ append_assoc c.args.mixed.now.items (map (placed c.args.depth c.is_empty.result) c.in-Some.word.now.now) tail
    ∙ ap (λ (xs : List StreamEvent). c.args.mixed.now.items ++ xs) (sym step ∙ ap (λ (vs : List (List StreamEvent)). map (right_by c.args.depth) (in_order vs)) (sym split)) in
    subst (λ (xs : List StreamEvent). OnOk c.append_in_order.result (c.append_in_order.new.mixed.items ≡ xs)) whole c.append_in_order.ensures
