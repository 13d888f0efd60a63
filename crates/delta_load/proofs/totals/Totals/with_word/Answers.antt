use Rattle.std.proofs.Common.{◌≡◌, ◌+◌, List, ◌++◌, ◌∷◌, [], take, drop, refl, sym, ap, subst, ◌∙◌, append_assoc, arith}
use Rattle.std.proofs.lemmas.List.{take_all}
use Rattle.event_word.specs.StreamEvent.{StreamEvent}
use Rattle.delta_load.specs.Counting.{totals_of, IsLong}
use Rattle.delta_load.proofs.Counts.{long-append}
use Rattle.delta_load.proofs.Turns.{parted}
use Rattle.delta_load.proofs.totals.Totals.with_word.Goals as goal
use Rattle.delta_state.proofs.Counts.{take-next}

pub returns-in_err-totals-clause-long : goal.returns-in_err-totals-clause-long
returns-in_err-totals-clause-long c none word is =
    let before : List StreamEvent = take c.loop-x.x-index c.args.more.now in
    let rest : List StreamEvent = drop (c.loop-x.x-index + 1) c.args.more.now in
    let x : StreamEvent = c.x-item.result in
    let whole : ((word ++ before) ++ x ∷ []) ++ rest ≡ word ++ c.args.more.now =
    append_assoc (word ++ before) (x ∷ []) rest ∙ append_assoc word before (x ∷ rest)
    ∙ ap (λ (w : List StreamEvent). word ++ w) (sym (parted c.args.more.now c.loop-x.x-index x (omega arith) c.x-item.is)) in
    subst IsLong whole (long-append ((word ++ before) ++ x ∷ []) rest (c.in_err-totals.ensures.long refl (word ++ before) (c.loop-x.invariant word is)))

pub returns-clause-counted : goal.returns-clause-counted
returns-clause-counted c word is =
    c.loop-x.invariant word is ∙ ap (λ (w : List StreamEvent). totals_of (word ++ w)) (take_all c.loop-x.x-index c.args.more.now c.loop-x-test.false)

pub loop-x-preserved : goal.loop-x-preserved
loop-x-preserved c word is =
    let before : List StreamEvent = take c.loop-x.x-index c.args.more.now in
    let x : StreamEvent = c.x-item.result in
    c.in_ok-totals.ensures.counted (word ++ before) (c.loop-x.invariant word is)
    ∙ ap totals_of (append_assoc word before (x ∷ []) ∙ ap (λ (w : List StreamEvent). word ++ w) (sym (take-next c.args.more.now c.loop-x.x-index x c.loop-x-test.true c.x-item.is)))
