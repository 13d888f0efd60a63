use Rattle.std.proofs.Common.{◌≡◌, ◌∷◌, sym, ap, ◌∙◌}
use Rattle.std.specs.Prelude.{slice_set}
use Rattle.std.proofs.lemmas.List.Edits.{map_over_more}
use Rattle.event_word.specs.StreamEvent.{under}
use Rattle.event_word.proofs.Canons.{is_under}
use Rattle.event_word.proofs.canonical.lift.Goals as goal

pub loop-x-preserved : goal.loop-x-preserved
loop-x-preserved c =
    let word = c.loop-x.word in
    let i = c.loop-x.x-index in
    let x = c.x-item.result in
    let lifted = c.unwrap.ensures in
    let path = rw lifted at c.under.ensures.path in
    let leaf = rw lifted at c.under.ensures.leaf in
    let e : c.unwrap.result ≡ under c.args.step x = is_under c.unwrap.result x c.args.step (path ∙ ap (λ y. c.args.step ∷ y.path) (sym c.x-item.is)) (leaf ∙ ap (λ y. y.leaf) (sym c.x-item.is)) in
    ap (λ y. slice_set word i y) e ∙ map_over_more (under c.args.step) c.args.word.now word i x c.loop-x-test.true c.loop-x.invariant c.x-item.is
