-- One entry after another.
use Rattle.std.proofs.Common.{◌≡◌, ◌∷◌, refl, rules}
use Rattle.machine_parts.specs.Entry.{entry_in}
use Rattle.state_shapes.specs.From.{held_from}
use Rattle.state_shapes.proofs.Growing.{goes_if, goes_no_further, goes_further, goes_last, one_more, none_left}
use Rattle.state_shapes.proofs.matching.entries_go.Goals as goal

pub loop-shape-init : goal.loop-shape-init
loop-shape-init c = goes_if _ refl (λ e x k h. h)

pub returns-then-not-goes_on : goal.returns-then-not-goes_on
returns-then-not-goes_on c = goes_no_further c.if-not-goes_on.ensures.1 c.loop-shape.invariant c.entry_goes-so_far.ensures

pub loop-shape-preserved : goal.loop-shape-preserved
loop-shape-preserved c =
    let opened : c.loop-shape.others.now ≡ c.in-Some.entry.now ∷ c.in-Some.rest.now = search rules in
    goes_further _ (c.goes_on.ensures.0 c.if-not-goes_on.false) c.loop-shape.invariant c.entry_goes-so_far.ensures
    (λ x f g k. f (one_more entry_in (held_from x) c.args.shapes.now c.loop-shape.others.now c.in-Some.rest.now c.loop-shape.shape-index c.shape-item.result c.in-Some.entry.now opened c.loop-shape-test.true c.shape-item.is g k))

pub returns : goal.returns
returns c = goes_last _ c.loop-shape.invariant (λ e x f. f (none_left entry_in (held_from x) c.args.shapes.now c.loop-shape.others.now c.loop-shape.shape-index c.is_empty.ensures c.loop-shape-test.false e))
