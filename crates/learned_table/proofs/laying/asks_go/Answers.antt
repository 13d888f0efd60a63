-- All that was asked goes along, one after another.
use Rattle.std.proofs.Common.{refl}
use Rattle.std.proofs.lemmas.List.Elements.{All-nil}
use Rattle.filled_states.specs.Registers.{number_at}
use Rattle.state_shapes.proofs.Growing.{stops, goes_if, goes_first, goes_so, goes_no_further, goes_further}
use Rattle.learned_table.specs.StepTree.{ask_of}
use Rattle.learned_table.specs.Suits.{GoesAlong}
use Rattle.learned_table.proofs.LaidParts.{all_more, all_whole}
use Rattle.learned_table.proofs.laying.asks_go.Goals as goal

pub returns-then-not-goes_on : goal.returns-then-not-goes_on
returns-then-not-goes_on c = stops c.if-not-goes_on.ensures.1

pub loop-ask-init : goal.loop-ask-init
loop-ask-init c = goes_if _ refl (λ e x k. All-nil (GoesAlong (number_at x.keys x.numbers)))

pub returns-then-not-goes_on-2 : goal.returns-then-not-goes_on-2
returns-then-not-goes_on-2 c =
    goes_first (c.goes_on.ensures.0 c.if-not-goes_on.false) (goes_no_further c.if-not-goes_on-2.ensures.1 c.loop-ask.invariant c.ask_goes-so_far.ensures)

pub loop-ask-preserved : goal.loop-ask-preserved
loop-ask-preserved c =
    goes_further _ (c.goes_on-in-loop-ask.ensures.0 c.if-not-goes_on-2.false) c.loop-ask.invariant c.ask_goes-so_far.ensures
    (λ x f g. all_more (GoesAlong (number_at x.keys x.numbers)) ask_of c.args.asks.now c.loop-ask.ask-index c.ask-item.result c.loop-ask-test.true c.ask-item.is f g)

pub returns : goal.returns
returns c =
    goes_first (c.goes_on.ensures.0 c.if-not-goes_on.false) (goes_so _ c.loop-ask.invariant (λ x f. all_whole (GoesAlong (number_at x.keys x.numbers)) ask_of c.args.asks.now c.loop-ask.ask-index c.loop-ask-test.false f))
