-- Each value is put behind the others, beside its name.
use Rattle.std.proofs.Common.{refl, ap}
use Rattle.hist_value.specs.Environment.{entries_of}
use Rattle.state_shapes.proofs.Growing.{goes_if, goes_no_further, goes_further, goes_so}
use Rattle.learned_table.proofs.EnvironmentNumbers.{one_name, all_names}
use Rattle.learned_table.proofs.laying.past_goes.Goals as goal

pub loop-name-init : goal.loop-name-init
loop-name-init c = goes_if _ refl (λ e x k. ap entries_of c.requires)

pub returns-then-not-goes_on : goal.returns-then-not-goes_on
returns-then-not-goes_on c = goes_no_further c.if-not-goes_on.ensures.1 c.loop-name.invariant c.name_goes-so_far.ensures

pub loop-name-preserved : goal.loop-name-preserved
loop-name-preserved c =
    goes_further _ (c.goes_on.ensures.0 c.if-not-goes_on.false) c.loop-name.invariant c.name_goes-so_far.ensures
    (λ x f g. one_name _ c.args.past.now c.loop-name.seen.items c.name_goes-so_far.new.seen.items c.loop-name.name-index c.loop-name-item.result c.loop-name-test.true c.loop-name-item.is f g)

pub returns : goal.returns
returns c = goes_so _ c.loop-name.invariant (λ x f. all_names _ c.args.past.now c.loop-name.seen.items c.loop-name.name-index c.loop-name-test.false f)
