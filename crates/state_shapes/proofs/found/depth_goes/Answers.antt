-- The depth of a key is there, or is put behind.
use Rattle.std.proofs.Common.{◌≡◌, Ok, Some, None, true, sym, rules, ◌∙◌, nat_eq}
use Rattle.state_shapes.specs.Beside.{beside}
use Rattle.state_shapes.specs.RegisterLists.{lists_in}
use Rattle.state_shapes.proofs.Growing.{stops, goes_if, says_no, longer_still}
use Rattle.state_shapes.proofs.FoundBeside.{depth_stays, depth_put}
use Rattle.filled_states.specs.Registers.{depth_at}
use Rattle.state_shapes.proofs.found.depth_goes.Goals as goal

pub returns-then-not-goes_on : goal.returns-then-not-goes_on
returns-then-not-goes_on c = stops c.if-not-goes_on.ensures.1

pub returns-then-other-depth : goal.returns-then-other-depth
returns-then-other-depth c =
    let same : c.in-Some.other ≡ c.args.depth = search rules in
    let is_there : beside nat_eq (lists_in c.args.found.now).depth_keys (lists_in c.args.found.now).depths c.args.key ≡ Some c.in-Some.other = search rules in
    let b : c.args.before ≡ Ok true = search rules in
    goes_if (λ l. c.args.depth ≡ depth_at l.depth_keys l.depths c.args.key) b (λ e x k. sym same ∙ depth_stays (lists_in c.args.found.now) c.args.key c.in-Some.other is_there x k)

pub returns-else-other-depth : goal.returns-else-other-depth
returns-else-other-depth c = says_no (longer_still (lists_in c.args.found.now))

pub returns-in-None : goal.returns-in-None
returns-in-None c =
    let isnt_there : beside nat_eq (lists_in c.args.found.now).depth_keys (lists_in c.args.found.now).depths c.args.key ≡ None = search rules in
    let b : c.args.before ≡ Ok true = search rules in
    search (rules, depth_put c.args.before c.add.result (lists_in c.args.found.now) c.args.key c.args.depth c.add.new.keys.items c.add.new.values.items b isnt_there)
