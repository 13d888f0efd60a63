-- The number of a key is there, or is put behind.
use Rattle.std.proofs.Common.{◌≡◌, Ok, Some, None, true, sym, rules, ◌∙◌, int_eq}
use Rattle.state_shapes.specs.Beside.{beside}
use Rattle.state_shapes.specs.RegisterLists.{lists_in}
use Rattle.state_shapes.proofs.Growing.{stops, goes_if, says_no, longer_still}
use Rattle.state_shapes.proofs.FoundBeside.{number_stays, number_put}
use Rattle.filled_states.specs.Registers.{number_at}
use Rattle.state_shapes.proofs.found.number_goes.Goals as goal

pub returns-then-not-goes_on : goal.returns-then-not-goes_on
returns-then-not-goes_on c = stops c.if-not-goes_on.ensures.1

pub returns-then-other-number : goal.returns-then-other-number
returns-then-other-number c =
    let same : c.in-Some.other ≡ c.args.number = search rules in
    let is_there : beside int_eq (lists_in c.args.found.now).keys (lists_in c.args.found.now).numbers c.args.key ≡ Some c.in-Some.other = search rules in
    let b : c.args.before ≡ Ok true = search rules in
    goes_if (λ l. c.args.number ≡ number_at l.keys l.numbers c.args.key) b (λ e x k. sym same ∙ number_stays (lists_in c.args.found.now) c.args.key c.in-Some.other is_there x k)

pub returns-else-other-number : goal.returns-else-other-number
returns-else-other-number c = says_no (longer_still (lists_in c.args.found.now))

pub returns-in-None : goal.returns-in-None
returns-in-None c =
    let isnt_there : beside int_eq (lists_in c.args.found.now).keys (lists_in c.args.found.now).numbers c.args.key ≡ None = search rules in
    let b : c.args.before ≡ Ok true = search rules in
    search (rules, number_put c.args.before c.add.result (lists_in c.args.found.now) c.args.key c.args.number c.add.new.keys.items c.add.new.values.items b isnt_there)
