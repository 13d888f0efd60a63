use Rattle.std.proofs.Common.{◌≡◌, ℕ, ◌+◌, ◌*◌, ◌/◌, ◌%◌, ◌<◌, ap, sym, ◌∙◌, Some, arith}
use Rattle.std.specs.Prelude.{slice_get}
use Rattle.delta_load.specs.Load.{value_of, item_events, load}
use Rattle.delta_load.proofs.Places.{at_item, at_end, past_end}
use Rattle.delta_load.proofs.generator.gen_event.Goals as goal

pub returns-then-key-items-clause-event : goal.returns-then-key-items-clause-event
returns-then-key-items-clause-event c =
    let start = c.args.start in
    let items = c.args.items in
    let i = c.args.i in
    let key : ℕ = i / 5 in
    let place : ℕ = i % 5 in
    let split : 5 * key + place ≡ i = omega arith in
    let five : place < 5 = omega arith in
    let within : key < items = omega (arith, c.if-key-items.true) in
    let zero_on : key ≡ 0 + key = omega arith in
    c.item_event.ensures ∙ ap (λ (v : ℕ). slice_get (item_events key v) place) c.value.ensures.value
    ∙ ap (λ (k : ℕ). slice_get (item_events k (value_of start k)) place) zero_on
    ∙ sym (at_item start 0 items key place within five) ∙ ap (slice_get (load start items)) split

pub returns-then-i-items-clause-event : goal.returns-then-i-items-clause-event
returns-then-i-items-clause-event c =
    let last : 5 * c.args.items ≡ c.args.i = omega (arith, c.if-i-items.true) in
    ap Some c.plain.ensures ∙ sym (at_end c.args.start 0 c.args.items) ∙ ap (slice_get (load c.args.start c.args.items)) last

pub returns-else-i-items-clause-event : goal.returns-else-i-items-clause-event
returns-else-i-items-clause-event c =
    let past : 5 * c.args.items < c.args.i = omega (arith, c.if-key-items.false, c.if-i-items.false) in
    sym (past_end c.args.start 0 c.args.items c.args.i past)
