-- The facts of one name more, and of all.
use Rattle.std.proofs.Common.{◌∙◌, ◌||◌, ◌&&◌, get_or, map, ap, refl}
use Rattle.bunch.specs.declared.name.Name.{Name}
use Rattle.bunch.specs.Names.{holds, numbers_of}
use Rattle.delta_check.specs.Scopes.{context_in, facts_given}
use Rattle.delta_state.specs.StateTyping.{facts_held}
use Rattle.delta_keep.specs.KeptView.{held_of}
use Rattle.kept_check.specs.Holding.{stays_before}
use Rattle.kept_check.proofs.HeldFacts.{next_facts, facts_held-is, all_facts}
use Rattle.kept_check.proofs.holding.order_held.Goals as goal

pub loop-name-init : goal.loop-name-init
loop-name-init c = λ u v.
    let held = map held_of c.args.held.now in
    let before = (context_in c.args.scope.now).order in
    let names = numbers_of c.args.names.now in
    ap (λ l. facts_given l u v || (holds u names && (holds v names && stays_before held before u v))) c.new-facts.ensures.items ∙ facts_held-is held before c.args.names.now u v c.requires

pub loop-name-preserved : goal.loop-name-preserved
loop-name-preserved c = λ u v.
    let names = c.args.names.now in
    let i = c.loop-name.name-index in
    let d : Name = record { 0 = 0 } in
    next_facts (map held_of c.args.held.now) (context_in c.args.scope.now).order names i (get_or names i d) d c.loop-name-test.true refl u v
    (facts_given c.loop-name.facts.items u v) (facts_given c.add_facts.new.facts.items u v) (c.in_ok-add_facts.ensures u v)
    ∙ c.loop-name.invariant u v

pub returns : goal.returns
returns c = λ u v.
    let held = map held_of c.args.held.now in
    let before = (context_in c.args.scope.now).order in
    all_facts (facts_given c.loop-name.facts.items u v) (facts_held held before u v) (holds v (numbers_of c.args.names.now) && stays_before held before u v) c.args.names.now c.loop-name.name-index u
    c.loop-name-test.false (c.loop-name.invariant u v)
