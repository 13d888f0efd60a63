-- The facts of one name more, and of all.
use Rattle.std.proofs.Common.{◌∙◌, ◌||◌, ◌&&◌, eqb, get_or, map, refl}
use Rattle.bunch.specs.declared.name.Name.{Name}
use Rattle.bunch.specs.Names.{holds, numbers_of}
use Rattle.delta_check.specs.Scopes.{context_in, facts_given}
use Rattle.delta_keep.specs.KeptView.{held_of}
use Rattle.kept_check.specs.Holding.{stays_before}
use Rattle.kept_check.proofs.HeldFacts.{next_fact, all_named}
use Rattle.kept_check.proofs.holding.add_facts.Goals as goal

pub loop-name-preserved : goal.loop-name-preserved
loop-name-preserved c = λ u v.
    let names = c.args.names.now in
    let i = c.loop-name.name-index in
    let d : Name = record { 0 = 0 } in
    next_fact (map held_of c.args.held.now) (context_in c.args.scope.now).order names i (get_or names i d) d c.loop-name-test.true refl c.args.x.0 u v
    (facts_given c.loop-name.facts.items u v) (facts_given c.add_fact.new.facts.items u v) (c.in_ok-add_fact.ensures u v)
    ∙ c.loop-name.invariant u v

pub returns : goal.returns
returns c = λ u v.
    let stays = stays_before (map held_of c.args.held.now) (context_in c.args.scope.now).order c.args.x.0 v in
    all_named (facts_given c.loop-name.facts.items u v) (facts_given c.args.facts.now.items u v || (eqb u c.args.x.0 && (holds v (numbers_of c.args.names.now) && stays))) (eqb u c.args.x.0) stays
    c.args.names.now c.loop-name.name-index v c.loop-name-test.false (c.loop-name.invariant u v)
