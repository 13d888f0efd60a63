-- The claims of the functions' bodies, and then main's.
use Rattle.std.proofs.Common.{◌∙◌, ◌++◌, ap, map, sym}
use Rattle.std.proofs.lemmas.List.{take_all, append-nil}
use Rattle.core_term.specs.CoreTerm.{core_body_of}
use Rattle.delta_derive.specs.Claims.{body_claims}
use Rattle.delta_derive.specs.OpenTerms.{claim_of}
use Rattle.delta_derive.proofs.Fronts.{bodies-next, main-last}
use Rattle.delta_derive.proofs.goals.add_bodies.Goals as goal

pub loop-body-init : goal.loop-body-init
loop-body-init c = sym (append-nil (map claim_of c.args.goals.now.items))

pub loop-body-preserved : goal.loop-body-preserved
loop-body-preserved c =
    bodies-next (map claim_of c.args.goals.now.items) c.args.c.now.funs.items c.loop-body.body-index c.body-item.result (map claim_of c.loop-body.goals.items) (map claim_of c.add_body.new.goals.items) c.in-Ok.field-0
    (rw c.deref-body-items.ensures.value at c.loop-body-test.true) (rw c.deref-body-items.ensures.value at c.body-item.is) c.in-Ok.ensures c.loop-body.invariant

pub returns : goal.returns
returns c =
    let old = map claim_of c.args.goals.now.items in
    main-last c.add_body-2.result old (map claim_of c.loop-body.goals.items) (map claim_of c.add_body-2.new.goals.items) (map core_body_of c.args.c.now.funs.items) (core_body_of c.args.c.now.main)
    (c.loop-body.invariant ∙ ap (λ bs. old ++ body_claims (map core_body_of bs)) (take_all c.loop-body.body-index c.args.c.now.funs.items (rw c.deref-body-items.ensures.value at c.loop-body-test.false)))
    c.add_body-2.ensures
