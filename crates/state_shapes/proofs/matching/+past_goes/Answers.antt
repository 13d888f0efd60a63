-- One historical name after another.
use Rattle.state_shapes.proofs.Growing.{goes_two}
use Rattle.state_shapes.proofs.SameForms.{known_same}
use Rattle.state_shapes.proofs.matching.+past_goes.Goals as goal

pub returns-in-Known-Known : goal.returns-in-Known-Known
returns-in-Known-Known t c =
    rw (c.in-Known-Known.is-0, c.in-Known-Known.is-1)
    (goes_two _ (c.goes_on.ensures.0 c.if-not-goes_on.false) (rw (c.deref.ensures, c.deref-in-Known-Known.ensures) at c.value_goes-first.ensures)
    (rw (c.deref-in-Known-Known-2.ensures, c.deref-in-Known-Known-3.ensures) at c.past_goes.ensures)
    (λ e x f g. known_same (c.same_typed.ensures e) f g))
