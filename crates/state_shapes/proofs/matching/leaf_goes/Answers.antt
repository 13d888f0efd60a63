-- What cases and waits hold, and their code.
use Rattle.std.proofs.Common.{refl}
use Rattle.state_shapes.proofs.Growing.{goes_two, goes_three}
use Rattle.state_shapes.proofs.SameForms.{sum_same, star_same, wait_same}
use Rattle.state_shapes.proofs.matching.leaf_goes.Goals as goal

pub returns-in-CaseSum-CaseSum : goal.returns-in-CaseSum-CaseSum
returns-in-CaseSum-CaseSum c =
    rw (c.in-CaseSum-CaseSum.is-0, c.in-CaseSum-CaseSum.is-1)
    (goes_three _ refl (rw (c.deref.ensures.value, c.deref-in-CaseSum-CaseSum.ensures.value) at c.held_goes.ensures) c.later_goes-first.ensures c.later_goes.ensures
    (λ e x f g h. sum_same (c.same_case.ensures e) f g h))

pub returns-in-CaseStar-CaseStar : goal.returns-in-CaseStar-CaseStar
returns-in-CaseStar-CaseStar c =
    rw (c.in-CaseStar-CaseStar.is-0, c.in-CaseStar-CaseStar.is-1)
    (goes_three _ refl (rw (c.deref-in-CaseStar-CaseStar.ensures.value, c.deref-in-CaseStar-CaseStar-2.ensures.value) at c.held_goes-in-CaseStar-CaseStar.ensures)
    c.later_goes-first-in-CaseStar-CaseStar.ensures c.later_goes-in-CaseStar-CaseStar.ensures
    (λ e x f g h. star_same (c.same_case-in-CaseStar-CaseStar.ensures e) f g h))

pub returns-in-Wait-Wait : goal.returns-in-Wait-Wait
returns-in-Wait-Wait c =
    rw (c.in-Wait-Wait.is-0, c.in-Wait-Wait.is-1)
    (goes_two _ refl (rw (c.deref-in-Wait-Wait.ensures.value, c.deref-in-Wait-Wait-2.ensures.value) at c.held_goes-in-Wait-Wait.ensures) c.later_goes-in-Wait-Wait.ensures
    (λ e x f g. wait_same (c.same_typed.ensures e) f g))
