-- The sum, with the place of the node.
use Rattle.std.proofs.Common.{◌≡◌, ◌∙◌, ℕ, List, ap, subst}
use Rattle.bunch.specs.Names.{numbers_of}
use Rattle.core_term.specs.CoreTerm.{term_of}
use Rattle.core_term.specs.FreeNames.{free_names, once}
use Rattle.core_term.specs.Typing.{types_of}
use Rattle.state_bounds.specs.Bounds.{total}
use Rattle.state_bounds.specs.TermBounds.{room_of, wait_room}
use Rattle.state_bounds.specs.ProgramBound.{first_large}
use Rattle.delta_check.specs.Scopes.{context_in}
use Rattle.delta_bound.specs.Measured.{Sums}
use Rattle.delta_bound.specs.Unsized.{wait_unsized}
use Rattle.delta_bound.proofs.Measures.{sum_of}
use Rattle.delta_bound.proofs.rooms.room_of_wait.Goals as goal

pub returns-in-Ok : goal.returns-in-Ok
returns-in-Ok c =
    let context = context_in c.args.scope.now in
    let z = c.args.x.0 in
    let free = free_names (term_of c.args.n.now) in
    let room = room_of (types_of context) context.order z in
    let names : numbers_of c.deref.result.now ≡ once free = ap numbers_of c.deref.ensures.value ∙ c.in-Ok.ensures in
    sum_of c.at_place.result c.args.n.now.at c.wait_total.result (wait_room (types_of context) context.order z free) (wait_unsized context z free) c.at_place.ensures
    (subst (λ (l : List ℕ). Sums c.wait_total.result (total room l) (first_large room l)) names c.wait_total.ensures)
