-- The sum, with the place of the node.
use Rattle.std.proofs.Common.{◌≡◌, ◌∙◌, ℕ, List, ap, subst}
use Rattle.bunch.specs.Names.{numbers_of}
use Rattle.core_term.specs.CoreTerm.{term_of}
use Rattle.core_term.specs.FreeNames.{free_names, without, once}
use Rattle.core_term.specs.Typing.{types_of}
use Rattle.state_bounds.specs.Bounds.{total}
use Rattle.state_bounds.specs.TermBounds.{room_of, case_room}
use Rattle.state_bounds.specs.ProgramBound.{first_large}
use Rattle.delta_check.specs.Scopes.{context_in}
use Rattle.delta_bound.specs.Measured.{Sums}
use Rattle.delta_bound.specs.Unsized.{case_unsized}
use Rattle.delta_bound.proofs.Measures.{sum_of}
use Rattle.delta_bound.proofs.rooms.room_of_case.Goals as goal

pub returns-in-Ok : goal.returns-in-Ok
returns-in-Ok c =
    let context = context_in c.args.scope.now in
    let z = c.args.z.0 in
    let free = free_names (term_of c.args.n.now) in
    let room = room_of (types_of context) context.order z in
    let names : numbers_of c.deref.result.now ≡ once free = ap numbers_of c.deref.ensures.value ∙ c.in-Ok.ensures in
    sum_of c.at_place.result c.args.n.now.at c.case_total.result (case_room (types_of context) context.order z free) (case_unsized context z free) c.at_place.ensures
    (subst (λ (l : List ℕ). Sums c.case_total.result (total room (without z l)) (first_large room (without z l))) names c.case_total.ensures)
