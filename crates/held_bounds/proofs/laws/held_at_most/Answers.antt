use Rattle.std.proofs.Common.{sym, subst}
use Rattle.std.specs.Prelude.{Some}
use Rattle.core_term.specs.CoreTerm.{CoreProgram, core_of}
use Rattle.state_bounds.specs.Bounds.{◌⊑◌}
use Rattle.state_bounds.specs.ProgramBound.{AreEnough, main_bound}
use Rattle.state_bounds.proofs.BoundOrder.{at_most_same}
use Rattle.state_bounds.proofs.ProgramNumbers.{numbers_are_enough}
use Rattle.delta_bound.specs.Laws.{numbers_of_program}
use Rattle.machine_bounds.proofs.BelowBounds.{stays_holding}
use Rattle.held_bounds.proofs.laws.held_at_most.Goals as goal

pub returns : goal.returns
returns g c m word core n h same bound =
    let numbers = numbers_of_program (core_of core) in
    let enough = subst (λ (p : CoreProgram). AreEnough p numbers) (sym same) (numbers_are_enough (core_of core) bound.settled) in
    let most = subst (λ b. b ⊑ Some n) (sym bound.is_bound) (at_most_same (Some n)) in
    stays_holding _ word numbers n (g.met.M.Bounded.stays_below m word h) enough (subst (λ (p : CoreProgram). main_bound p numbers ⊑ Some n) (sym same) most) bound.is_small
