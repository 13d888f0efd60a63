-- Where a program has a bound, its states never hold more events.
use Rattle.std.proofs.Common.{◌≤◌, ℕ, [], subst, arith}
use Rattle.std.specs.Prelude.{Some}
use Rattle.core_term.specs.CoreTerm.{core_of}
use Rattle.core_term.specs.Meaning.{horizon}
use Rattle.delta_state.specs.MachineView.{input_of}
use Rattle.delta_state.specs.Rest.{first_state}
use Rattle.state_bounds.specs.Bounds.{◌⊑◌}
use Rattle.state_bounds.specs.Laws.{bound_after}
use Rattle.state_bounds.proofs.BoundOrder.{at_most_next}
use Rattle.state_bounds.proofs.ProgramBounds.{first_holds, event_holds, machine_holds}
use Rattle.state_bounds.proofs.ProgramNumbers.{numbers_are_enough}
use Rattle.delta_bound.specs.Laws.{AnswersHold, numbers_of_program}

below_horizon : (n : ℕ) → n ≤ 1000000 → n ≤ horizon
unfolding horizon
below_horizon n h = omega (arith, h)

pub answers_hold : AnswersHold
answers_hold c n runnable h =
    let p = core_of c in
    let numbers = numbers_of_program p in
    let enough = numbers_are_enough p h.settled in
    record {
      begins = λ few. subst (λ b. bound_after p numbers (input_of p []) (first_state p) ⊑ b) h.is_bound (first_holds p numbers runnable enough (below_horizon _ few));
      goes_on = λ w x s word admits room stands few within. at_most_next _ (bound_after p numbers (input_of p w) s) (Some n) (event_holds p numbers w x s runnable enough word admits room stands few) within;
      holds = λ m w same within. machine_holds m w numbers n within h.is_small;
    }
