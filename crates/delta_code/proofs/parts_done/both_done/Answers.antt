-- What both parts give, and where the second stops.
use Rattle.std.proofs.Common.{arith}
use Rattle.core_term.specs.Run.{par_run}
use Rattle.delta_state.specs.StateTree.{par_state}
use Rattle.delta_code.proofs.Easing.{eased_par}
use Rattle.delta_code.proofs.Giving.{as_many, two_parts, part_stops}
use Rattle.delta_code.proofs.parts_done.both_done.Goals as goal

pub returns-in-Ok : goal.returns-in-Ok
returns-in-Ok c x y s t n m l h e k =
    let same = as_many h in
    two_parts par_run par_state _ _ _ _ _ x y s t n m l l l c.in-Ok.is c.both.ensures.run c.both.ensures.rest eased_par (λ a b d f. (omega (arith, same, e, b), omega (arith, d, f))) c.made.ensures h k

pub returns-in-Err : goal.returns-in-Err
returns-in-Err c x y s t n m l h e k =
    let same = as_many h in
    part_stops _ _ y (par_run x y) t (par_state s t) m n l l c.in-Err.is (λ f. omega (arith, same, e, f)) (λ f. omega (arith, f)) k
