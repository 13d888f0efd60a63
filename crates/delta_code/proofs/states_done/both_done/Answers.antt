-- What both parts give, and where the second stops.
use Rattle.std.proofs.Common.{arith}
use Rattle.std.proofs.lemmas.Result.{IfOk-weaker}
use Rattle.core_term.specs.Run.{par_run}
use Rattle.delta_state.specs.StateTree.{par_state}
use Rattle.delta_code.proofs.Easing.{eased_par}
use Rattle.delta_code.proofs.GoingOn.{as_many, two_go, part_halts}
use Rattle.delta_code.proofs.states_done.both_done.Goals as goal

pub returns-in-Ok : goal.returns-in-Ok
returns-in-Ok c x y s v u w n m l h e k =
    let same = as_many h in
    two_go par_run _ _ _ _ _ x y s v u w (par_state s u) (par_state v w) n m l l l c.in-Ok.is c.both.ensures (λ p q. IfOk-weaker c.both.result _ _ (λ r i. eased_par p q) c.both.ensures) (λ a b d f. (omega (arith, same, e, b), omega (arith, d, f))) c.made.ensures h k

pub returns-in-Err : goal.returns-in-Err
returns-in-Err c x y s v u w n m l h e k =
    let same = as_many h in
    part_halts _ _ y (par_run x y) u w (par_state s u) (par_state v w) m n l l c.in-Err.is (λ f. omega (arith, same, e, f)) (λ f. omega (arith, f)) k
