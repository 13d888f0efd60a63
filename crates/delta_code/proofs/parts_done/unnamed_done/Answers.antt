-- What an argument and the others give, of which the others alone have states.
use Rattle.std.proofs.Common.{refl, arith}
use Rattle.core_term.specs.Run.{run_before}
use Rattle.delta_code.specs.Begun.{rests_of}
use Rattle.delta_code.proofs.Easing.{same_arguments}
use Rattle.delta_code.proofs.Giving.{as_many, before_those, rest_stops}
use Rattle.delta_code.proofs.parts_done.unnamed_done.Goals as goal

pub returns-in-Ok : goal.returns-in-Ok
returns-in-Ok c x y s u n m l h e k =
    let same = as_many h in
    before_those (run_before c.args.is_name) (rests_of c.in-Ok.b) _ _ _ _ _ x y s u u n m l c.in-Ok.is c.run_before.ensures.runs c.run_before.ensures.rests (λ one others args is. same_arguments others refl is)
    (λ p q f d. (omega (arith, same, e, q), omega (arith, f, d))) c.all_made.ensures h k

pub returns-in-Err : goal.returns-in-Err
returns-in-Err c x y s u n m l h e k =
    let same = as_many h in
    rest_stops _ _ y (run_before c.args.is_name x y) u u m n l l c.in-Err.is (λ f. omega (arith, same, e, f)) (λ f. omega (arith, f)) k
