-- What both parts give, since the first is whole, and where the second stops.
use Rattle.std.proofs.Common.{Bool, true, sym, subst, Err, arith}
use Rattle.core_term.specs.Run.{cat_run_at}
use Rattle.delta_code.specs.Gives.{Gives}
use Rattle.delta_code.proofs.Giving.{as_many, two_parts, part_stops}
use Rattle.delta_code.proofs.parts_done.turn_done.Goals as goal

pub returns-in-Ok : goal.returns-in-Ok
returns-in-Ok c x y s t n m l h whole e k =
    let same = as_many h in
    subst (λ (w : Bool). Gives c.made.result (cat_run_at w x y) t n l) (sym whole)
    (two_parts (cat_run_at true) (λ u v. v) _ _ _ _ _ x y s t n m l l l c.in-Ok.is c.second.ensures.run c.second.ensures.rest (λ u v. v) (λ a b d f. (omega (arith, same, e, b), omega (arith, d, f))) c.made.ensures h k)

pub returns-in-Err : goal.returns-in-Err
returns-in-Err c x y s t n m l h whole e k =
    let same = as_many h in
    subst (λ (w : Bool). Gives (Err c.in-Err.stop) (cat_run_at w x y) t n l) (sym whole)
    (part_stops _ _ y (cat_run_at true x y) t t m n l l c.in-Err.is (λ f. omega (arith, same, e, f)) (λ f. omega (arith, f)) k)
