-- What both parts give, since the first is whole, and where the second stops.
use Rattle.delta_code.proofs.GoingOn.{as_many, turn_goes, turn_halts}
use Rattle.delta_code.proofs.states_done.turn_done.Goals as goal

pub returns-in-Ok : goal.returns-in-Ok
returns-in-Ok c x y s v u w z n m l h whole e k =
    turn_goes _ _ _ _ _ x y s v u w z n m l whole c.in-Ok.is e c.second.ensures.run c.second.ensures.rest c.followed.ensures h k

pub returns-in-Err : goal.returns-in-Err
returns-in-Err c x y s v u w z n m l h whole e k = turn_halts _ _ x y u w z n m l _ whole c.in-Err.is (as_many h) e k
