-- What the arguments and the body give, and where the body stops.
use Rattle.delta_code.proofs.GoingOn.{frame_goes, frame_halts}
use Rattle.delta_code.proofs.states_done.frame_done.Goals as goal

pub returns-in-Ok : goal.returns-in-Ok
returns-in-Ok c x y s u w lent n m l j h e g k = frame_goes _ _ _ _ _ x y s _ _ u w lent _ n m l j c.in-Ok.is e g c.framed_behind.ensures.run c.framed_behind.ensures.args c.made.ensures h k

pub returns-in-Err : goal.returns-in-Err
returns-in-Err c x y s u w lent n m l j h e g k = frame_halts _ _ _ x y s _ _ _ u w lent _ n m l j c.in-Err.is e g h k
