-- What the body gives on a name, and where it stops.
use Rattle.std.proofs.lemmas.Result.{IfOk-weaker}
use Rattle.delta_code.proofs.GoingOn.{named_goes, named_halts}
use Rattle.delta_code.proofs.states_done.named_done.Goals as goal

pub returns-in-Ok : goal.returns-in-Ok
returns-in-Ok c x z runs y u w n l calls level shut k =
    named_goes _ _ _ _ x z runs y _ _ u w n l c.in-Ok.is calls level shut (IfOk-weaker c.named_behind.result _ _ (λ r p. p runs calls level shut) c.named_behind.ensures.run) c.named_behind.ensures.ty c.made.ensures k

pub returns-in-Err : goal.returns-in-Err
returns-in-Err c x z runs y u w n l calls level shut k = named_halts _ _ runs y _ _ u w n l c.in-Err.is shut k
