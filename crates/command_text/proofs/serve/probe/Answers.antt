-- One read more: the end of the input, a byte too many, or a read that failed.
use Rattle.std.proofs.Common.{◌≡◌, ◌<◌, ◌≤◌, length, take, arith, length-take, refl}
use Rattle.command_text.proofs.Serving.{ran_to_end, ran_too_long, ended_in_pull}
use Rattle.command_text.proofs.serve.probe.Goals as goal

pub returns-in-Ok-eq0-clause-ran : goal.returns-in-Ok-eq0-clause-ran
returns-in-Ok-eq0-clause-ran g c start left now =
    let none : c.in-Ok-eq0.field-0 ≡ 0 = omega (arith, c.in-Ok-eq0.field-0-test, c.in-Ok-eq0.field-0-is) in
    let pulls = rw none at c.in-Ok-eq0.ensures.pulled in
    ran_to_end c.args.version start _ _ _ _ _ now _ _ _ _ _ (omega arith) pulls c.finish.ensures.left (c.finish.ensures.ended start _)

pub returns-in-Ok-clause-ran : goal.returns-in-Ok-clause-ran
returns-in-Ok-clause-ran g c start left now =
    let some : 0 < c.in-Ok.field-0 = omega (arith, c.in-Ok.field-0-test, c.in-Ok.field-0-is) in
    let within : c.in-Ok.field-0 ≤ 1 = omega (arith, c.in-Ok.ensures.bound) in
    let long : length (take c.in-Ok.field-0 c.pull.new.into) ≡ c.in-Ok.field-0 = omega (arith, c.in-Ok.ensures.bound, c.pull.auto.into, length-take c.in-Ok.field-0 c.pull.new.into) in
    ran_too_long c.args.version start _ _ _ _ _ now _ _ _ refl (omega arith) (omega arith) c.in-Ok.ensures.pulled

pub returns-in-Err-clause-ran : goal.returns-in-Err-clause-ran
returns-in-Err-clause-ran g c start left now = ended_in_pull c.args.version start _ _ _ _ _ now _ _ _ (omega arith) c.in-Err.ensures.ended
