use Rattle.std.proofs.Common.{◌≡◌, ◌<◌, ◌≤◌, [], length, take, refl, arith, length-take, append-nil}
use Rattle.delta_end.specs.declared.end.End.TheVariants.{ReadFailed}
use Rattle.delta_loop.proofs.Logs.{read_more}
use Rattle.delta_loop.proofs.Serving.{ran_to_end, ran_too_long, ended_in_pull}
use Rattle.delta_loop.proofs.serve.probe.Goals as goal

pub returns-in-Ok-eq0-clause-ran : goal.returns-in-Ok-eq0-clause-ran
returns-in-Ok-eq0-clause-ran g c P start left now =
    let none : c.in-Ok-eq0.field-0 ≡ 0 = omega (arith, c.in-Ok-eq0.field-0-test, c.in-Ok-eq0.field-0-is) in
    let moved = rw none at c.in-Ok-eq0.ensures.moved in
    let taken = rw none at c.in-Ok-eq0.ensures.taken in
    ran_to_end g.M.Stepper.stands P start _ _ _ _ _ _ now _ _ _ _ (omega arith) record {
      history = λ due start input output before met. read_more due start _ _ input output [] before met moved;
      reads = λ input word reads. rw append-nil reads;
      taken = taken;
      used_up = λ same. c.in-Ok-eq0.ensures.end none;
    } (c.finish.ensures.end P)

pub returns-in-Ok-clause-ran : goal.returns-in-Ok-clause-ran
returns-in-Ok-clause-ran g c P start left now =
    let some : 0 < c.in-Ok.field-0 = omega (arith, c.in-Ok.field-0-test) in
    let within : c.in-Ok.field-0 ≤ length c.read.new.into = omega (arith, c.in-Ok.ensures.bound, c.read.auto.into) in
    ran_too_long g.M.Stepper.stands P start _ _ _ _ _ _ now _ _ (take c.in-Ok.field-0 c.read.new.into) refl (omega (arith, length-take c.in-Ok.field-0 c.read.new.into)) (omega (arith, length-take c.in-Ok.field-0 c.read.new.into, c.in-Ok.ensures.bound))
    (λ due input output before met. read_more due start _ _ input output _ before met c.in-Ok.ensures.moved) c.in-Ok.ensures.taken

pub returns-in-Err-Failed-clause-ran : goal.returns-in-Err-Failed-clause-ran
returns-in-Err-Failed-clause-ran g c P start left now =
    ended_in_pull g.M.Stepper.stands P start _ _ _ _ _ _ now _ _ ReadFailed (omega arith) (c.in-Err-Failed.ensures.moved, c.in-Err-Failed.ensures.taken)
