-- A machine that goes on from a kept state answers for the course since.
use Rattle.std.proofs.Common.{◌∙◌}
use Rattle.std.proofs.lemmas.Result.{on_ok_weaker}
use Rattle.delta_session.proofs.RunningPrograms.{all_on_ok}
use Rattle.delta_runner.specs.SinceCourse.{source_of}
use Rattle.delta_runner.proofs.SinceCourses.{awaits_it, may_take, stands_next}
use Rattle.delta_runner.proofs.woken.WokenAnswers.answer.Goals as goal

pub step_since-requires : goal.step_since-requires
step_since-requires g c = may_take g.M.Machine.seen g.M.Keeping.since g.met.M.Keeping.stands_since c.args.self.now _ c.requires

pub returns-clause-stands : goal.returns-clause-stands
returns-clause-stands g c =
    let woken = c.args.self.now in
    all_on_ok c.step_since.result c.step_since.ensures.program c.step_since.ensures.budget c.step_since.ensures.stands
    (λ program budget stands course word is. stands_next g.M.Machine.seen g.M.Keeping.since woken c.args.x.now course word is g.met.M.Keeping.stands_since c.step_since.new.self program budget
    (stands (source_of woken) word (awaits_it g.M.Machine.seen g.M.Keeping.since g.met.M.Keeping.stands_since woken c.args.x.now course word is)))

pub returns-clause-same : goal.returns-clause-same
returns-clause-same g c = on_ok_weaker c.step_since.result (λ program. (λ d of. program ∙ of, λ k is. is)) c.step_since.ensures.program
