-- A machine answers for the course of its program.
use Rattle.std.proofs.Common.{◌∙◌}
use Rattle.std.proofs.lemmas.Result.{on_ok_weaker}
use Rattle.delta_session.proofs.RunningPrograms.{all_on_ok, awaits_it, may_take, stands_next}
use Rattle.delta_session.proofs.programs.AnyAnswers.answer.Goals as goal

pub step-requires : goal.step-requires
step-requires g c = may_take g.M.Machine.seen g.M.Machine.stands g.met.M.Machine.stands_after c.args.self.now _ c.requires

pub returns-clause-stands : goal.returns-clause-stands
returns-clause-stands g c =
    let m = c.args.self.now in
    all_on_ok c.step.result c.step.ensures.program c.step.ensures.budget c.step.ensures.stands
    (λ program budget stands course word is. stands_next g.M.Machine.seen g.M.Machine.stands m c.args.x.now course word is g.met.M.Machine.stands_after c.step.new.self program budget
    (stands word (awaits_it g.M.Machine.seen g.M.Machine.stands g.met.M.Machine.stands_after m c.args.x.now course word is)))

pub returns-clause-same : goal.returns-clause-same
returns-clause-same g c = on_ok_weaker c.step.result (λ program d of. program ∙ of) c.step.ensures.program
