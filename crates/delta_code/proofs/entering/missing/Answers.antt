-- Where no function is, a call is that of an empty body.
use Rattle.std.proofs.Common.{sym, ap, ◌∙◌}
use Rattle.core_term.specs.Run.{Run, one_call}
use Rattle.template_state.specs.Templates.{bodies_in}
use Rattle.delta_code.specs.Steps.{funs_of}
use Rattle.machine_parts.proofs.Entering.{missing_runs, missing_rests, missing_is}
use Rattle.delta_code.proofs.entering.missing.Goals as goal

pub returns-clause-run : goal.returns-clause-run
returns-clause-run c =
    λ k vs ps h. c.one_call.ensures.run ∙ (ap one_call c.in_ok-at_once.ensures.run ∙ sym (missing_runs (funs_of c.args.code.now) c.args.f k vs ps (missing_is (bodies_in c.args.code.now) c.args.f c.requires) h))

pub returns-clause-rest : goal.returns-clause-rest
returns-clause-rest c =
    λ k vs ps h. c.one_call.ensures.rest ∙ (c.in_ok-at_once.ensures.rest ∙ sym (missing_rests (funs_of c.args.code.now) c.args.f k vs ps (missing_is (bodies_in c.args.code.now) c.args.f c.requires) h))

pub returns-clause-counted : goal.returns-clause-counted
returns-clause-counted c = ap (λ (r : Run). r.calls) (c.one_call.ensures.run ∙ ap one_call c.in_ok-at_once.ensures.run)

pub returns-clause-flat : goal.returns-clause-flat
returns-clause-flat c = ap (λ (r : Run). r.level) (c.one_call.ensures.run ∙ ap one_call c.in_ok-at_once.ensures.run)
