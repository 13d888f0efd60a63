-- One step is put in front of the event.
use Rattle.std.proofs.Common.{◌∙◌, sym}
use Rattle.event_frame.proofs.Fronts.{behind_step}
use Rattle.event_frame.proofs.front.+with_steps.Goals as goal

pub returns-in-Some-with_steps : goal.returns-in-Some-with_steps
returns-in-Some-with_steps t c =
    behind_step c.args.left c.args.parts.now c.in-Some.part.now c.in-Some.rest.now c.in-Some-step_of.step c.args.event c.in-Some-with_steps.longer c.under.result
    c.if-left-eq0.false c.in-Some.ensures.cases.0 (sym c.step_of.ensures ∙ c.in-Some-step_of.is) (sym c.with_steps-in-Some-step_of.ensures ∙ c.in-Some-with_steps.is)
    c.requires c.under.ensures.full.0 c.under.ensures.path c.under.ensures.leaf
