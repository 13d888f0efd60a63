-- One more template is that of its body, and where no body is left all are.
use Rattle.std.proofs.Common.{map, ap}
use Rattle.core_term.specs.CoreTerm.{core_body_of}
use Rattle.template_state.specs.Templates.{body_in}
use Rattle.delta_code.proofs.Copies.{copied_more, copied_all}
use Rattle.delta_code.proofs.compiling.templates.Goals as goal

pub loop-body-init : goal.loop-body-init
loop-body-init c = ap (map body_in) c.new-made.ensures.items

pub loop-body-preserved : goal.loop-body-preserved
loop-body-preserved c =
    copied_more body_in core_body_of c.loop-body.made.items c.push.new.self.items c.args.bodies.now c.loop-body.body-index c.in_ok-template.field-0 c.body-item.result
    c.loop-body.invariant c.in_ok-template.ensures c.in_ok-push.ensures.items c.loop-body-test.true c.body-item.is

pub returns : goal.returns
returns c = copied_all body_in core_body_of c.loop-body.made.items c.args.bodies.now c.loop-body.body-index c.loop-body.invariant c.loop-body-test.false
