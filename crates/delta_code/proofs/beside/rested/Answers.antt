-- Nothing is given.
use Rattle.std.proofs.Common.{◌≡◌, ◌∙◌, IfOk, ap, subst}
use Rattle.std.specs.Prelude.{Result}
use Rattle.std.specs.declared.alloc.Global.{Global}
use Rattle.std.specs.declared.boxed.Box.{Box}
use Rattle.stream_type.specs.declared.memory.Memory.{Memory}
use Rattle.stream_prefix.specs.declared.prefix.Prefix.{Prefix}
use Rattle.stream_prefix.specs.StreamPrefix.{emp}
use Rattle.stream_prefix.specs.Tree.{prefix_of}
use Rattle.core_term.specs.Run.{quiet}
use Rattle.delta_code.proofs.SideBySide.{rests}
use Rattle.delta_code.proofs.beside.rested.Goals as goal

pub returns-in-Ok : goal.returns-in-Ok
returns-in-Ok c r x s v n l e nothing same =
    let given : prefix_of c.in-Ok.output.value ≡ emp r = subst (λ (q : Result (Box Prefix Global) Memory). IfOk q (λ p. prefix_of p.value ≡ emp r)) c.in-Ok.is e in
    rests c.quiet.result r x s v n l (c.quiet.ensures ∙ ap quiet given) nothing same
