-- What came is behind the machine now, and its program is the same.
use Rattle.std.proofs.Common.{ap, refl, ◌∙◌}
use Rattle.stream_type.specs.StreamType.{type_of}
use Rattle.stream_prefix.specs.StreamPrefix.{der}
use Rattle.stream_prefix.specs.Tree.{prefix_of}
use Rattle.machine_parts.specs.AwaitedTree.{awaited_in, awaited_after}
use Rattle.delta_code.proofs.machine.advance.Goals as goal

pub returns-clause-program : goal.returns-clause-program
returns-clause-program c = refl

pub returns-clause-budget : goal.returns-clause-budget
returns-clause-budget c = refl

pub returns-clause-state : goal.returns-clause-state
returns-clause-state c = refl

pub returns-clause-awaited : goal.returns-clause-awaited
returns-clause-awaited c = c.in_ok-go_on.ensures ∙ ap (λ a. awaited_after (awaited_in a) (prefix_of c.args.next.now)) c.deref_mut-2.ensures.value

pub returns-clause-input : goal.returns-clause-input
returns-clause-input c = c.in_ok-go_behind.ensures ∙ ap (λ t. der (prefix_of c.args.next.now) (type_of t)) c.deref_mut.ensures.value

pub returns-clause-output : goal.returns-clause-output
returns-clause-output c = refl

pub returns-clause-events : goal.returns-clause-events
returns-clause-events c = refl

pub returns-clause-spent : goal.returns-clause-spent
returns-clause-spent c = refl

pub returns-clause-answer : goal.returns-clause-answer
returns-clause-answer c = ap prefix_of c.into_inner.ensures
