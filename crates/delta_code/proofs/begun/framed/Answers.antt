-- A body on its arguments: the run of both, and a frame.
use Rattle.std.proofs.Common.{◌≡◌, ◌∙◌, ◌+◌, max, false, ap}
use Rattle.stream_prefix.specs.Tree.{prefix_of}
use Rattle.core_term.specs.Run.{deeper}
use Rattle.template_state.specs.Readers.{state_in}
use Rattle.delta_code.proofs.begun.framed.Goals as goal

pub returns-clause-run : goal.returns-clause-run
returns-clause-run c =
    let a = c.args.arguments in
    let b = c.args.b in
    let level : c.max-level.result ≡ max (deeper false a.level) (deeper a.are_shut b.level) = c.max-level.ensures ∙ (λ j. max (c.in_ok-deeper.ensures j) (c.in_ok-deeper-2.ensures j)) in
    λ j. record { out = prefix_of b.output.value; calls = a.calls + b.calls; level = level j }

pub returns-clause-rest : goal.returns-clause-rest
returns-clause-rest c = ap state_in c.in_ok-state.ensures.ok
