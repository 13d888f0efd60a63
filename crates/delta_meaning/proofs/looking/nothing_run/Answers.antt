-- Nothing makes no call.
use Rattle.std.proofs.Common.{◌≡◌, ap, ◌∙◌, arith}
use Rattle.core_term.specs.Run.{Run, quiet}
use Rattle.delta_meaning.proofs.looking.nothing_run.Goals as goal

pub returns-clause-run : goal.returns-clause-run
returns-clause-run c =
    c.quiet.ensures ∙ ap quiet c.in_ok-empty.ensures

pub returns-clause-counted : goal.returns-clause-counted
returns-clause-counted c =
    let none : c.quiet.result.calls ≡ 0 = ap (λ (z : Run). z.calls) c.quiet.ensures in
    λ left. omega arith
