use Rattle.std.proofs.Common.{ℕ, ◌+◌, ◌∙◌, ap, arith}
use Rattle.event_word.specs.declared.event.Leaf.{Leaf}
use Rattle.delta_load.specs.Counting.{number_in}
use Rattle.delta_load.proofs.Counts.{totals-append, long_by_events, long_by_bytes}
use Rattle.delta_load.proofs.totals.Totals.with.Goals as goal

pub returns-in_err-events-clause-long : goal.returns-in_err-events-clause-long
returns-in_err-events-clause-long c none word is = long_by_events c.args.self word c.args.x.now is (omega (arith, c.in_err-events.ensures))

pub returns-in_err-bytes-clause-long : goal.returns-in_err-bytes-clause-long
returns-in_err-bytes-clause-long c none word is = long_by_bytes c.args.self word c.args.x.now is (omega (arith, c.in_err-bytes.ensures, c.frame_length.ensures))

pub returns-clause-counted : goal.returns-clause-counted
returns-clause-counted c word is =
    totals-append _ c.args.self word c.args.x.now is c.in_ok-events.ensures.1 (c.in_ok-bytes.ensures.1 ∙ ap (λ (n : ℕ). c.args.self.bytes + n) c.frame_length.ensures)
    (c.number_of.ensures ∙ ap (λ (leaf : Leaf). number_in c.args.self.last leaf) c.leaf.ensures)
