-- A call for which none is left makes more: itself.
use Rattle.std.proofs.Common.{map, arith}
use Rattle.stream_prefix.specs.Tree.{prefix_of}
use Rattle.hist_value.specs.HistValue.{hist_value_of}
use Rattle.delta_meaning.proofs.Evaluations.{call_counts}
use Rattle.delta_meaning.proofs.rounds.put_off.Goals as goal

pub returns-then-call-eq0-clause-spent : goal.returns-then-call-eq0-clause-spent
returns-then-call-eq0-clause-spent c =
    let call = c.args.call in
    λ functions left calls among is. among (omega (arith, call_counts functions call.depth call.function.0 (map hist_value_of call.values.items) (map prefix_of call.streams.items)))
