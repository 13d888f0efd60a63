-- What stands between two rounds.
use Rattle.stream_type.specs.StreamType.{type_of}
use Rattle.delta_tree.specs.Tree.{expression_of}
use Rattle.delta_meaning.specs.Functions.{functions_at, run_at}
use Rattle.delta_meaning.specs.CallRuns.{IsUnderWay}
use Rattle.delta_meaning.proofs.rounds.evaluate_in_rounds.Given as goal

abbrev pub invariant-loop : goal.invariant-loop
invariant-loop l = IsUnderWay (functions_at l.place) l.left (run_at l.place l.scope (expression_of l.e) (type_of l.ty)).calls l.rounds
