-- What is held so far is of the names seen so far.
use Rattle.std.proofs.Common.{◌≡◌, take, map}
use Rattle.bunch.specs.Names.{numbers_of}
use Rattle.delta_state.specs.Rest.{taken}
use Rattle.machine_parts.specs.Entry.{entry_in}
use Rattle.machine_parts.specs.Scope.{types_in, streams_in}
use Rattle.machine_parts.proofs.holding.taken.Given as goal

abbrev pub invariant-loop-name : goal.invariant-loop-name
invariant-loop-name l = map entry_in l.held.items ≡ taken (numbers_of (take l.name-index l.names)) (types_in l.scope) (streams_in l.scope)
