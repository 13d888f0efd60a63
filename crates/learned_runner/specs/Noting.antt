-- What is noted in a book.
use Rattle.std.specs.Prelude.{ℕ, ◌≡◌, List, ◌++◌}
use Rattle.stream_type.specs.StreamType.{StreamType}
use Rattle.delta_state.specs.StateTree.{StateTree}
use Rattle.machine_parts.specs.AwaitedTree.{AwaitedTree}
use Rattle.stations.specs.StationTree.{StationTree, StandsAt}
use Rattle.stations.specs.declared.station.Values.{Values}
use Rattle.learned_runner.specs.Book.{At, stations_of, steps_of}
use Rattle.learned_runner.specs.declared.book.Book.{Book}

-- stations were put behind those that were there, and no steps
pub record Grown (old new : Book) : Type 0 where
  pub more : List StationTree
  pub stations : stations_of new ≡ stations_of old ++ more
  pub steps : steps_of new ≡ steps_of old

-- a run with this state, awaiting so much, with this left of the types, stands at the station with this number
abbrev pub StandsThere : List StationTree → ℕ → Values → StateTree → AwaitedTree → StreamType → StreamType → Type 0
StandsThere stations n values state awaited input output =
    At stations n (λ s. StandsAt s values.numbers.items values.depths.items state awaited input output)
