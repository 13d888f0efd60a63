-- What a book of learned steps says, and when it is true.
use Rattle.std.specs.Prelude.{ℕ, ◌≡◌, List, map, Some, slice_get}
use Rattle.std.specs.List.{All}
use Rattle.core_term.specs.CoreTerm.{CoreProgram}
use Rattle.learned_table.specs.StepTree.{StepTree, step_of}
use Rattle.stations.specs.StationTree.{StationTree, station_in}
use Rattle.step_learning.specs.IsLearned.{IsLearned}
use Rattle.learned_runner.specs.declared.book.Known.{Known}
use Rattle.learned_runner.specs.declared.book.Book.{Book}

-- a step between two stations, told by their numbers
pub record KnownTree : Type 0 where
  pub from : ℕ
  pub to : ℕ
  pub step : StepTree

abbrev pub known_of : Known → KnownTree
known_of k = record { from = k.from; to = k.to; step = step_of k.step }

-- the stations of a book, and the steps between them
abbrev pub stations_of : Book → List StationTree
stations_of b = map station_in b.stations.items

abbrev pub steps_of : Book → List KnownTree
steps_of b = map known_of b.steps.items

-- there is a station with this number, of which this holds
pub record At (stations : List StationTree) (n : ℕ) (holds : StationTree → Type 0) : Type 0 where
  pub station : StationTree
  pub is_there : slice_get stations n ≡ Some station
  pub holds_there : holds station

-- the step was learned between its stations
abbrev pub IsKnown : CoreProgram → ℕ → List StationTree → KnownTree → Type 0
IsKnown c budget stations k = At stations k.from (λ a. At stations k.to (λ b. IsLearned c budget a b k.step))

-- each step was
abbrev pub IsTrue : CoreProgram → ℕ → Book → Type 0
IsTrue c budget b = All (IsKnown c budget (stations_of b)) (steps_of b)
