-- A step that was learned at a station of a book is known in the book once it has grown.
use Rattle.std.proofs.Common.{◌≡◌, ◌∙◌, ℕ, true, nat_lt, Some, List, length, map, slice_index_or, option_map, sym, ap, subst}
use Rattle.std.specs.Prelude.{ℤ, slice_get}
use Rattle.std.proofs.lemmas.Bool.{ltb-true}
use Rattle.std.proofs.lemmas.Option.{slice_get-map, slice_get-get_or}
use Rattle.stream_type.specs.StreamType.{type_of}
use Rattle.event_word.specs.StreamEvent.{StreamEvent}
use Rattle.machine_parts.specs.AwaitedTree.{awaited_in}
use Rattle.core_term.specs.CoreTerm.{CoreProgram}
use Rattle.template_state.specs.Readers.{state_in}
use Rattle.template_state.specs.Templates.{bodies_in}
use Rattle.template_state.specs.declared.code.Code.{Code}
use Rattle.delta_code.specs.CodedView.{program_of}
use Rattle.delta_code.specs.declared.machine.Coded.{Coded}
use Rattle.learned_table.specs.StepTree.{step_of}
use Rattle.learned_table.specs.declared.step.LearnedStep.{LearnedStep}
use Rattle.stations.specs.StationTree.{StationTree, station_in}
use Rattle.stations.specs.Stands.{Stands}
use Rattle.stations.specs.declared.station.Run.{Run}
use Rattle.stations.specs.declared.station.Standing.{Standing}
use Rattle.stations.specs.declared.station.Station.{Station}
use Rattle.stations.specs.declared.station.Values.{Values}
use Rattle.step_learning.specs.IsLearned.{IsLearned}
use Rattle.step_learning.specs.Learns.{Learns, LearnsStep}
use Rattle.step_learning.specs.declared.learning.Learning.{Learning}
use Rattle.learned_runner.specs.Book.{At, stations_of}
use Rattle.learned_runner.specs.Noting.{Grown, StandsThere}
use Rattle.learned_runner.specs.declared.book.Book.{Book}
use Rattle.learned_runner.proofs.Books.{stays_there}

-- a station of a list is one of the stations that are seen in it
pub seen_there : (ss lent : List Station) (n : ℕ) (s : Station) → lent ≡ ss → true ≡ nat_lt n (length lent) → s ≡ slice_index_or lent n s → slice_get (map station_in ss) n ≡ Some (station_in s)
seen_there ss lent n s same l h =
    subst (λ (xs : List Station). slice_get (map station_in xs) n ≡ Some (station_in s)) same
    (slice_get-map station_in lent n ∙ ap (option_map station_in) (slice_get-get_or lent n s (ltb-true n (length lent) (sym l)) ∙ ap Some (sym h)))

-- where the parts that are lent stand the run stands
pub stands_lent : (run : Run) (left : Standing) (n : ℕ) (values : Values) (stations : List StationTree) → run.state.now ≡ left.state.value → run.awaited.now ≡ left.awaited.value
    → run.input.now ≡ left.input.value → run.output.now ≡ left.output.value
    → StandsThere stations n values (state_in run.state.now) (awaited_in run.awaited.now) (type_of run.input.now) (type_of run.output.now)
    → At stations n (λ s. Stands s left values)
stands_lent run left n values stations state awaited input output at = record {
  station = at.station;
  is_there = at.is_there;
  holds_there = record {
    registers = at.holds_there.registers;
    is_state = ap state_in (sym state) ∙ at.holds_there.is_state;
    is_awaited = ap awaited_in (sym awaited) ∙ at.holds_there.is_awaited;
    is_input = ap type_of (sym input) ∙ at.holds_there.is_input;
    is_output = ap type_of (sym output) ∙ at.holds_there.is_output;
  };
}

module _ (m : Coded) (old new : Book) (from to : ℕ) (station : Station) (code : Code) (numbers : List ℤ) (x : StreamEvent) (learning : Learning) (values : Values) (step : LearnedStep) where
  -- the step that was finished is known between its stations
  pub known_then : code ≡ m.code.value → slice_get (stations_of old) from ≡ Some (station_in station) → Grown old new
      → LearnsStep code m.budget (station_in station) numbers x learning → At (stations_of new) to (λ s. Stands s learning.left values)
      → ((c : CoreProgram) (budget : ℕ) (a b : StationTree) → Learns c budget a (step_of learning.step) learning.left → Stands b learning.left values → IsLearned c budget a b (step_of step))
      → At (stations_of new) from (λ a. At (stations_of new) to (λ b. IsLearned (program_of m) m.budget a b (step_of step)))
  known_then same there grown learns at finished = record {
    station = station_in station;
    is_there = subst (λ (ss : List StationTree). slice_get ss from ≡ Some (station_in station)) (sym grown.stations)
        (stays_there (stations_of old) grown.more from (station_in station) there);
    holds_there = record {
      station = at.station;
      is_there = at.is_there;
      holds_there = finished (program_of m) m.budget (station_in station) at.station (learns.learns (program_of m) (ap bodies_in (sym same))) at.holds_there;
    };
  }
