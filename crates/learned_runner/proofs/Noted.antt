-- What is noted keeps what a runner stands for.
use Rattle.std.proofs.Common.{◌≡◌, ℕ, Option, Some, None, List, sym, ap, subst, refl}
use Rattle.std.specs.List.{All}
use Rattle.event_word.specs.StreamEvent.{StreamEvent}
use Rattle.stream_type.specs.StreamType.{type_of}
use Rattle.machine_parts.specs.AwaitedTree.{awaited_in}
use Rattle.template_state.specs.Readers.{state_in}
use Rattle.core_term.specs.CoreTerm.{CoreProgram}
use Rattle.delta_loop.specs.Meaning.{Meaning}
use Rattle.delta_code.specs.CodedView.{program_of, CodedStands}
use Rattle.stations.specs.StationTree.{StationTree}
use Rattle.learned_runner.specs.Book.{IsKnown, IsTrue, KnownTree, stations_of, steps_of}
use Rattle.learned_runner.specs.Noting.{Grown, StandsThere}
use Rattle.learned_runner.specs.Standing.{Runs, StandsNow, StandsFor}
use Rattle.learned_runner.specs.declared.book.Book.{Book}
use Rattle.learned_runner.specs.declared.runner.Learner.{Learner}
use Rattle.learned_runner.proofs.Books.{known_grown}
use Rattle.learned_runner.proofs.Moved.{runs_moved, keeps_moved}
use Rattle.delta_code.specs.declared.machine.Coded.{Coded}
use Rattle.filled_states.specs.Shape.{filled}

-- a true book with more stations is true
pub true_grown : (c : CoreProgram) (budget : ℕ) (old new : Book) → Grown old new → IsTrue c budget old → IsTrue c budget new
true_grown c budget old new g t =
    subst (λ (ks : List KnownTree). All (IsKnown c budget (stations_of new)) ks) (sym g.steps)
    (subst (λ (ss : List StationTree). All (IsKnown c budget ss) (steps_of old)) (sym g.stations)
    (λ k d l. known_grown c budget (stations_of old) g.more _ (t k d l)))

module _ (old new : Learner) (machine : new.machine ≡ old.machine) (version : new.version ≡ old.version) (lost : new.lost ≡ old.lost) (free : old.at ≡ None) (P : Meaning)
    (word : List StreamEvent) where
  -- what the runner runs, where its book grew
  runs_more : (IsTrue (program_of old.machine) old.machine.budget old.book → IsTrue (program_of old.machine) old.machine.budget new.book) → StandsFor old P word
      → Runs (program_of new.machine) new.machine.budget new.version new.book new.lost P
  runs_more more s =
      runs_moved (program_of old.machine) (program_of new.machine) old.machine.budget new.machine.budget old.version new.version new.book new.book old.lost new.lost P
      (ap (λ (m : Coded). program_of m) machine) (ap (λ (m : Coded). m.budget) machine) version refl lost
      (record { can_run = s.runs.can_run; means = s.runs.means; short = s.runs.short; is_true = more s.runs.is_true; kept = s.runs.kept })

  alone : StandsFor old P word → CodedStands new.machine word
  alone s = subst (λ (m : Coded). CodedStands m word) (sym machine) (subst (λ (o : Option ℕ). StandsNow o old.machine old.book old.values word) free s.stands)

  -- one whose book grew, and that stands by itself as before
  pub stands_alone : new.at ≡ None → (IsTrue (program_of old.machine) old.machine.budget old.book → IsTrue (program_of old.machine) old.machine.budget new.book)
      → StandsFor old P word → StandsFor new P word
  stands_alone none more s = record {
    runs = runs_more more s;
    stands = subst (λ (o : Option ℕ). StandsNow o new.machine new.book new.values word) (sym none) (alone s);
  }

  -- and one that stands at a station now
  pub stands_there : (n : ℕ) → new.at ≡ Some n → (IsTrue (program_of old.machine) old.machine.budget old.book → IsTrue (program_of old.machine) old.machine.budget new.book)
      → StandsThere (stations_of new.book) n new.values (state_in new.machine.state.value) (awaited_in new.machine.awaited.value) (type_of new.machine.input.value) (type_of new.machine.output.value)
      → StandsFor old P word → StandsFor new P word
  stands_there n at more there s = record {
    runs = runs_more more s;
    stands = subst (λ (o : Option ℕ). StandsNow o new.machine new.book new.values word) (sym at)
        (record {
          station = there.station;
          is_there = there.is_there;
          holds_there = record {
            registers = there.holds_there.registers;
            keeps = keeps_moved (program_of new.machine) (program_of new.machine) new.machine.budget new.machine.budget
                (state_in new.machine.state.value) (filled there.station.shape new.values.numbers.items new.values.depths.items) (awaited_in new.machine.awaited.value) there.station.awaited
                (type_of new.machine.input.value) there.station.input (type_of new.machine.output.value) there.station.output new.machine.events new.machine.events new.machine.spent new.machine.spent word
                refl refl (sym there.holds_there.is_state) (sym there.holds_there.is_awaited) (sym there.holds_there.is_input) (sym there.holds_there.is_output) refl refl (alone s);
          };
        });
  }
