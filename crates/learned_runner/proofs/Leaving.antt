-- A runner that leaves its station stands for what it stood for.
use Rattle.std.proofs.Common.{◌≡◌, ℕ, Option, Some, None, List, sym, subst}
use Rattle.std.specs.Prelude.{slice_get}
use Rattle.event_word.specs.StreamEvent.{StreamEvent}
use Rattle.delta_loop.specs.Meaning.{Meaning, Stands as LoopStands}
use Rattle.delta_code.specs.CodedView.{program_of}
use Rattle.machine_parts.specs.AwaitedTree.{awaited_in}
use Rattle.stream_type.specs.StreamType.{type_of}
use Rattle.template_state.specs.Readers.{state_in}
use Rattle.filled_states.specs.Shape.{filled}
use Rattle.stations.specs.StationTree.{StationTree}
use Rattle.learned_runner.specs.Book.{At, stations_of}
use Rattle.learned_runner.specs.Standing.{KeepsAt, StandsNow, StandsFor, StandsAsBefore}
use Rattle.learned_runner.specs.declared.runner.Learner.{Learner}
use Rattle.learned_runner.proofs.Moved.{runs_moved, keeps_moved}

-- what it has in hand then is what it stood by
pub left_station : (old new : Learner) (n : ℕ) (s : StationTree) → LoopStands StandsFor old → old.at ≡ Some n → slice_get (stations_of old.book) n ≡ Some s
    → program_of new.machine ≡ program_of old.machine → new.machine.budget ≡ old.machine.budget → new.machine.events ≡ old.machine.events → new.machine.spent ≡ old.machine.spent
    → state_in new.machine.state.value ≡ filled s.shape old.values.numbers.items old.values.depths.items → awaited_in new.machine.awaited.value ≡ s.awaited
    → type_of new.machine.input.value ≡ s.input → type_of new.machine.output.value ≡ s.output → new.version ≡ old.version → new.book ≡ old.book → new.at ≡ None → new.lost ≡ old.lost
    → StandsAsBefore old new
left_station old new n s l at is_there program budget events spent state awaited input output version book none lost P word = (forth, back)
  where
    there : (Q : Meaning) (w : List StreamEvent) → StandsFor old Q w → At (stations_of old.book) n (KeepsAt old.machine old.values w)
    there Q w h = subst (λ (o : Option ℕ). StandsNow o old.machine old.book old.values w) at h.stands

    same : (w : List StreamEvent) (a : At (stations_of old.book) n (KeepsAt old.machine old.values w)) → a.station ≡ s
    same w a =
        let one : slice_get (stations_of old.book) n ≡ Some a.station = a.is_there in
        let two : slice_get (stations_of old.book) n ≡ Some s = is_there in
        cc

    kept : (w : List StreamEvent) → At (stations_of old.book) n (KeepsAt old.machine old.values w) → KeepsAt old.machine old.values w s
    kept w a = subst (KeepsAt old.machine old.values w) (same w a) a.holds_there

    forth : StandsFor old P word → StandsFor new P word
    forth h = record {
      runs = runs_moved (program_of old.machine) (program_of new.machine) old.machine.budget new.machine.budget old.version new.version old.book new.book old.lost new.lost P
          program budget version book lost h.runs;
      stands = subst (λ (o : Option ℕ). StandsNow o new.machine new.book new.values word) (sym none)
          (keeps_moved (program_of old.machine) (program_of new.machine) old.machine.budget new.machine.budget
          (filled s.shape old.values.numbers.items old.values.depths.items) (state_in new.machine.state.value) s.awaited (awaited_in new.machine.awaited.value)
          s.input (type_of new.machine.input.value) s.output (type_of new.machine.output.value) old.machine.events new.machine.events old.machine.spent new.machine.spent word
          program budget state awaited input output events spent (kept word (there P word h)).keeps);
    }

    back : StandsFor new P word → StandsFor old P word
    back h = record {
      runs = runs_moved (program_of new.machine) (program_of old.machine) new.machine.budget old.machine.budget new.version old.version new.book old.book new.lost old.lost P
          (sym program) (sym budget) (sym version) (sym book) (sym lost) h.runs;
      stands = subst (λ (o : Option ℕ). StandsNow o old.machine old.book old.values word) (sym at)
          (record {
            station = s;
            is_there = is_there;
            holds_there = record {
              registers = (kept l.word (there l.program l.word l.state)).registers;
              keeps = keeps_moved (program_of new.machine) (program_of old.machine) new.machine.budget old.machine.budget
                  (state_in new.machine.state.value) (filled s.shape old.values.numbers.items old.values.depths.items) (awaited_in new.machine.awaited.value) s.awaited
                  (type_of new.machine.input.value) s.input (type_of new.machine.output.value) s.output new.machine.events old.machine.events new.machine.spent old.machine.spent word
                  (sym program) (sym budget) (sym state) (sym awaited) (sym input) (sym output) (sym events) (sym spent)
                  (subst (λ (o : Option ℕ). StandsNow o new.machine new.book new.values word) none h.stands);
            };
          });
    }
