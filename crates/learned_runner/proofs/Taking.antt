-- A runner from before an event to after it, by a step that is known or by its machine.
use Rattle.std.proofs.Common.{◌≡◌, ◌∙◌, ◌<◌, ◌^◌, ℕ, ℤ, suc, Option, Some, List, [], ◌∷◌, ◌++◌, map, sym, ap, subst, refl, arith}
use Rattle.std.specs.Prelude.{slice_get}
use Rattle.stream_type.specs.StreamType.{StreamType}
use Rattle.event_word.specs.StreamEvent.{StreamEvent, IsWithin}
use Rattle.event_word.specs.Admits.{Admits}
use Rattle.event_word.specs.Word.{after_word}
use Rattle.event_word.proofs.Walks.{no_fault_is_admitted}
use Rattle.event_frame.specs.Frames.{frames, longest}
use Rattle.delta_state.specs.Stands.{input_type}
use Rattle.filled_states.specs.Shape.{filled}
use Rattle.other_numbers.specs.EventNumbers.{exchanged_event}
use Rattle.state_shapes.specs.declared.found.Found.{Found}
use Rattle.learned_table.specs.FoundNumbers.{number_in}
use Rattle.delta_loop.specs.Meaning.{Meaning, Stands as LoopStands}
use Rattle.delta_code.specs.declared.machine.Coded.{Coded}
use Rattle.delta_code.specs.CodedView.{program_of}
use Rattle.stations.specs.StationTree.{StationTree}
use Rattle.step_learning.specs.Laws.{numbers_with, depths_with}
use Rattle.learned_runner.specs.Book.{At, known_of, stations_of}
use Rattle.learned_runner.specs.Finding.{Finds}
use Rattle.learned_runner.specs.Standing.{KeepsAt, StandsNow, StandsFor, StandsAsBefore, HasTaken}
use Rattle.learned_runner.specs.declared.book.Book.{Book}
use Rattle.learned_runner.specs.declared.book.Known.{Known}
use Rattle.learned_runner.specs.declared.runner.Learner.{Learner}
use Rattle.learned_runner.proofs.KnownSteps.{admitted, went}
use Rattle.learned_runner.proofs.Moved.{runs_moved, keeps_moved}
use Rattle.learned_runner.proofs.Standings as standing

-- one of which nothing changed that it stands by stands for the same
same_stands : (old new : Learner) → new.machine ≡ old.machine → new.version ≡ old.version → new.book ≡ old.book → new.at ≡ old.at → new.values ≡ old.values → new.lost ≡ old.lost
    → (P : Meaning) (word : List StreamEvent) → StandsFor old P word → StandsFor new P word
same_stands old new machine version book at values lost P word s =
    record {
      runs = runs_moved (program_of old.machine) (program_of new.machine) old.machine.budget new.machine.budget old.version new.version old.book new.book old.lost new.lost P
          (ap (λ (m : Coded). program_of m) machine) (ap (λ (m : Coded). m.budget) machine) version book lost s.runs;
      stands = rw (at, machine, book, values) s.stands;
    }

pub stands_as_before : (old new : Learner) → new.machine ≡ old.machine → new.version ≡ old.version → new.book ≡ old.book → new.at ≡ old.at → new.values ≡ old.values → new.lost ≡ old.lost
    → StandsAsBefore old new
stands_as_before old new machine version book at values lost P word =
    (same_stands old new machine version book at values lost P word, same_stands new old (sym machine) (sym version) (sym book) (sym at) (sym values) (sym lost) P word)

-- at a station
at_station : (r : Learner) (n : ℕ) → r.at ≡ Some n → (P : Meaning) (word : List StreamEvent) → StandsFor r P word → At (stations_of r.book) n (KeepsAt r.machine r.values word)
at_station r n at P word s = subst (λ (o : Option ℕ). StandsNow o r.machine r.book r.values word) at s.stands

-- a shape filled from equal registers
pub filled_same : (s : StationTree) (ns ms : List ℤ) (ds es : List ℕ) → ms ≡ ns → es ≡ ds → filled s.shape ms es ≡ filled s.shape ns ds
filled_same s ns ms ds es h k = rw (h, k) refl

-- it counts its events
pub has_room : (r : Learner) → (n : ℕ) → r.at ≡ Some n → LoopStands StandsFor r → r.machine.events < 2 ^ 42
has_room r n at l =
    let there = at_station r n at l.program l.word l.state in
    omega (arith, l.room, there.holds_there.keeps.below.keeps.keeps.is_count)

-- what is said to an event is short enough for frames
module _ (old : Learner) (x : StreamEvent) (n : ℕ) (k : Known) (found : Found) (at : old.at ≡ Some n) (finds : Finds old.book n old.values.numbers.items x found k) where
  -- the events of the answer that was learned are short enough
  pub said_within : LoopStands StandsFor old → ((said : List StreamEvent) → IsWithin (longest old.version) (map (exchanged_event (number_in found)) said) → IsWithin (longest old.version) said)
      → IsWithin (longest old.version) (known_of k).step.said
  said_within l paths =
      let there = at_station old n at l.program l.word l.state in
      let keeps = there.holds_there.keeps in
      let gone = went old.machine old.book old.values n k found x l.state.runs.is_true finds l.word there (has_room old n at l) in
      paths (known_of k).step.said
      (subst (IsWithin (longest old.version)) gone.holds_there.says
      (standing.within (program_of old.machine) old.machine.budget (filled there.station.shape old.values.numbers.items old.values.depths.items) there.station.awaited there.station.input there.station.output old.machine.events old.machine.spent l.word keeps
      l.state.runs.can_run x (admitted old.machine old.book old.values n k found x l.state.runs.is_true finds l.word there) old.version l.state.runs.short))

  -- after the step it stands at the other station, and its answer was framed
  pub again_taken : LoopStands StandsFor old → (new : Learner) (bytes : List ℕ) → program_of new.machine ≡ program_of old.machine → new.machine.budget ≡ old.machine.budget
      → new.machine.events ≡ suc old.machine.events → new.machine.spent ≡ (known_of k).step.calls → new.version ≡ old.version → new.book ≡ old.book → new.at ≡ Some k.to
      → new.values.numbers.items ≡ numbers_with (known_of k).step (number_in found) → new.values.depths.items ≡ depths_with (known_of k).step old.values.depths.items → new.lost ≡ old.lost
      → bytes ≡ frames old.version (map (exchanged_event (number_in found)) (known_of k).step.said) → HasTaken old new x bytes
  again_taken l new bytes program budget events spent version book goes numbers depths lost framed P word s =
      let c = program_of old.machine in
      let there = at_station old n at P word s in
      let keeps = there.holds_there.keeps in
      let gone = went old.machine old.book old.values n k found x s.runs.is_true finds word there (has_room old n at l) in
      let admits = admitted old.machine old.book old.values n k found x s.runs.is_true finds word there in
      let comes : Admits (after_word word (input_type c)) x = subst (λ (t : StreamType). Admits t x) keeps.below.keeps.keeps.is_input admits in (
        ap (λ (Q : Meaning). Q.fault word x) s.runs.means ∙ (no_fault_is_admitted (after_word word (input_type c)) x).1 comes,
        record {
          runs = runs_moved (program_of old.machine) (program_of new.machine) old.machine.budget new.machine.budget old.version new.version old.book new.book old.lost new.lost P
              program budget version book lost s.runs;
          stands = subst (λ (o : Option ℕ). StandsNow o new.machine new.book new.values (word ++ x ∷ [])) (sym goes)
              (record {
                station = gone.station;
                is_there = subst (λ (b : Book). slice_get (stations_of b) k.to ≡ Some gone.station) (sym book) gone.is_there;
                holds_there = record {
                  registers = rw (numbers, depths) gone.holds_there.registers;
                  keeps = keeps_moved (program_of old.machine) (program_of new.machine) old.machine.budget new.machine.budget
                      (filled gone.station.shape (numbers_with (known_of k).step (number_in found)) (depths_with (known_of k).step old.values.depths.items))
                      (filled gone.station.shape new.values.numbers.items new.values.depths.items) gone.station.awaited gone.station.awaited gone.station.input gone.station.input
                      gone.station.output gone.station.output (suc old.machine.events) new.machine.events (known_of k).step.calls new.machine.spent (word ++ x ∷ [])
                      program budget (filled_same gone.station _ _ _ _ numbers depths) refl refl refl events spent gone.holds_there.keeps;
                };
              });
        },
        framed ∙ ap (frames old.version) (sym gone.holds_there.says) ∙ ap (λ (Q : Meaning). Q.answer word x) (sym s.runs.means),
      )
