-- A known step made again: the run goes on at the station at which it ends.
use Rattle.std.proofs.Common.{◌≡◌, ◌∙◌, ◌<◌, ◌^◌, ℕ, Some, List, sym, ap, subst}
use Rattle.std.specs.Prelude.{ℤ, slice_get}
use Rattle.std.specs.List.{All}
use Rattle.std.proofs.lemmas.Option.{get_or_from_slice_get, slice_get_within}
use Rattle.std.proofs.lemmas.List.Elements.{All-get_or}
use Rattle.stream_type.specs.StreamType.{StreamType}
use Rattle.event_word.specs.StreamEvent.{StreamEvent}
use Rattle.event_word.specs.Admits.{Admits}
use Rattle.core_term.specs.CoreTerm.{CoreProgram}
use Rattle.state_shapes.specs.declared.found.Found.{Found}
use Rattle.other_numbers.specs.EventNumbers.{exchanged_event}
use Rattle.other_numbers.proofs.EventNumbers.{admitted_go_along}
use Rattle.delta_code.specs.declared.machine.Coded.{Coded}
use Rattle.delta_code.specs.CodedView.{program_of}
use Rattle.stations.specs.StationTree.{StationTree}
use Rattle.stations.specs.declared.station.Values.{Values}
use Rattle.learned_table.specs.FoundNumbers.{number_in}
use Rattle.learned_table.specs.StepTree.{StepTree}
use Rattle.learned_table.specs.Suits.{SuitsNow}
use Rattle.step_learning.specs.IsLearned.{IsLearned}
use Rattle.step_learning.specs.Laws.{WentOn}
use Rattle.step_learning.proofs.LearnedStepGoes.{learned_step_goes}
use Rattle.learned_runner.specs.Book.{At, IsKnown, IsTrue, known_of, stations_of, steps_of}
use Rattle.learned_runner.specs.Finding.{Finds}
use Rattle.learned_runner.specs.Standing.{KeepsAt}
use Rattle.learned_runner.specs.declared.book.Book.{Book}
use Rattle.learned_runner.specs.declared.book.Known.{Known}

-- what holds of each element holds of the one at a place
pub holds_there : {A : Type 0} (P : A → Type 0) (xs : List A) (i : ℕ) (x : A) → slice_get xs i ≡ Some x → All P xs → P x
holds_there P xs i x h all = subst P (get_or_from_slice_get xs i x x h) (All-get_or P xs i x (slice_get_within xs i x h) all)

-- a step that was learned at a station on an event is admitted there with other numbers
admitted_with : (c : CoreProgram) (budget : ℕ) (from to : StationTree) (s : StepTree) (f : ℤ → ℤ) (numbers : List ℤ) (x : StreamEvent) → IsLearned c budget from to s → SuitsNow s f numbers x
    → Admits from.input x
admitted_with c budget from to s f numbers x l suits =
    subst (Admits from.input) (ap (exchanged_event f) l.has.is_event ∙ suits.event)
    (admitted_go_along f from.input l.has.learned.event (subst (λ (t : StreamType). Admits t l.has.learned.event) l.has.is_input l.has.learned.admits))

module _ (m : Coded) (book : Book) (values : Values) (n : ℕ) (k : Known) (found : Found) (x : StreamEvent) (true : IsTrue (program_of m) m.budget book)
    (finds : Finds book n values.numbers.items x found k) where
  known : IsKnown (program_of m) m.budget (stations_of book) (known_of k)
  known = holds_there (IsKnown (program_of m) m.budget (stations_of book)) (steps_of book) finds.place (known_of k) finds.is_there true

  same_station : (word : List StreamEvent) (at : At (stations_of book) n (KeepsAt m values word)) → at.station ≡ known.station
  same_station word at =
      let one : slice_get (stations_of book) n ≡ Some at.station = at.is_there in
      let two : slice_get (stations_of book) n ≡ Some known.station = subst (λ (i : ℕ). slice_get (stations_of book) i ≡ Some known.station) finds.is_from known.is_there in
      cc

  keeps_there : (word : List StreamEvent) (at : At (stations_of book) n (KeepsAt m values word)) → KeepsAt m values word known.station
  keeps_there word at = subst (KeepsAt m values word) (same_station word at) at.holds_there

  -- the event may come,
  pub admitted : (word : List StreamEvent) (at : At (stations_of book) n (KeepsAt m values word)) → Admits at.station.input x
  admitted word at =
      subst (λ (s : StationTree). Admits s.input x) (sym (same_station word at))
      (admitted_with (program_of m) m.budget known.station known.holds_there.station (known_of k).step (number_in found) values.numbers.items x known.holds_there.holds_there finds.suits)

  -- and the run goes on
  pub went : (word : List StreamEvent) (at : At (stations_of book) n (KeepsAt m values word)) → m.events < 2 ^ 42
      → At (stations_of book) k.to (λ b. WentOn (program_of m) m.budget b (known_of k).step (number_in found) values.depths.items x m.events word)
  went word at room =
      let keeps = keeps_there word at in
      let learned = known.holds_there.holds_there in
      record {
        station = known.holds_there.station;
        is_there = known.holds_there.is_there;
        holds_there = learned_step_goes (program_of m) m.budget known.station known.holds_there.station (known_of k).step (number_in found) values.numbers.items values.depths.items x m.events m.spent word
            learned finds.suits (sym learned.has.registers.depths_beside ∙ keeps.registers.depths_beside) room keeps.keeps;
      }
