-- At a station the input may end where the station's input may.
use Rattle.std.proofs.Common.{◌≡◌, ◌∙◌, ◌<◌, ◌≤◌, ℕ, Option, Some, None, List, true, length, map, sym, ap, subst, refl}
use Rattle.std.specs.Prelude.{slice_get, get_or, option_map}
use Rattle.std.proofs.lemmas.Option.{slice_get-map, slice_get_read, slice_get_past}
use Rattle.stream_type.specs.StreamType.{null_of, type_of}
use Rattle.event_word.specs.StreamEvent.{StreamEvent}
use Rattle.machine_parts.specs.AwaitedTree.{awaited_in}
use Rattle.template_state.specs.Readers.{state_in}
use Rattle.filled_states.specs.Shape.{filled}
use Rattle.delta_loop.specs.Meaning.{Meaning}
use Rattle.delta_code.specs.CodedView.{program_of}
use Rattle.stations.specs.StationTree.{StationTree, station_in}
use Rattle.stations.specs.declared.station.Station.{Station}
use Rattle.learned_runner.specs.Book.{At, stations_of}
use Rattle.learned_runner.specs.Standing.{KeepsAt, StandsNow, StandsFor}
use Rattle.learned_runner.specs.declared.runner.Learner.{Learner}
use Rattle.learned_runner.proofs.Anew.{alone}
use Rattle.learned_runner.proofs.Standings as standing

-- the station that is read at a number is the book's with that number,
pub station_read : (all held : List Station) (n : ℕ) (x : Station) → all ≡ held → n < length all → x ≡ get_or all n x → slice_get (map station_in held) n ≡ Some (station_in x)
station_read all held n x same low is =
    subst (λ (xs : List Station). slice_get (map station_in xs) n ≡ Some (station_in x)) same
    (slice_get-map station_in all n ∙ ap (option_map station_in) (slice_get_read all (length all) n x refl low is))

-- and past the last one there is none
pub station_past : (all held : List Station) (n : ℕ) → all ≡ held → length all ≤ n → slice_get (map station_in held) n ≡ None
station_past all held n same high =
    subst (λ (xs : List Station). slice_get (map station_in xs) n ≡ None) same
    (slice_get-map station_in all n ∙ ap (option_map station_in) (slice_get_past all n high))

-- one that stands by itself has answered all where nothing is left of its machine's input
pub whole_alone : (r : Learner) → r.at ≡ None → (P : Meaning) (word : List StreamEvent) → StandsFor r P word → null_of (type_of r.machine.input.value) ≡ true → P.is_whole word ≡ true
whole_alone r free P word s null =
    ap (λ (Q : Meaning). Q.is_whole word) s.runs.means
    ∙ standing.is_whole (program_of r.machine) r.machine.budget (state_in r.machine.state.value) (awaited_in r.machine.awaited.value) (type_of r.machine.input.value) (type_of r.machine.output.value)
    r.machine.events r.machine.spent word (alone r free P word s) s.runs.can_run null

module _ (r : Learner) (n : ℕ) (at : r.at ≡ Some n) (P : Meaning) (word : List StreamEvent) (s : StandsFor r P word) where
  there : At (stations_of r.book) n (KeepsAt r.machine r.values word)
  there = subst (λ (o : Option ℕ). StandsNow o r.machine r.book r.values word) at s.stands

  -- there is a station
  pub is_some : slice_get (stations_of r.book) n ≡ None → ⊥
  is_some none = let both : Some there.station ≡ None = sym there.is_there ∙ none in cc

  module _ (station : StationTree) (is_there : slice_get (stations_of r.book) n ≡ Some station) where
    same : there.station ≡ station
    same =
        let one : slice_get (stations_of r.book) n ≡ Some there.station = there.is_there in
        let two : slice_get (stations_of r.book) n ≡ Some station = is_there in
        cc

    kept : KeepsAt r.machine r.values word station
    kept = subst (KeepsAt r.machine r.values word) same there.holds_there

    -- the input may end where its input is null,
    pub finishes_there : null_of station.input ≡ P.finishes word
    finishes_there = ap null_of kept.keeps.below.keeps.keeps.is_input ∙ sym (ap (λ (Q : Meaning). Q.finishes word) s.runs.means)

    -- and what was answered is whole then
    pub whole_there : null_of station.input ≡ true → P.is_whole word ≡ true
    whole_there null =
        ap (λ (Q : Meaning). Q.is_whole word) s.runs.means
        ∙ standing.is_whole (program_of r.machine) r.machine.budget (filled station.shape r.values.numbers.items r.values.depths.items) station.awaited station.input station.output
        r.machine.events r.machine.spent word kept.keeps s.runs.can_run null
