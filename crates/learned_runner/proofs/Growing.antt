-- A book with one station, or one step, behind the others.
use Rattle.std.proofs.Common.{◌≡◌, ◌∙◌, ℕ, Some, List, [], ◌∷◌, ◌++◌, length, map, sym, ap, subst, refl}
use Rattle.std.specs.Prelude.{slice_get}
use Rattle.std.specs.List.{All}
use Rattle.std.proofs.lemmas.List.{map-append}
use Rattle.std.proofs.lemmas.List.Elements.{All-push}
use Rattle.stream_type.specs.StreamType.{type_of}
use Rattle.machine_parts.specs.AwaitedTree.{awaited_in}
use Rattle.template_state.specs.Readers.{state_in}
use Rattle.core_term.specs.CoreTerm.{CoreProgram}
use Rattle.stations.specs.StationTree.{StationTree, station_in}
use Rattle.stations.specs.Stands.{StandsOn}
use Rattle.stations.specs.declared.station.Run.{Run}
use Rattle.stations.specs.declared.station.Station.{Station}
use Rattle.stations.specs.declared.station.Values.{Values}
use Rattle.learned_runner.specs.Book.{IsKnown, known_of, stations_of}
use Rattle.learned_runner.specs.Noting.{Grown, StandsThere}
use Rattle.learned_runner.specs.declared.book.Book.{Book}
use Rattle.learned_runner.specs.declared.book.Known.{Known}

-- what is put behind stands where the others end
pub stands_last : {A B : Type 0} (f : A → B) (xs : List A) (x : A) → slice_get (map f (xs ++ x ∷ [])) (length xs) ≡ Some (f x)
stands_last f [] x = refl
stands_last f (y ∷ xs) x = stands_last f xs x

-- a book with a station behind the others has grown
pub one_more : (old new : Book) (s : Station) → new.stations.items ≡ old.stations.items ++ s ∷ [] → new.steps.items ≡ old.steps.items → Grown old new
one_more old new s h k = record {
  more = station_in s ∷ [];
  stations = ap (map station_in) h ∙ map-append station_in old.stations.items (s ∷ []);
  steps = ap (map known_of) k;
}

-- and what stands at that station stands there
pub stands_new : (old new : Book) (s : Station) (v : Values) (run : Run) (n : ℕ) → new.stations.items ≡ old.stations.items ++ s ∷ [] → n ≡ length old.stations.items
    → StandsOn (station_in s) run v
    → StandsThere (stations_of new) n v (state_in run.state.now) (awaited_in run.awaited.now) (type_of run.input.now) (type_of run.output.now)
stands_new old new s v run n h l stands = record {
  station = station_in s;
  is_there = ap (λ (ss : List Station). slice_get (map station_in ss) n) h
      ∙ ap (slice_get (map station_in (old.stations.items ++ s ∷ []))) l ∙ stands_last station_in old.stations.items s;
  holds_there = stands;
}

-- what is known of steps is known of one more that is known
pub known_with : (c : CoreProgram) (budget : ℕ) (stations : List StationTree) (steps more : List Known) (k : Known) → more ≡ steps ++ k ∷ []
    → All (IsKnown c budget stations) (map known_of steps) → IsKnown c budget stations (known_of k) → All (IsKnown c budget stations) (map known_of more)
known_with c budget stations steps more k h all known =
    subst (All (IsKnown c budget stations)) (sym (ap (map known_of) h ∙ map-append known_of steps (k ∷ [])))
    (All-push (IsKnown c budget stations) (map known_of steps) (known_of k) all known)
