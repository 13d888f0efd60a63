-- A machine that makes a learned step again, with the numbers and at the depths that it has now, keeps all that
-- machines have to.
use Rattle.std.proofs.Common.{◌≡◌, ◌∙◌, ◌≤◌, ◌<◌, ℕ, ℤ, suc, List, [], ◌∷◌, ◌++◌, map, ap, sym, subst, arith}
use Rattle.std.specs.List.{All}
use Rattle.std.proofs.lemmas.List.Elements.{All-nil, All-cons, All-head, All-tail}
use Rattle.std.proofs.lemmas.List.{length-map}
use Rattle.stream_type.specs.StreamType.{StreamType}
use Rattle.event_word.specs.StreamEvent.{StreamEvent}
use Rattle.event_word.specs.Canon.{canon}
use Rattle.core_term.specs.CoreTerm.{CoreProgram}
use Rattle.delta_state.specs.StateTree.{StateTree}
use Rattle.delta_state.specs.MachineView.{answer_to}
use Rattle.machine_parts.specs.AwaitedTree.{AwaitedTree}
use Rattle.kept_state.specs.KeptTree.{KeptTree}
use Rattle.machine_kept.specs.SinceView.{answer_since}
use Rattle.machine_kept.specs.Keeping.{KeepsTidy, KeepsSince}
use Rattle.other_numbers.specs.Numbers.{exchanged_value}
use Rattle.other_numbers.specs.EventNumbers.{exchanged_event}
use Rattle.other_numbers.specs.Commutes.{Commutes, AllCommute}
use Rattle.filled_states.specs.Shape.{filled}
use Rattle.filled_states.specs.Shifts.{shift}
use Rattle.learned_steps.specs.Learned.{asked_in}
use Rattle.learned_steps.specs.Shapes.{LearnedShapes, LearnedApart}
use Rattle.learned_steps.specs.Laws.{Made, MadeSince}
use Rattle.learned_steps.proofs.ShapesGo.{shapes_go_deep, shapes_go_deep_since}
use Rattle.learned_table.specs.StepTree.{AskTree, StepTree, asked_by}
use Rattle.learned_table.specs.Suits.{GoesAlong, SuitsNow}
use Rattle.stations.specs.StationTree.{StationTree, AreRegisters}
use Rattle.step_learning.specs.IsLearned.{HasValue, IsLearned, depths_apart}
use Rattle.step_learning.specs.Laws.{WentOn, WentOnSince, LearnedStepGoes, LearnedStepGoesSince, numbers_with, depths_with}

-- what goes along commutes
asks_commute : (f : ℤ → ℤ) (as' : List AskTree) → All HasValue as' → All (GoesAlong f) as' → AllCommute f (map asked_by as')
asks_commute f [] values along = All-nil (Commutes f)
asks_commute f (a ∷ as') values along =
    let value_now : Commutes f (asked_by a) = All-head (GoesAlong f) a as' along ∙ ap (exchanged_value f) (All-head HasValue a as' values) in
    All-cons (Commutes f) (asked_by a) (map asked_by as') value_now (asks_commute f as' (All-tail HasValue a as' values) (All-tail (GoesAlong f) a as' along))

-- what holds of the parts of a machine holds of equal ones
of_same : (K : StateTree → AwaitedTree → StreamType → StreamType → Type 0) {s u : StateTree} {a b : AwaitedTree} {i j o q : StreamType} → s ≡ u → a ≡ b → i ≡ j → o ≡ q → K s a i o → K u b j q
of_same K es ea ei eo k = subst (λ (t : StateTree × AwaitedTree × StreamType × StreamType). K t.0 t.1 t.2 t.3) (λ n. (es n, ea n, ei n, eo n)) k

module _ (c : CoreProgram) (budget : ℕ) (from to : StationTree) (s : StepTree) (h : IsLearned c budget from to s) where
  -- the step, between the shapes of the stations
  abbrev shapes : LearnedShapes c
  shapes = record {
    step = h.has.learned;
    before = from.shape;
    after = to.shape;
    numbers = s.numbers;
    depths = s.depths;
    numbers_left = s.numbers_left;
    depths_left = s.depths_left;
    is_before = h.has.is_state;
    is_after = h.left.is_state;
    has_numbers = h.has.registers.some_numbers;
    has_depths = h.has.registers.some_depths;
    leaves_numbers = h.left.registers.some_numbers;
    leaves_depths = h.left.registers.some_depths;
  }

  calls_allowed : h.has.learned.calls ≤ budget
  calls_allowed = subst (λ n. n ≤ budget) (sym h.has.are_calls) h.has.in_budget

  apart : LearnedApart c shapes depths_apart
  apart = record { are_spread = h.has.are_spread; are_deep = h.has.are_deep; in_reach = let far : budget ≤ depths_apart = h.has.within in let few : h.has.learned.calls ≤ budget = calls_allowed in omega arith }

  module _ (f : ℤ → ℤ) (numbers : List ℤ) (depths : List ℕ) (x : StreamEvent) (events : ℕ) (word : List StreamEvent) (suits : SuitsNow s f numbers x) where
    commute : AllCommute f (asked_in c h.has.learned)
    commute = subst (AllCommute f) (sym h.has.are_asked) (asks_commute f s.asks h.has.have_values suits.asks)

    is_event : exchanged_event f h.has.learned.event ≡ x
    is_event = ap (exchanged_event f) h.has.is_event ∙ suits.event

    registers_left : AreRegisters to (numbers_with s f) (depths_with s depths)
    registers_left = record {
      numbers_beside = h.left.registers.numbers_beside ∙ sym (length-map s.numbers_left f);
      depths_beside = h.left.registers.depths_beside ∙ sym (length-map s.depths_left (shift s.depths depths depths_apart));
      some_numbers = subst (λ n. 0 < n) (sym (length-map s.numbers_left f)) h.left.registers.some_numbers;
      some_depths = subst (λ n. 0 < n) (sym (length-map s.depths_left (shift s.depths depths depths_apart))) h.left.registers.some_depths;
    }

    -- the state of the other station with these registers
    abbrev there : StateTree
    there = filled to.shape (numbers_with s f) (depths_with s depths)

    -- what was made, in the terms of that station
    went_on : Made c h.has.learned f there budget events word → WentOn c budget to s f depths x events word
    went_on made = record {
      keeps = subst (λ (t : ℕ × StreamEvent). KeepsTidy c budget there to.awaited to.input to.output (suc events) t.0 (word ++ t.1 ∷ []))
          (λ n. (h.has.are_calls n, is_event n))
          (of_same (λ u a i o. KeepsTidy c budget u a i o (suc events) h.has.learned.calls (word ++ exchanged_event f h.has.learned.event ∷ [])) (λ n. there) h.left.is_awaited h.left.is_input h.left.is_output made.keeps);
      registers = registers_left;
      says = sym (ap (λ (y : StreamEvent). canon (answer_to c word y)) is_event) ∙ (sym (ap canon made.answers) ∙ (made.says ∙ ap (map (exchanged_event f)) h.has.is_said));
    }

    went_on_since : (k : KeptTree) → MadeSince c h.has.learned f there budget events k word → WentOnSince c budget to s f depths x events k word
    went_on_since k made = record {
      keeps = subst (λ (t : ℕ × StreamEvent). KeepsSince c budget there to.awaited to.input to.output (suc events) t.0 k (word ++ t.1 ∷ []))
          (λ n. (h.has.are_calls n, is_event n))
          (of_same (λ u a i o. KeepsSince c budget u a i o (suc events) h.has.learned.calls k (word ++ exchanged_event f h.has.learned.event ∷ [])) (λ n. there) h.left.is_awaited h.left.is_input h.left.is_output made.keeps);
      registers = registers_left;
      says = sym (ap (λ (y : StreamEvent). canon (answer_since c k word y)) is_event) ∙ (sym (ap canon made.answers) ∙ (made.says ∙ ap (map (exchanged_event f)) h.has.is_said));
    }

    -- what holds of the parts at the first station holds of those at which the step was learned
    at_learned : (K : StateTree → AwaitedTree → StreamType → StreamType → Type 0) → K (filled from.shape numbers depths) from.awaited from.input from.output
        → K (filled from.shape (map f s.numbers) depths) h.has.learned.awaited h.has.learned.input h.has.learned.output
    at_learned K k = of_same K (ap (λ ns. filled from.shape ns depths) (sym suits.registers)) (sym h.has.is_awaited) (sym h.has.is_input) (sym h.has.is_output) k

pub learned_step_goes : LearnedStepGoes
learned_step_goes c budget from to s f numbers depths x events spent word h suits same room k =
    went_on c budget from to s h f numbers depths x events word suits
    (shapes_go_deep c (shapes c budget from to s h) depths_apart f depths budget events spent word (apart c budget from to s h) (commute c budget from to s h f numbers depths x events word suits) same (calls_allowed c budget from to s h) room
    (at_learned c budget from to s h f numbers depths x events word suits (λ u a i o. KeepsTidy c budget u a i o events spent word) k))

pub learned_step_goes_since : LearnedStepGoesSince
learned_step_goes_since c budget from to s f numbers depths x events spent k word h suits same room keeps =
    went_on_since c budget from to s h f numbers depths x events word suits k
    (shapes_go_deep_since c (shapes c budget from to s h) depths_apart f depths budget events spent k word (apart c budget from to s h) (commute c budget from to s h f numbers depths x events word suits) same (calls_allowed c budget from to s h) room
    (at_learned c budget from to s h f numbers depths x events word suits (λ u a i o. KeepsSince c budget u a i o events spent k word) keeps))
