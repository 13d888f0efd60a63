-- An event that was tried on what a run has in hand at a station, at depths far apart: its step is learned, in each
-- program whose functions have the code.
use Rattle.std.proofs.Common.{◌≡◌, ◌∙◌, ◌≤◌, ℕ, ap, refl, sym, subst, Option, IfSome}
use Rattle.stream_type.specs.StreamType.{StreamType, type_of}
use Rattle.stream_prefix.specs.StreamPrefix.{der}
use Rattle.event_word.specs.StreamEvent.{StreamEvent}
use Rattle.event_word.specs.Admits.{Admits}
use Rattle.event_word.specs.Word.{one_of}
use Rattle.core_term.specs.CoreTerm.{CoreProgram, fun_at}
use Rattle.delta_state.specs.StateMeaning.{types_held, prefixes_held, run_state}
use Rattle.delta_state.specs.Rest.{rest_of}
use Rattle.state_rewriting.specs.Rewriting.{SimplerBy}
use Rattle.machine_parts.specs.AwaitedTree.{awaited_in}
use Rattle.template_state.specs.declared.code.Code.{Code}
use Rattle.template_state.specs.Readers.{state_in}
use Rattle.template_state.specs.Templates.{bodies_in}
use Rattle.other_numbers.specs.StateAsked.{asked_of}
use Rattle.learned_steps.specs.Learned.{Learned, names_at, asked_in}
use Rattle.learned_table.specs.StepTree.{StepTree}
use Rattle.stations.specs.declared.station.Standing.{Standing}
use Rattle.stations.specs.declared.station.Values.{Values}
use Rattle.stations.specs.StationTree.{StationTree, AreRegisters}
use Rattle.stations.specs.Stands.{InHand}
use Rattle.step_learning.specs.declared.learning.Learning.{Learning}
use Rattle.step_learning.specs.declared.trying.Tried.{Tried}
use Rattle.step_learning.specs.IsLearned.{depths_apart}
use Rattle.step_learning.specs.AreApart.{AreApart}
use Rattle.step_learning.specs.Tries.{TriesEvent, run_in, asked_on}
use Rattle.step_learning.specs.Learns.{Learns, LearnsStep, IsTried, tried_step}

module _ (code : Code) (budget : ℕ) (old new : Standing) (x : StreamEvent) (t : Tried) (admits : Admits (type_of old.input.value) x) (h : TriesEvent code budget old new x t)
    (c : CoreProgram) (e : c.funs ≡ bodies_in code) where
  -- what was made of the event, over the program's functions
  abbrev as_learned : Learned c
  as_learned =
      let hs = names_at (awaited_in old.awaited.value) (type_of old.input.value) x in
      let o = type_of old.output.value in
      let s = state_in old.state.value in
      let r = run_in code old (one_of x (type_of old.input.value)) in
      record {
        state = s;
        awaited = awaited_in old.awaited.value;
        input = type_of old.input.value;
        output = o;
        event = x;
        out = r.out;
        calls = r.calls;
        level = r.level;
        next = state_in new.state.value;
        admits = admits;
        runs = ap (λ fs. run_state (fun_at fs) s (types_held hs) o (prefixes_held hs)) e;
        simpler = subst (λ fs. SimplerBy (der r.out o) (rest_of (fun_at fs) s (types_held hs) o (prefixes_held hs)) (state_in new.state.value)) (sym e) h.makes.simpler;
      }

  asks_there : asked_in c as_learned ≡ asked_on code old (one_of x (type_of old.input.value))
  asks_there =
      let hs = names_at (awaited_in old.awaited.value) (type_of old.input.value) x in
      ap (λ fs. asked_of (fun_at fs) (state_in old.state.value) (types_held hs) (type_of old.output.value) (prefixes_held hs)) e

  module _ (from : StationTree) (values : Values) (registers : AreRegisters from values.numbers.items values.depths.items) (apart : AreApart values.depths.items) (within : budget ≤ depths_apart)
      (hand : InHand from values old) where
    -- so the step is learned at the station,
    pub at_station : Learns c budget from (tried_step values x t) new
    at_station = record {
      has = record {
        learned = as_learned;
        registers = registers;
        is_state = hand.is_state;
        is_awaited = hand.is_awaited;
        is_input = hand.is_input;
        is_output = hand.is_output;
        is_event = refl;
        are_asked = asks_there ∙ h.asks.same;
        have_values = h.asks.have_values;
        is_said = h.makes.is_said;
        are_calls = h.makes.are_calls;
        in_budget = h.makes.in_budget;
        within = within;
        are_spread = apart.are_spread;
        are_deep = apart.are_deep;
      };
      leaves = record { is_state = refl; is_awaited = h.makes.is_awaited; is_input = h.makes.is_input; is_output = h.makes.is_output };
    }

-- and what was made of that is what was learned
pub step_learned : (code : Code) (budget : ℕ) (from : StationTree) (values : Values) (x : StreamEvent) (old new : Standing) (tried : Option Tried) (l : Learning)
    → Admits from.input x → AreRegisters from values.numbers.items values.depths.items → AreApart values.depths.items → budget ≤ 1000000
    → InHand from values old → IfSome tried (TriesEvent code budget old new x) → IsTried values x tried new l → LearnsStep code budget from values.numbers.items x l
step_learned code budget from values x old new tried l admits registers apart within hand tries is =
    let admitted : Admits (type_of old.input.value) x = subst (λ (s : StreamType). Admits s x) (sym hand.is_input) admits in
    let answered : TriesEvent code budget old new x is.answer = subst (λ (o : Option Tried). IfSome o (TriesEvent code budget old new x)) is.is_answer tries in
    record {
      learns = λ c e. subst (λ (p : StepTree × Standing). Learns c budget from p.0 p.1) (λ i. (sym is.is_step i, sym is.is_left i))
          (at_station code budget old new x is.answer admitted answered c e from values registers apart within hand);
      numbers_there = ap (λ (s : StepTree). s.numbers) is.is_step;
      event_there = ap (λ (s : StepTree). s.event) is.is_step;
    }
