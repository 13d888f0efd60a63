-- What a step makes of what a run has in hand.
use Rattle.std.specs.Prelude.{ℕ, ◌≡◌, ◌≤◌, List}
use Rattle.stream_type.specs.StreamType.{type_of}
use Rattle.stream_prefix.specs.StreamPrefix.{StreamPrefix, der}
use Rattle.event_word.specs.StreamEvent.{StreamEvent}
use Rattle.event_word.specs.Canon.{canon}
use Rattle.event_word.specs.Word.{one_of}
use Rattle.core_term.specs.Run.{Run}
use Rattle.delta_state.specs.StateTree.{StateTree}
use Rattle.delta_state.specs.StateMeaning.{types_held, prefixes_held}
use Rattle.state_rewriting.specs.Rewriting.{SimplerBy}
use Rattle.machine_parts.specs.AwaitedTree.{awaited_in, entries_on, awaited_after}
use Rattle.template_state.specs.declared.code.Code.{Code}
use Rattle.template_state.specs.Readers.{state_in}
use Rattle.other_numbers.specs.Asked.{Asked}
use Rattle.other_numbers.specs.StateAsked.{asked_of}
use Rattle.delta_code.specs.Steps.{funs_of}
use Rattle.delta_code.specs.CodedView.{run_awaiting, rest_awaiting}
use Rattle.stations.specs.declared.station.Standing.{Standing}
use Rattle.step_learning.specs.declared.stepping.Answer.{Answer}
use Rattle.step_learning.specs.declared.trying.Tried.{Tried}
use Rattle.step_learning.specs.AsksOf.{AsksOf}

-- the run of the state that is in hand, on what comes, and what is left of it
abbrev pub run_in : Code → Standing → StreamPrefix → Run
run_in c s d = run_awaiting c (state_in s.state.value) (type_of s.output.value) (awaited_in s.awaited.value) d

abbrev pub rest_in : Code → Standing → StreamPrefix → StateTree
rest_in c s d = rest_awaiting c (state_in s.state.value) (type_of s.output.value) (awaited_in s.awaited.value) d

-- what that run asks
abbrev pub asked_on : Code → Standing → StreamPrefix → List Asked
asked_on c s d =
    asked_of (funs_of c) (state_in s.state.value) (types_held (entries_on (awaited_in s.awaited.value) d)) (type_of s.output.value)
    (prefixes_held (entries_on (awaited_in s.awaited.value) d))

-- what is in hand goes on by what came and by what was given on it, and its state is put into a simpler form
pub record MovesOn (old new : Standing) (d out : StreamPrefix) : Type 0 where
  pub simpler : SimplerBy (der out (type_of old.output.value)) (state_in old.state.value) (state_in new.state.value)
  pub is_awaited : awaited_in new.awaited.value ≡ awaited_after (awaited_in old.awaited.value) d
  pub is_input : type_of new.input.value ≡ der d (type_of old.input.value)
  pub is_output : type_of new.output.value ≡ der out (type_of old.output.value)

-- the step on what comes was made, within the budget: this was said, with so many calls, and this is in hand now
pub record Makes (c : Code) (budget : ℕ) (old new : Standing) (d : StreamPrefix) (answer : Answer) : Type 0 where
  pub is_said : canon (run_in c old d).out ≡ answer.said.items
  pub are_calls : (run_in c old d).calls ≡ answer.calls
  pub in_budget : answer.calls ≤ budget
  pub simpler : SimplerBy (der (run_in c old d).out (type_of old.output.value)) (rest_in c old d) (state_in new.state.value)
  pub is_awaited : awaited_in new.awaited.value ≡ awaited_after (awaited_in old.awaited.value) d
  pub is_input : type_of new.input.value ≡ der d (type_of old.input.value)
  pub is_output : type_of new.output.value ≡ der (run_in c old d).out (type_of old.output.value)

-- the event was tried on what is in hand: this is what was asked, and what was made of it
pub record TriesEvent (c : Code) (budget : ℕ) (old new : Standing) (x : StreamEvent) (t : Tried) : Type 0 where
  pub asks : AsksOf (asked_on c old (one_of x (type_of old.input.value))) t.asks.items
  pub makes : Makes c budget old new (one_of x (type_of old.input.value)) t.answer
