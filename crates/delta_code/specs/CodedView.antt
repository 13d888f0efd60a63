-- What the compiled machine is to the contracts of machines, and what it is for it to stand for its program.
use Rattle.std.specs.Prelude.{suc, ◌≡◌, ◌≤◌, List, map, refl, string_bytes}
use Rattle.stream_type.specs.StreamType.{StreamType, type_of}
use Rattle.stream_prefix.specs.StreamPrefix.{StreamPrefix, der}
use Rattle.event_word.specs.StreamEvent.{StreamEvent}
use Rattle.event_word.specs.Word.{one_of}
use Rattle.core_term.specs.CoreTerm.{CoreProgram}
use Rattle.core_term.specs.Run.{Run}
use Rattle.delta_state.specs.StateTree.{StateTree}
use Rattle.delta_state.specs.StateMeaning.{types_held, prefixes_held, run_state}
use Rattle.delta_state.specs.Rest.{rest_of}
use Rattle.delta_state.specs.PlainState.{without_marks}
use Rattle.delta_state.specs.MachineView.{MachineView, StandsAfter}
use Rattle.main_steps.specs.Laws.{run_on, state_on}
use Rattle.state_rewriting.specs.Rewriting.{SimplerBy}
use Rattle.machine_parts.specs.AwaitedTree.{AwaitedTree, awaited_in, entries_on, awaited_after, place_in}
use Rattle.machine_bounds.specs.StaysBelow.{StaysBelow}
use Rattle.kept_state.specs.KeptTree.{KeptTree}
use Rattle.machine_kept.specs.SinceView.{StandsSince}
use Rattle.machine_kept.specs.Keeping.{KeepsTidy, KeepsSince}
use Rattle.template_state.specs.declared.code.Code.{Code}
use Rattle.template_state.specs.Readers.{state_in}
use Rattle.template_state.specs.Templates.{bodies_in, body_in}
use Rattle.delta_code.specs.Beside.{IsReady}
use Rattle.delta_code.specs.Steps.{funs_of}
use Rattle.delta_code.specs.declared.machine.Coded.{Coded}

-- the run of a state over the functions of this code, and what is left of it, where so much is awaited of the
-- input and this comes of it
abbrev pub run_awaiting : Code → StateTree → StreamType → AwaitedTree → StreamPrefix → Run
run_awaiting c s r a d = run_state (funs_of c) s (types_held (entries_on a d)) r (prefixes_held (entries_on a d))

abbrev pub rest_awaiting : Code → StateTree → StreamType → AwaitedTree → StreamPrefix → StateTree
rest_awaiting c s r a d = rest_of (funs_of c) s (types_held (entries_on a d)) r (prefixes_held (entries_on a d))

-- the program of a machine's code, with the texts of its names
abbrev pub program_of : Coded → CoreProgram
program_of m = record { funs = bodies_in m.code.value; main = body_in m.code.value.main; texts = map string_bytes m.texts.items }

-- its program, its state without marks, its place, and what it counts
abbrev pub view_of : Coded → MachineView
view_of m =
    record {
      program = program_of m;
      budget = m.budget;
      state = without_marks (state_in m.state.value);
      place = place_in
          (awaited_in m.awaited.value);
      events = m.events;
      spent = m.spent;
    }

-- it stands for its program after the word, by a state that can hold no more than the program, and whose names are
-- apart
abbrev pub CodedStands : Coded → List StreamEvent → Type 0
CodedStands m word =
    KeepsTidy (program_of m) m.budget (state_in m.state.value) (awaited_in m.awaited.value) (type_of m.input.value) (type_of m.output.value)
    m.events m.spent word

-- and so as machines have to
abbrev pub coded_stands_after : (m : Coded) (word : List StreamEvent) → CodedStands m word → StandsAfter (view_of m) word
coded_stands_after m word s = record {
  is_word = s.below.keeps.keeps.is_word;
  marked = state_in m.state.value;
  is_state = refl;
  stands_for = s.below.keeps.keeps.stands_for;
  is_place = s.below.keeps.is_place;
  is_count = s.below.keeps.keeps.is_count;
  in_budget = s.below.keeps.in_budget;
  in_limit = s.below.keeps.in_limit;
}

-- and its state can hold no more than the program
abbrev pub coded_stays_below : (m : Coded) (word : List StreamEvent) → CodedStands m word → StaysBelow (view_of m) word
coded_stays_below m word s = record { stands = coded_stands_after m word s; below = s.below.below }

-- it stands for the kept state after the word
abbrev pub CodedSince : Coded → KeptTree → List StreamEvent → Type 0
CodedSince m k word =
    KeepsSince (program_of m) m.budget (state_in m.state.value) (awaited_in m.awaited.value) (type_of m.input.value) (type_of m.output.value)
    m.events m.spent k word

-- and so as machines have to
abbrev pub coded_stands_since : (m : Coded) (k : KeptTree) (word : List StreamEvent) → CodedSince m k word → StandsSince (view_of m) k word
coded_stands_since m k word s = record {
  is_typed = s.is_typed;
  is_word = s.is_word;
  marked = state_in m.state.value;
  is_state = refl;
  stands_for = s.stands_for;
  is_place = s.is_place;
  is_count = s.is_count;
  in_budget = s.in_budget;
  in_limit = s.in_limit;
}

-- the run of its state on an event, and what that leaves
abbrev pub run_by : Coded → StreamEvent → Run
run_by m x =
    run_on (program_of m) (state_in m.state.value) (type_of m.output.value) (entries_on (awaited_in m.awaited.value) (one_of x (type_of m.input.value)))

abbrev pub state_by : Coded → StreamEvent → StateTree
state_by m x =
    state_on (program_of m) (state_in m.state.value) (type_of m.output.value) (entries_on (awaited_in m.awaited.value) (one_of x (type_of m.input.value)))

-- its state is typed and settled where the event comes
abbrev pub IsReadyFor : Coded → StreamEvent → Type 0
IsReadyFor m x =
    IsReady (bodies_in m.code.value) (types_held (entries_on (awaited_in m.awaited.value) (one_of x (type_of m.input.value)))) (state_in m.state.value)
    (type_of m.output.value)

-- the machine takes the event, and answers this: it goes on by the run of its state, which it then puts into a
-- simpler form
pub record TakesBy (old new : Coded) (x : StreamEvent) (answer : StreamPrefix) : Type 0 where
  pub program : program_of new ≡ program_of old
  pub budget : new.budget ≡ old.budget
  pub within : (run_by old x).calls ≤ old.budget
  pub state : SimplerBy (type_of new.output.value) (state_by old x) (state_in new.state.value)
  pub awaited : awaited_in new.awaited.value ≡ awaited_after (awaited_in old.awaited.value) (one_of x (type_of old.input.value))
  pub input : type_of new.input.value ≡ der (one_of x (type_of old.input.value)) (type_of old.input.value)
  pub output : type_of new.output.value ≡ der (run_by old x).out (type_of old.output.value)
  pub events : new.events ≡ suc old.events
  pub spent : new.spent ≡ (run_by old x).calls
  pub is_answer : answer ≡ (run_by old x).out
