-- What the laws of rewritings say.
use Rattle.std.specs.Prelude.{ℕ, ◌≡◌, ◌+◌, ◌≤◌, Bool, IsTrue, List}
use Rattle.std.specs.List.{All}
use Rattle.stream_type.specs.StreamType.{StreamType}
use Rattle.stream_prefix.specs.StreamPrefix.{StreamPrefix, IsPrefix}
use Rattle.event_word.specs.StreamEvent.{StreamEvent}
use Rattle.core_term.specs.CoreTerm.{CoreBody, CoreProgram, fun_at}
use Rattle.core_term.specs.Environment.{Environment, IsTyped, IsPartAt, IsEmptyOn}
use Rattle.core_term.specs.Inert.{is_inert_fun}
use Rattle.core_term.specs.Run.{Run}
use Rattle.core_term.specs.Typing.{Context, types_of, IsTypedBody}
use Rattle.delta_state.specs.StateTree.{StateTree, laters_of, free_in_state}
use Rattle.delta_state.specs.StateMeaning.{run_state}
use Rattle.delta_state.specs.StateTyping.{HasStateType}
use Rattle.delta_state.specs.Settled.{is_settled}
use Rattle.delta_state.specs.Rest.{rest_of}
use Rattle.delta_state.specs.Stands.{StandsFor, input_type, output_left}
use Rattle.delta_state.specs.Laws.{IsTypedState}
use Rattle.delta_state.specs.PlainState.{PlainState, without_marks}
use Rattle.delta_state.specs.MachineView.{MachineView, StandsAfter, input_of}
use Rattle.state_rewriting.specs.Rewriting.{Simpler, SimplerBy}

-- a state has the type r, and is settled
pub record IsSettledOf (funs : List CoreBody) (c : Context) (r : StreamType) (s : StateTree) : Type 0 where
  pub typed : HasStateType funs (is_inert_fun funs) c s r
  pub settled : IsTrue (is_settled s r)

-- a typed settled state that is made simpler has the same type, and is settled
abbrev pub SimplerKeepsType : Type 0
SimplerKeepsType =
    (funs : List CoreBody) (c : Context) (r : StreamType) (a b : StateTree) → IsTypedState funs c a r → IsTrue (is_settled a r) → Simpler r a b
    → IsSettledOf funs c r b

-- the runs of a state on an input and on a longer one, and those of a simpler one: on the input the simpler
-- one gives the same, makes no more calls and none at a greater level, and up to the longer one its calls
-- rise by no more
pub record KeepsRun (run longer simple simple_longer : Run) : Type 0 where
  pub same : simple.out ≡ run.out
  pub calls : simple.calls ≤ run.calls
  pub level : simple.level ≤ run.level
  pub rise : simple_longer.calls + run.calls ≤ longer.calls + simple.calls

-- the run of a state on what comes on the names of a context
abbrev pub run_in : List CoreBody → Context → StreamType → StateTree → Environment → Run
run_in funs c r s env = run_state (fun_at funs) s (types_of c) r env

-- a typed state that is made simpler gives the same, and costs no more
abbrev pub SimplerKeepsRun : Type 0
SimplerKeepsRun =
    (funs : List CoreBody) (c : Context) (r : StreamType) (a b : StateTree) (env other : Environment) → IsTypedState funs c a r → Simpler r a b
    → IsTyped (types_of c) env → IsPartAt (types_of c) env other
    → KeepsRun (run_in funs c r a env) (run_in funs c r a other) (run_in funs c r b env) (run_in funs c r b other)

-- a depth that all code has which isn't reached in a state, that in a simpler one has too
abbrev pub SimplerKeepsDepth : Type 0
SimplerKeepsDepth = (r : StreamType) (a b : StateTree) (n : ℕ) → Simpler r a b → All (λ l. n ≤ l.depth) (laters_of a) → All (λ l. n ≤ l.depth) (laters_of b)

-- what stands for a program after p still does after any number of rewritings
abbrev pub SimplerStandsFor : Type 0
SimplerStandsFor =
    (c : CoreProgram) (n : ℕ) (p : StreamPrefix) (a b : StateTree) → All (IsTypedBody c.funs) c.funs → IsPrefix (input_type c) p → StandsFor c n p a
    → SimplerBy (output_left c p) a b → StandsFor c n p b

-- the machine with another state
abbrev pub with_state : PlainState → MachineView → MachineView
with_state s m = record { program = m.program; budget = m.budget; state = s; place = m.place; events = m.events; spent = m.spent }

-- so does a machine that stands after a word, with the simpler state in place of its own
abbrev pub SimplerStandsAfter : Type 0
SimplerStandsAfter =
    (m : MachineView) (word : List StreamEvent) (b : StateTree) (h : StandsAfter m word) → All (IsTypedBody m.program.funs) m.program.funs
    → SimplerBy (output_left m.program (input_of m.program word)) h.marked b
    → StandsAfter (with_state (without_marks b) m) word

-- a settled typed state is after a step just what it was, where nothing comes on its free names
abbrev pub StateStays : Type 0
StateStays =
    (funs : List CoreBody) (counts : ℕ → Bool) (c : Context) (s : StateTree) (r : StreamType) (env : Environment) → HasStateType funs counts c s r
    → IsTrue (is_settled s r) → IsEmptyOn (free_in_state s) (types_of c) env
    → rest_of (fun_at funs) s (types_of c) r env ≡ s
