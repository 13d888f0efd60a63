-- What the laws of other numbers say: a program moves numbers about, and looks at them in historical expressions
-- alone. So where each that a run evaluates on the way has, at the other numbers, the value that it had with these in
-- it, the run goes the same way.
--
-- Choices that are not obvious:
-- - Nothing is asked of types: the laws hold of any term and any state, over any functions.
-- - A literal stays as it is, so an expression that is a literal alone goes along only where f leaves its number.
use Rattle.std.specs.Prelude.{ℕ, ℤ, ◌≡◌, true, map}
use Rattle.hist_value.specs.HistExpr.{HistExpr}
use Rattle.stream_type.specs.StreamType.{StreamType}
use Rattle.stream_prefix.specs.StreamPrefix.{StreamPrefix}
use Rattle.event_word.specs.StreamEvent.{StreamEvent}
use Rattle.event_word.specs.Admits.{Admits}
use Rattle.event_word.specs.Word.{one_of}
use Rattle.event_word.specs.Canon.{canon}
use Rattle.core_term.specs.CoreTerm.{CoreBody, CoreProgram}
use Rattle.core_term.specs.Environment.{Environment, NameTypes}
use Rattle.core_term.specs.Meaning.{Past, program_run}
use Rattle.delta_state.specs.StateTree.{StateTree}
use Rattle.delta_state.specs.StateMeaning.{run_state}
use Rattle.delta_state.specs.Rest.{rest_of}
use Rattle.state_rewriting.specs.Rewriting.{SimplerBy}
use Rattle.other_numbers.specs.Numbers.{exchanged, exchanged_environment, exchanged_run}
use Rattle.other_numbers.specs.EventNumbers.{exchanged_event}
use Rattle.other_numbers.specs.StateNumbers.{exchanged_state}
use Rattle.other_numbers.specs.Asked.{program_asked}
use Rattle.other_numbers.specs.StateAsked.{asked_of}
use Rattle.other_numbers.specs.Commutes.{Commutes, AllCommute, exchanged_asked, only_moves}

-- on what comes of these types, all that the state asks commutes with f
abbrev pub GoesAlong : (ℤ → ℤ) → (ℕ → CoreBody) → StateTree → NameTypes → StreamType → Environment → Type 0
GoesAlong f funs s types r env = AllCommute f (asked_of funs s types r env)

-- then on the other numbers it gives the same with these in it, and makes as many calls at the same level
abbrev pub RunsGoAlong : Type 0
RunsGoAlong =
    (f : ℤ → ℤ) (funs : ℕ → CoreBody) (s : StateTree) (types : NameTypes) (r : StreamType) (env : Environment) → GoesAlong f funs s types r env
    → run_state funs (exchanged_state f s) types r (exchanged_environment f env) ≡ exchanged_run f (run_state funs s types r env)

-- it leaves the same state with the other numbers in it
abbrev pub RestsGoAlong : Type 0
RestsGoAlong =
    (f : ℤ → ℤ) (funs : ℕ → CoreBody) (s : StateTree) (types : NameTypes) (r : StreamType) (env : Environment) → GoesAlong f funs s types r env
    → rest_of funs (exchanged_state f s) types r (exchanged_environment f env) ≡ exchanged_state f (rest_of funs s types r env)

-- and it asks the same, at the other numbers
abbrev pub AsksGoAlong : Type 0
AsksGoAlong =
    (f : ℤ → ℤ) (funs : ℕ → CoreBody) (s : StateTree) (types : NameTypes) (r : StreamType) (env : Environment) → GoesAlong f funs s types r env
    → asked_of funs (exchanged_state f s) types r (exchanged_environment f env) ≡ map (exchanged_asked f) (asked_of funs s types r env)

-- what is made simpler is so with any other numbers: no rewriting looks at a number
abbrev pub SimplerGoesAlong : Type 0
SimplerGoesAlong = (f : ℤ → ℤ) (r : StreamType) (a b : StateTree) → SimplerBy r a b → SimplerBy r (exchanged_state f a) (exchanged_state f b)

-- a program's run on other numbers is its run with these in it, where all that it asks commutes with f
abbrev pub ProgramsGoAlong : Type 0
ProgramsGoAlong =
    (f : ℤ → ℤ) (c : CoreProgram) (p : StreamPrefix) → AllCommute f (program_asked c p)
    → program_run c (exchanged f p) ≡ exchanged_run f (program_run c p)

-- an expression that only moves numbers about commutes with every f
abbrev pub MovesCommute : Type 0
MovesCommute = (f : ℤ → ℤ) (m : HistExpr) (past : Past) → only_moves m ≡ true → Commutes f (record { expr = m; past = past })

-- an event with the other numbers is, as a prefix, what it was with these in it
abbrev pub EventsGoAlong : Type 0
EventsGoAlong = (f : ℤ → ℤ) (s : StreamType) (x : StreamEvent) → one_of (exchanged_event f x) s ≡ exchanged f (one_of x s)

-- and a type that admits an event admits it with any other number
abbrev pub AdmittedGoAlong : Type 0
AdmittedGoAlong = (f : ℤ → ℤ) (s : StreamType) (x : StreamEvent) → Admits s x → Admits s (exchanged_event f x)

-- the canonical word of a prefix with the other numbers is its word with these in it
abbrev pub CanonGoesAlong : Type 0
CanonGoesAlong = (f : ℤ → ℤ) (p : StreamPrefix) → canon (exchanged f p) ≡ map (exchanged_event f) (canon p)

-- numbers that are exchanged twice are exchanged at once
abbrev pub NumbersTwice : Type 0
NumbersTwice = (f g : ℤ → ℤ) (s : StateTree) → exchanged_state f (exchanged_state g s) ≡ exchanged_state (λ n. f (g n)) s

-- and where each is put in for itself the state stays
abbrev pub NumbersStay : Type 0
NumbersStay = (s : StateTree) → exchanged_state (λ n. n) s ≡ s
