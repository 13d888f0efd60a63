-- Which texts are accepted, and for what each other text is refused.
use Rattle.std.specs.Prelude.{◌≡◌, ◌⊎◌, ◌≤◌, ◌<◌, ⊤, ℕ, List, Some, Ok, Err, slice_get}
use Rattle.stream_type.specs.StreamType.{reach_of}
use Rattle.hist_value.specs.Refusal.{HistRefusal}
use Rattle.event_frame.specs.declared.version.Version.{Version}
use Rattle.event_frame.specs.Frames.{longest}
use Rattle.delta_tree.specs.SyntaxTree.{ProgramTree}
use Rattle.core_term.specs.CoreTerm.{CoreProgram}
use Rattle.core_term.specs.TypeFaults.{Cause, first_fault}
use Rattle.delta_meaning.specs.Faults.{Fault}
use Rattle.delta_meaning.specs.NodePlaces.{program_places}
use Rattle.delta_meaning.specs.Elaborated.{elaborate}
use Rattle.delta_elab.specs.Accepted.{IsAccepted}
use Rattle.program_refusal.specs.declared.refusal.Refusal.{Refusal}
use Rattle.program_refusal.specs.declared.refusal.RefusalName.TheVariants.{WideOutput}
use Rattle.program_text.specs.declared.fault.TextFault.{TextFault}
use Rattle.program_text.specs.declared.fault.TextFault.TheVariants.{Memory, Refused}
use Rattle.program_text.specs.ProgramText.{IsTextOf, IsRefusedFor}
use Rattle.checked_program.specs.Naming.{refusal, refusal_of, name_of_rule}

-- the text is that of a program, which elaborates to this core, and the core is typed
pub record IsAcceptedAs (text : List ℕ) (p : ProgramTree) (c : CoreProgram) : Type 0 where
  pub is_its : IsTextOf text p
  pub accepted : IsAccepted p c

-- the text is that of a program with whose names and types this is wrong first
pub record IsMisnamed (text : List ℕ) (why : Refusal) : Type 0 where
  pub program : ProgramTree
  pub is_its : IsTextOf text program
  pub fault : Fault
  pub found : elaborate program ≡ Err fault
  pub is : why ≡ refusal_of fault

-- the text is that of a program, which elaborates to this core
pub record IsElaboratedAs (text : List ℕ) (c : CoreProgram) : Type 0 where
  pub program : ProgramTree
  pub is_its : IsTextOf text program
  pub elaborated : elaborate program ≡ Ok c

-- the text has no core, and this is what is wrong first: it is no program's text, or something is wrong with the names
-- and types of its program
abbrev pub IsUnelaborated : List ℕ → Refusal → Type 0
IsUnelaborated text why = IsRefusedFor text why ⊎ IsMisnamed text why

-- a program elaborates, and this is the first rule of types that a node of its core breaks, with the place of that node
pub record Breaks (p : ProgramTree) (rule : Cause HistRefusal) (at : ℕ) : Type 0 where
  pub core : CoreProgram
  pub elaborated : elaborate p ≡ Ok core
  pub node : ℕ
  pub first : first_fault core ≡ Some (node, rule)
  pub place : slice_get (program_places p) node ≡ Some at

-- the text is that of a program that breaks this rule first
pub record IsMistyped (text : List ℕ) (why : Refusal) : Type 0 where
  pub program : ProgramTree
  pub is_its : IsTextOf text program
  pub rule : Cause HistRefusal
  pub breaks : Breaks program rule why.at
  pub is : why.name ≡ name_of_rule rule

-- the text isn't accepted, and this is what is wrong first: it is no program's text, or something is wrong with the
-- names and types of its program, or that breaks a rule of types
abbrev pub IsRefusedAs : List ℕ → Refusal → Type 0
IsRefusedAs text why = IsRefusedFor text why ⊎ (IsMisnamed text why ⊎ IsMistyped text why)

-- the text is accepted, and frames of the version have too few steps for its output; it is refused at the word `main`
pub record IsTooWide (text : List ℕ) (v : Version) (why : Refusal) : Type 0 where
  pub program : ProgramTree
  pub core : CoreProgram
  pub accepted : IsAcceptedAs text program core
  pub wide : longest v < reach_of core.main.result
  pub is : why ≡ refusal WideOutput program.main.at

-- the text is accepted, and frames of the version are long enough for its output
pub record IsWritable (text : List ℕ) (v : Version) (p : ProgramTree) (c : CoreProgram) : Type 0 where
  pub accepted : IsAcceptedAs text p c
  pub narrow : reach_of c.main.result ≤ longest v

-- it isn't, and this is what is wrong first
abbrev pub IsRefusedToWrite : List ℕ → Version → Refusal → Type 0
IsRefusedToWrite text v why = IsRefusedAs text why ⊎ IsTooWide text v why

-- a text is refused for its cause; want of memory has none
abbrev pub IsFaultOf : (Refusal → Type 0) → TextFault → Type 0
IsFaultOf refused Memory = ⊤
IsFaultOf refused (Refused why) = refused why
