-- What the command that feeds tables to the program of a text does, by how it ended.
use Rattle.std.specs.Prelude.{◌≡◌, ◌⊎◌, ℕ, List, [], Some, None, ⊤}
use Rattle.stream_type.specs.StreamType.{StreamType}
use Rattle.bunch.specs.BunchTree.{as_type}
use Rattle.event_word.specs.StreamEvent.{StreamEvent}
use Rattle.core_term.specs.CoreTerm.{CoreProgram}
use Rattle.delta_tree.specs.SyntaxTree.{ProgramTree}
use Rattle.delta_meaning.specs.SourceBody.{main_of}
use Rattle.delta_meaning.specs.SourceMeaning.{mean, calls_of, level_of}
use Rattle.table_feed.specs.declared.fault.FeedFault.{FeedFault}
use Rattle.delta_end.specs.declared.objection.Objection.{Objection}
use Rattle.delta_end.specs.declared.objection.Objection.TheVariants.{Derivation, Bound, Table, State}
use Rattle.delta_end.specs.declared.end.End.{End}
use Rattle.delta_end.specs.declared.end.End.TheVariants.{Done, Usage, Refused, Input, Budget, Deep, Open, FileFailed, ReadFailed, WriteFailed, Memory, Long, Objected}
use Rattle.checked_program.specs.Acceptance.{IsAcceptedAs, IsRefusedAs}
use Rattle.delta_loop.specs.Return.{Begins}
use Rattle.commands.specs.Tables.{Takes, IsWrong, told_as, given_text, tables_word, IsCostlyAt, IsDeepAt}

-- the type of a program's input
abbrev pub input_of : ProgramTree → StreamType
input_of p = as_type (main_of p).params

-- the text is accepted, its program takes these tables, and this is the text of what it gives on the whole of them, in
-- one look
pub record IsFed (text : List ℕ) (tables : List (List ℕ)) (out : List ℕ) : Type 0 where
  pub program : ProgramTree
  pub core : CoreProgram
  pub accepted : IsAcceptedAs text program core
  pub takes : Takes (input_of program) (main_of program).result tables
  pub is : out ≡ given_text (input_of program) (mean program) tables

-- the text is accepted, and its program doesn't take these tables, for what is told
pub record IsUnfed (text : List ℕ) (tables : List (List ℕ)) (what : Objection) : Type 0 where
  pub program : ProgramTree
  pub core : CoreProgram
  pub accepted : IsAcceptedAs text program core
  pub why : FeedFault
  pub wrong : IsWrong (input_of program) (main_of program).result tables why
  pub told : Objected what ≡ told_as why

-- the program of the text takes these tables, and is stopped at an event of them, as the schedule orders them
pub record IsStopped (Q : ProgramTree → List StreamEvent → Type 0) (text : List ℕ) (schedule : List ℕ) (tables : List (List ℕ)) : Type 0 where
  pub program : ProgramTree
  pub core : CoreProgram
  pub accepted : IsAcceptedAs text program core
  pub takes : Takes (input_of program) (main_of program).result tables
  pub stops : Q program (tables_word (input_of program) schedule tables)

-- it makes more calls at this event than the budget, or a call at a level above 1,000
abbrev pub Spends : ℕ → ℕ → ProgramTree → List StreamEvent → Type 0
Spends budget at p word = IsCostlyAt (input_of p) (calls_of p) budget word at

abbrev pub Sinks : ℕ → ProgramTree → List StreamEvent → Type 0
Sinks at p word = IsDeepAt (input_of p) (level_of p) 1000 word at

-- at no event of the tables, in that order, is the program of the text stopped
pub record NeverStops (text schedule : List ℕ) (tables : List (List ℕ)) (budget : ℕ) : Type 0 where
  pub cheap : (at : ℕ) → IsStopped (Spends budget at) text schedule tables → ⊥
  pub flat : (at : ℕ) → IsStopped (Sinks at) text schedule tables → ⊥

-- a front of what is to be written was written
pub record TellsFront (text : List ℕ) (tables : List (List ℕ)) (written : List ℕ) : Type 0 where
  pub all : List ℕ
  pub fed : IsFed text tables all
  pub front : Begins written all

-- these bytes were written for the text and the tables, with so many calls at each event, and then the command ended so
abbrev pub Tells : (text schedule : List ℕ) (tables : List (List ℕ)) (budget : ℕ) (written : List ℕ) → End → Type 0
Tells text schedule tables budget written Done = IsFed text tables written
Tells text schedule tables budget written (Refused None) = ⊥
Tells text schedule tables budget written (Refused (Some why)) = IsRefusedAs text why × (written ≡ [])
Tells text schedule tables budget written (Objected (Table name file row)) = IsUnfed text tables (Table name file row) × (written ≡ [])
Tells text schedule tables budget written (Objected (Derivation name at)) = ⊥
Tells text schedule tables budget written (Objected (Bound name at)) = ⊥
Tells text schedule tables budget written (Objected (State name at)) = ⊥
Tells text schedule tables budget written (Budget at) = IsStopped (Spends budget at) text schedule tables × (written ≡ [])
Tells text schedule tables budget written (Deep at) = IsStopped (Sinks at) text schedule tables × (written ≡ [])
Tells text schedule tables budget written FileFailed = written ≡ []
Tells text schedule tables budget written WriteFailed = TellsFront text tables written
Tells text schedule tables budget written Memory = (written ≡ []) ⊎ TellsFront text tables written
Tells text schedule tables budget written Usage = ⊥
Tells text schedule tables budget written (Input why) = ⊥
Tells text schedule tables budget written Open = ⊥
Tells text schedule tables budget written ReadFailed = ⊥
Tells text schedule tables budget written Long = ⊥

-- an end to which the command can come
abbrev pub IsOfFeed : End → Type 0
IsOfFeed Done = ⊤
IsOfFeed (Refused why) = ⊤
IsOfFeed (Objected (Table name file row)) = ⊤
IsOfFeed (Budget at) = ⊤
IsOfFeed (Deep at) = ⊤
IsOfFeed FileFailed = ⊤
IsOfFeed WriteFailed = ⊤
IsOfFeed Memory = ⊤
IsOfFeed end = ⊥
