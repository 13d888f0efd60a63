-- What private clauses cite: what is known of tables that were read, and of a core that takes them.
--
-- The numbers of files count from 0, and a call reads those from one of them on.
use Rattle.std.specs.Prelude.{◌≡◌, ◌⊎◌, ℕ, List, length, map, Option, Some, None, ⊤}
use Rattle.stream_type.specs.StreamType.{StreamType}
use Rattle.event_word.specs.StreamEvent.{StreamEvent}
use Rattle.event_word.specs.Canon.{canon}
use Rattle.core_term.specs.CoreTerm.{CoreProgram}
use Rattle.core_term.specs.Meaning.{mean, calls_of, level_of}
use Rattle.delta_state.specs.Stands.{input_type}
use Rattle.table_feed.specs.declared.fault.FeedFault.{FeedFault}
use Rattle.delta_end.specs.declared.objection.Objection.TheVariants.{Table}
use Rattle.delta_end.specs.declared.end.End.{End}
use Rattle.delta_end.specs.declared.end.End.TheVariants.{Refused, Budget, Deep, FileFailed, Memory, Objected}
use Rattle.commands.specs.Tables.{Takes, IsWrong, told_as, given_text, tables_fault, tables_word, whole_tables, IsCostlyAt, IsDeepAt, OfTables, tables_in}

-- the tables are those in the named files, where the shelf tells
abbrev pub AreHeld : Option (List ℕ → List ℕ) → List (List ℕ) → List (List ℕ) → Type 0
AreHeld holds names tables = (files : List ℕ → List ℕ) → holds ≡ Some files → tables ≡ tables_in files names

-- good tables of the parts of a type were read, from the one of a number on, and these are their words
pub record AreRead (holds : Option (List ℕ → List ℕ)) (names : List (List ℕ)) (s : StreamType) (file : ℕ) (words : List (List StreamEvent)) : Type 0 where
  pub tables : List (List ℕ)
  pub held : AreHeld holds names tables
  pub count : length tables ≡ length names
  pub good : tables_fault file s tables ≡ None
  pub are : words ≡ map canon (whole_tables s tables)

-- an end without tables: memory ran out, a file failed, or this is wrong with them first
abbrev pub EndsReading : Option (List ℕ → List ℕ) → List (List ℕ) → (List (List ℕ) → Option FeedFault) → End → Type 0
EndsReading holds names fault end =
    (end ≡ Memory) ⊎ ((end ≡ FileFailed) ⊎ ((why : FeedFault) × OfTables holds names (λ tables. fault tables ≡ Some why) × (end ≡ told_as why)))

-- an end of a run on a word: memory ran out, or it was stopped
abbrev pub EndsRunning : CoreProgram → ℕ → List StreamEvent → End → Type 0
EndsRunning c budget word end =
    (end ≡ Memory) ⊎ (((at : ℕ) × (end ≡ Budget at) × IsCostlyAt (input_type c) (calls_of c) budget word at)
    ⊎ ((at : ℕ) × (end ≡ Deep at) × IsDeepAt (input_type c) (level_of c) 1000 word at))

-- a core that takes tables, and the text of what it gives on the whole of them
pub record GivesText (c : CoreProgram) (tables : List (List ℕ)) (out : List ℕ) : Type 0 where
  pub takes : Takes (input_type c) c.main.result tables
  pub is : out ≡ given_text (input_type c) (mean c) tables

-- an end before anything was written
abbrev pub EndsUnwritten : CoreProgram → List ℕ → List (List ℕ) → ℕ → End → Type 0
EndsUnwritten c schedule tables budget end =
    (end ≡ Memory) ⊎ ((end ≡ FileFailed)
    ⊎ (((why : FeedFault) × IsWrong (input_type c) c.main.result tables why × (end ≡ told_as why))
    ⊎ (Takes (input_type c) c.main.result tables × EndsRunning c budget (tables_word (input_type c) schedule tables) end)))

-- so the command can end before it writes
abbrev pub IsUnwritten : End → Type 0
IsUnwritten (Refused why) = ⊤
IsUnwritten (Objected (Table name file row)) = ⊤
IsUnwritten (Budget at) = ⊤
IsUnwritten (Deep at) = ⊤
IsUnwritten FileFailed = ⊤
IsUnwritten Memory = ⊤
IsUnwritten end = ⊥
