-- What a program makes of tables, by the types of its input and its output and by what it gives on an input.
--
-- The bytes of the tables stand in a list, in the order of the command line.
use Rattle.std.specs.Prelude.{◌≡◌, ◌⊎◌, ◌<◌, ◌+◌, ℕ, List, [], ◌∷◌, ◌++◌, length, map, take, Option, Some, None}
use Rattle.stream_type.specs.StreamType.{StreamType}
use Rattle.stream_prefix.specs.StreamPrefix.{StreamPrefix}
use Rattle.event_word.specs.StreamEvent.{StreamEvent}
use Rattle.event_word.specs.Word.{pre}
use Rattle.event_word.specs.Canon.{canon}
use Rattle.hist_value.specs.Wholes.{full}
use Rattle.core_term.specs.Parts.{par_left, par_right}
use Rattle.table_feed.specs.declared.fault.FeedFault.{FeedFault}
use Rattle.table_feed.specs.declared.fault.FeedFault.TheVariants as fault
use Rattle.table_feed.specs.RowType.{HasShape, columns_of}
use Rattle.table_feed.specs.Tables.{table_of, table_value, table_fault, or_else}
use Rattle.table_feed.specs.Rows.{text_of}
use Rattle.table_feed.specs.Mixing.{beside, mixed_word}
use Rattle.commands.specs.Stopping.{IsMetAt}
use Rattle.delta_end.specs.declared.objection.TableName.TheVariants as table
use Rattle.delta_end.specs.declared.objection.Objection.TheVariants.{Table}
use Rattle.delta_end.specs.declared.end.End.{End}
use Rattle.delta_end.specs.declared.end.End.TheVariants.{Memory, Objected}

-- the whole prefix of a table of a type
abbrev pub whole_table : StreamType → List ℕ → StreamPrefix
whole_table s bytes = full s (table_value (table_of bytes))

-- the whole prefixes of tables, each of its part of a type
abbrev pub whole_tables : StreamType → List (List ℕ) → List StreamPrefix
whole_tables s [] = []
whole_tables s (bytes ∷ []) = whole_table s bytes ∷ []
whole_tables s (bytes ∷ next ∷ more) = whole_table (par_left s) bytes ∷ whole_tables (par_right s) (next ∷ more)

-- what is wrong with tables, from the one of a number on: what is wrong with the lowest that isn't good
abbrev pub tables_fault : ℕ → StreamType → List (List ℕ) → Option FeedFault
tables_fault file s [] = None
tables_fault file s (bytes ∷ []) = table_fault (columns_of s) file bytes
tables_fault file s (bytes ∷ next ∷ more) = or_else (table_fault (columns_of (par_left s)) file bytes) (tables_fault (file + 1) (par_right s) (next ∷ more))

-- a program of these types takes the tables: so many, and nothing is wrong with them
pub record Takes (input output : StreamType) (tables : List (List ℕ)) : Type 0 where
  pub shape : HasShape input output (length tables)
  pub good : tables_fault 0 input tables ≡ None

-- it doesn't, and this is why: its types are others, or else what is wrong with the lowest table that isn't good
abbrev pub IsWrong : (input output : StreamType) → List (List ℕ) → FeedFault → Type 0
IsWrong input output tables fault.Memory = ⊥
IsWrong input output tables fault.Shape = HasShape input output (length tables) → ⊥
IsWrong input output tables why = HasShape input output (length tables) × (tables_fault 0 input tables ≡ Some why)

-- how it is told that tables are wrong, by the numbers of the file and of the row, and 0 for what there isn't
abbrev pub told_as : FeedFault → End
told_as fault.Memory = Memory
told_as fault.Shape = Objected (Table table.Shape 0 0)
told_as (fault.Long file) = Objected (Table table.Long file 0)
told_as (fault.Ragged file row) = Objected (Table table.Ragged file row)
told_as (fault.BadNumber file row column) = Objected (Table table.BadNumber file row)

-- what a program gives on the whole of the tables, as text. The order of their events doesn't occur in it
abbrev pub given_text : StreamType → (StreamPrefix → StreamPrefix) → List (List ℕ) → List ℕ
given_text input gives tables = text_of (gives (beside (whole_tables input tables)))

-- the events of the tables, as a schedule orders them
abbrev pub tables_word : StreamType → List ℕ → List (List ℕ) → List StreamEvent
tables_word input schedule tables = mixed_word schedule (map canon (whole_tables input tables))

-- before any event of a word, which is told as at 0, or at this event alone a program makes more calls than these
abbrev pub IsCostlyAt : StreamType → (StreamPrefix → ℕ) → ℕ → List StreamEvent → ℕ → Type 0
IsCostlyAt input calls most word at =
    ((at ≡ 0) × (most < calls (pre input [])))
    ⊎ IsMetAt (λ before x. calls (pre input before) + most < calls (pre input (before ++ x ∷ []))) word at

-- before any event, or with this event, it makes a call at a level above this one
abbrev pub IsDeepAt : StreamType → (StreamPrefix → ℕ) → ℕ → List StreamEvent → ℕ → Type 0
IsDeepAt input level most word at =
    ((at ≡ 0) × (most < level (pre input []))) ⊎ IsMetAt (λ before x. most < level (pre input (before ++ x ∷ []))) word at

-- the tables that files of these names hold: of each its first 1,048,577 bytes, more than a table may have
abbrev pub tables_in : (List ℕ → List ℕ) → List (List ℕ) → List (List ℕ)
tables_in files names = map (λ name. take 1048577 (files name)) names

-- where the shelf tells, this holds of the tables in the named files
abbrev pub OfTables : Option (List ℕ → List ℕ) → List (List ℕ) → (List (List ℕ) → Type 0) → Type 0
OfTables holds names Q = (files : List ℕ → List ℕ) → holds ≡ Some files → Q (tables_in files names)
