-- The laws of tables that are fed: what is told of a text and of tables is one, and no schedule occurs in it.
use Rattle.std.specs.Prelude.{◌≡◌, ℕ, List}
use Rattle.event_word.specs.Word.{IsWord, pre}
use Rattle.delta_meaning.specs.SourceMeaning.{mean}
use Rattle.delta_end.specs.declared.objection.Objection.{Objection}
use Rattle.table_feed.specs.Rows.{text_of}
use Rattle.commands.specs.Tables.{tables_word}
use Rattle.commands.specs.Feeding.{input_of, IsFed, IsUnfed}

-- the text that is written for a text and for tables is one, whatever the order of their events
abbrev pub FedIsOne : Type 0
FedIsOne = (text : List ℕ) (tables : List (List ℕ)) (one other : List ℕ) → IsFed text tables one → IsFed text tables other → one ≡ other

-- tables are refused for one cause at most, at one place
abbrev pub UnfedIsOne : Type 0
UnfedIsOne = (text : List ℕ) (tables : List (List ℕ)) (one other : Objection) → IsUnfed text tables one → IsUnfed text tables other → one ≡ other

-- tables that are fed aren't refused
abbrev pub FedIsNotRefused : Type 0
FedIsNotRefused = (text : List ℕ) (tables : List (List ℕ)) (out : List ℕ) (what : Objection) → IsFed text tables out → IsUnfed text tables what → ⊥

-- in each order the events are a word of the program's input, and what the program gives on it is what is written
abbrev pub EachOrderGivesIt : Type 0
EachOrderGivesIt =
    (text : List ℕ) (tables : List (List ℕ)) (out : List ℕ) (fed : IsFed text tables out) (schedule : List ℕ)
    → IsWord (input_of fed.program) (tables_word (input_of fed.program) schedule tables)
    × (out ≡ text_of (mean fed.program (pre (input_of fed.program) (tables_word (input_of fed.program) schedule tables))))
