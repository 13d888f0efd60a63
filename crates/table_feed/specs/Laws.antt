-- The laws of tables and of words that are mixed.
use Rattle.std.specs.Prelude.{ℕ, ℤ, ◌≡◌, ◌≤◌, List, length, map, All, None, FitsSigned}
use Rattle.std.specs.Int.{w64}
use Rattle.stream_type.specs.StreamType.{StreamType}
use Rattle.stream_prefix.specs.StreamPrefix.{StreamPrefix}
use Rattle.event_word.specs.StreamEvent.{StreamEvent}
use Rattle.event_word.specs.Word.{IsWord, pre}
use Rattle.event_word.specs.Canon.{canon}
use Rattle.hist_value.specs.HistType.{past}
use Rattle.hist_value.specs.HistValue.{HasType}
use Rattle.table_feed.specs.RowType.{row_type}
use Rattle.table_feed.specs.Tables.{table_of, table_value, table_fault}
use Rattle.table_feed.specs.Rows.{rows_text}
use Rattle.table_feed.specs.Mixing.{AreWords, ArePrefixes, pre_beside, beside, next_of, rounds, longest, mixed_word}

-- a good table is a value of the past of its type
abbrev pub TableIsValue : Type 0
TableIsValue =
    (columns file : ℕ) (bytes : List ℕ) → 1 ≤ columns → table_fault columns file bytes ≡ None → HasType (past (row_type columns)) (table_value (table_of bytes))

-- in whatever order words are mixed, the mixed word is a word
abbrev pub MixedIsWord : Type 0
MixedIsWord = (schedule : List ℕ) (s : StreamType) (ws : List (List StreamEvent)) → AreWords s ws → IsWord s (mixed_word schedule ws)

-- and stands for their prefixes side by side, in which no schedule occurs
abbrev pub MixedMeans : Type 0
MixedMeans = (schedule : List ℕ) (s : StreamType) (ws : List (List StreamEvent)) → AreWords s ws → pre s (mixed_word schedule ws) ≡ pre_beside s ws

-- so words that are mixed by two schedules stand for one prefix
abbrev pub ScheduleDoesNotMatter : Type 0
ScheduleDoesNotMatter =
    (one other : List ℕ) (s : StreamType) (ws : List (List StreamEvent)) → AreWords s ws → pre s (mixed_word one ws) ≡ pre s (mixed_word other ws)

-- the canonical words of prefixes side by side are words of their types
abbrev pub CanonsAreWords : Type 0
CanonsAreWords = (s : StreamType) (ps : List StreamPrefix) → ArePrefixes s ps → AreWords s (map canon ps)

-- and, in whatever order they are mixed, stand for these prefixes side by side
abbrev pub CanonsAreMixed : Type 0
CanonsAreMixed = (schedule : List ℕ) (s : StreamType) (ps : List StreamPrefix) → ArePrefixes s ps → pre s (mixed_word schedule (map canon ps)) ≡ beside ps

-- after the rounds no word that the schedule names has an event left
abbrev pub NamedAreUsedUp : Type 0
NamedAreUsedUp = (schedule : List ℕ) (ws : List (List StreamEvent)) → All (λ i. next_of i (rounds (longest ws) schedule ws).left ≡ None) schedule

-- rows of equally many numbers of 64 bits, one or more
abbrev pub AreRows : ℕ → List (List ℤ) → Type 0
AreRows columns rows = (1 ≤ columns) × All (λ row. (length row ≡ columns) × All (FitsSigned w64) row) rows

-- what is written of rows is a good table, where it isn't too long
abbrev pub TextIsGood : Type 0
TextIsGood =
    (columns file : ℕ) (rows : List (List ℤ)) → AreRows columns rows → length (rows_text rows) ≤ 1048576 → table_fault columns file (rows_text rows) ≡ None

-- and it is read as these rows
abbrev pub TextIsRead : Type 0
TextIsRead = (columns : ℕ) (rows : List (List ℤ)) → AreRows columns rows → table_of (rows_text rows) ≡ rows
