-- What a run answers, and what stands behind it.
use Rattle.std.specs.Prelude.{◌≡◌, ◌⊎◌, ℕ, ◌+◌, ◌^◌, ◌≤◌, List, [], ◌∷◌, ◌++◌, Option, Some, length}
use Rattle.port.specs.declared.link.Move.{Move}
use Rattle.port.specs.Moves.{bytes_read, bytes_written}
use Rattle.event_word.specs.StreamEvent.{StreamEvent}
use Rattle.event_frame.specs.declared.version.Version.{Version}
use Rattle.event_frame.specs.Frames.{header, frames, AllFit}
use Rattle.delta_end.specs.declared.end.End.{End}
use Rattle.delta_end.specs.declared.end.End.TheVariants.{Usage, Refused, FileFailed}
use Rattle.delta_loop.specs.Meaning.{Meaning}
use Rattle.delta_loop.specs.Output.{accepted, output}
use Rattle.delta_loop.specs.Prompt.{EndsReading, has_ended}
use Rattle.delta_loop.specs.Return.{MayEnd, IsWithinLimit}

-- where the old log is told, it was added to, and this holds of the moves that were added
abbrev pub Adds : Option (List Move) → Option (List Move) → (List Move → Type 0) → Type 0
Adds old new Q = (told : List Move) → old ≡ Some told → (moves : List Move) × (new ≡ Some (told ++ moves)) × Q moves

-- what holds of a run's moves at its end; there are none where no program was run
abbrev pub AtReturn : Meaning → End → List Move → Type 0
AtReturn P Usage moves = moves ≡ []
AtReturn P (Refused why) moves = moves ≡ []
AtReturn P FileFailed moves = moves ≡ []
AtReturn P end moves = MayEnd P (bytes_read moves) (has_ended moves) (bytes_written moves) end

-- nothing was read after the end of the input; at most 2^40 bytes were read, and one more only where there are too many
pub record ReadsWell (end : End) (moves : List Move) : Type 0 where
  pub last : EndsReading moves
  pub limit : IsWithinLimit end (length (bytes_read moves))

-- the whole input is a header and, in its version, the frames of a word that the program accepts
pub record IsGood (P : Meaning) (v : Version) (all : List ℕ) (word : List StreamEvent) : Type 0 where
  pub input : all ≡ header v ++ frames v word
  pub fit : AllFit v word
  pub short : length all ≤ 2 ^ 40
  pub admitted : accepted P word ≡ word

-- neither before any event nor at one of the word does the program make more calls than it may, or one at a level above 1,000
pub record IsCheap (P : Meaning) (word : List StreamEvent) : Type 0 where
  pub start_calls : P.calls [] ≤ P.budget
  pub start_level : P.level [] ≤ 1000
  pub calls : (before after : List StreamEvent) (x : StreamEvent) → word ≡ before ++ x ∷ after → P.calls (before ++ x ∷ []) ≤ P.calls before + P.budget
  pub level : (before after : List StreamEvent) (x : StreamEvent) → word ≡ before ++ x ∷ after → P.level (before ++ x ∷ []) ≤ 1000

-- the output of the word was written, and nothing else
abbrev pub WroteAll : Meaning → List StreamEvent → List Move → Type 0
WroteAll P word moves = bytes_written moves ≡ output P word

-- over an input that is good in whole, with no event that stops the program, the run is done or open with all of the output written, or memory ran out
abbrev pub IsComplete : Meaning → Option (List ℕ) → Option (List Move) → Option (List Move) → ℕ → Type 0
IsComplete P left old new status =
    (v : Version) (all : List ℕ) (word : List StreamEvent) → left ≡ Some all → IsGood P v all word → IsCheap P word
    → (status ≡ 8) ⊎ (((status ≡ 0) ⊎ (status ≡ 6)) × Adds old new (WroteAll P word))
