-- What is given on the whole of an input, and what that is event by event.
use Rattle.std.specs.Prelude.{◌<◌, ◌+◌, ℕ, List, [], ◌∷◌, ◌++◌}
use Rattle.stream_type.specs.StreamType.{StreamType}
use Rattle.stream_prefix.specs.StreamPrefix.{StreamPrefix, IsPrefix, IsPart, der}
use Rattle.stream_prefix.specs.Increment.{increment}
use Rattle.event_word.specs.StreamEvent.{StreamEvent}
use Rattle.event_word.specs.Word.{pre, after_word}

-- the types of an input and of an output, and, on the whole of an input: what is given, the calls that are made,
-- and the greatest level of one
pub record OneShot : Type 0 where
  pub input : StreamType
  pub result : StreamType
  pub gives : StreamPrefix → StreamPrefix
  pub calls : StreamPrefix → ℕ
  pub level : StreamPrefix → ℕ

-- on each prefix of its input's type it gives one of its output's, and on more input no less
pub record Grows (P : OneShot) : Type 0 where
  pub typed : (p : StreamPrefix) → IsPrefix P.input p → IsPrefix P.result (P.gives p)
  pub parts : (p q : StreamPrefix) → IsPrefix P.input p → IsPart P.input p q → IsPart P.result (P.gives p) (P.gives q)

-- what it gives on a word, the calls that it makes there, and the greatest level of one
abbrev pub said : OneShot → List StreamEvent → StreamPrefix
said P word = P.gives (pre P.input word)

abbrev pub calls_on : OneShot → List StreamEvent → ℕ
calls_on P word = P.calls (pre P.input word)

abbrev pub level_on : OneShot → List StreamEvent → ℕ
level_on P word = P.level (pre P.input word)

-- what it says to an event after a word: what it gives then beyond what it gave
abbrev pub said_to : OneShot → List StreamEvent → StreamEvent → StreamPrefix
said_to P word x = increment (said P word) (said P (word ++ x ∷ []))

-- the event alone makes more calls than these
abbrev pub IsCostly : OneShot → ℕ → List StreamEvent → StreamEvent → Type 0
IsCostly P calls word x = calls_on P word + calls < calls_on P (word ++ x ∷ [])

-- with the event it makes a call at a level above this one
abbrev pub IsDeep : OneShot → ℕ → List StreamEvent → StreamEvent → Type 0
IsDeep P level word x = level < level_on P (word ++ x ∷ [])

-- what is left of the type of its input after a word, and of that of its output
abbrev pub left_of : OneShot → List StreamEvent → StreamType
left_of P word = after_word word P.input

abbrev pub unsaid : OneShot → List StreamEvent → StreamType
unsaid P word = der (said P word) P.result
