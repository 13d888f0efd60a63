-- The course of a run, and what it is for a machine to stand for one after a word.
--
-- Choices that are not obvious:
-- - A run begins at a program's start, or it goes on from a state that was kept, which needn't come of any run. To
--   whoever feeds it events both are one: something that gives so much on the whole of what comes. So a session is
--   told that alone, with the number of events before and the budget.
use Rattle.std.specs.Prelude.{◌≡◌, ◌≤◌, ◌<◌, ◌+◌, ◌^◌, ℕ, List, length, true}
use Rattle.stream_type.specs.StreamType.{reach_of, null_of}
use Rattle.stream_prefix.specs.StreamPrefix.{is_maximal}
use Rattle.event_word.specs.StreamEvent.{StreamEvent}
use Rattle.event_word.specs.Admits.{Admits}
use Rattle.event_word.specs.Word.{IsWord}
use Rattle.delta_session.specs.OneShot.{OneShot, Grows, said, left_of}

-- what is given on the whole of what comes, the number of events before that, and the calls that may be made at each
-- event
pub record Course : Type 0 where
  pub gives : OneShot
  pub before : ℕ
  pub budget : ℕ

-- after a word the course goes on: the word is one of its input, it grows, no path of its output has more than 63
-- steps, and where nothing is left of its input what was said is whole
pub record GoesOn (course : Course) (word : List StreamEvent) : Type 0 where
  pub comes : IsWord course.gives.input word
  pub grows : Grows course.gives
  pub narrow : reach_of course.gives.result ≤ 63
  pub ends : null_of (left_of course.gives word) ≡ true → is_maximal (said course.gives word) ≡ true

module _ {A : Type 0} (stands : A → Course → List StreamEvent → Type 0) (machine : A) where
  -- a machine stands for the course after the word, by what `stands` says of machines, and this event may come next
  pub record Awaits (course : Course) (word : List StreamEvent) (x : StreamEvent) : Type 0 where
    pub stands_after : stands machine course word
    pub admits : Admits (left_of course.gives word) x

  -- a machine may answer the event: there are a course and a word after which it awaits it, and fewer than 2^42 have
  -- come in all
  pub record MayAnswer (x : StreamEvent) : Type 0 where
    pub course : Course
    pub word : List StreamEvent
    pub awaits : Awaits course word x
    pub has_room : course.before + length word < 2 ^ 42

  -- what holds of each course and word after which it awaits the event
  abbrev pub WhereItAwaits : StreamEvent → (Course → List StreamEvent → Type 0) → Type 0
  WhereItAwaits x holds = (course : Course) (word : List StreamEvent) → Awaits course word x → holds course word
