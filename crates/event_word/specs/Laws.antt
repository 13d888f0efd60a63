-- The laws of words.
use Rattle.std.specs.Prelude.{◌≡◌, ◌≤◌, ◌↔◌, length, List, [], ◌++◌, None}
use Rattle.stream_type.specs.StreamType.{StreamType, reach_of}
use Rattle.stream_prefix.specs.StreamPrefix.{StreamPrefix, IsPrefix, emp, der, join}
use Rattle.event_word.specs.StreamEvent.{StreamEvent, IsWithin}
use Rattle.event_word.specs.Admits.{Admits}
use Rattle.event_word.specs.EventFault.{fault_of}
use Rattle.event_word.specs.Word.{one_of, after, after_word, IsWord, pre}
use Rattle.event_word.specs.Canon.{canon}

-- the walk meets no fault exactly where the type admits the event
abbrev pub NoFaultIsAdmitted : Type 0
NoFaultIsAdmitted = (s : StreamType) (x : StreamEvent) → (fault_of x s ≡ None) ↔ Admits s x

-- an admitted event is a prefix, and what it leaves is the derivative by that prefix
abbrev pub OneIsPrefix : Type 0
OneIsPrefix =
    (s : StreamType) (x : StreamEvent) → Admits s x → IsPrefix s (one_of x s) × (after x s ≡ der (one_of x s) s)

-- no event that a type admits has more steps than its reach
abbrev pub AdmittedIsWithin : Type 0
AdmittedIsWithin = (s : StreamType) (x : StreamEvent) → Admits s x → length x.path ≤ reach_of s

-- nor has any event of a word of it
abbrev pub WordIsWithin : Type 0
WordIsWithin = (s : StreamType) (w : List StreamEvent) → IsWord s w → IsWithin (reach_of s) w

-- a word stands for a prefix
abbrev pub WordIsPrefix : Type 0
WordIsPrefix = (s : StreamType) (w : List StreamEvent) → IsWord s w → IsPrefix s (pre s w)

-- what a word leaves, event by event, is the derivative by its prefix
abbrev pub WordLeaves : Type 0
WordLeaves = (s : StreamType) (w : List StreamEvent) → IsWord s w → after_word w s ≡ der (pre s w) s

-- a word is cut anywhere into a word and a word of what that leaves
abbrev pub WordsAppend : Type 0
WordsAppend =
    (s : StreamType) (v w : List StreamEvent) → IsWord s (v ++ w) ↔ (IsWord s v × IsWord (der (pre s v) s) w)

-- a word and then a word of what it leaves stand for a prefix and then the other
abbrev pub WordsJoin : Type 0
WordsJoin =
    (s : StreamType) (v w : List StreamEvent) → IsWord s (v ++ w) → pre s (v ++ w) ≡ join (pre s v) (pre (der (pre s v) s) w)

-- words that stand for one prefix leave one type
abbrev pub EqualWordsLeaveOne : Type 0
EqualWordsLeaveOne =
    (s : StreamType) (v w : List StreamEvent) → IsWord s v → IsWord s w → pre s v ≡ pre s w → after_word v s ≡ after_word w s

-- the canonical word of a prefix is a word of the type
abbrev pub CanonIsWord : Type 0
CanonIsWord = (s : StreamType) (p : StreamPrefix) → IsPrefix s p → IsWord s (canon p)

-- the canonical word of a prefix stands for it
abbrev pub CanonMeans : Type 0
CanonMeans = (s : StreamType) (p : StreamPrefix) → IsPrefix s p → pre s (canon p) ≡ p

-- the canonical word is empty for the empty prefix alone
abbrev pub CanonIsEmpty : Type 0
CanonIsEmpty = (s : StreamType) (p : StreamPrefix) → IsPrefix s p → (canon p ≡ []) ↔ (p ≡ emp s)

-- no event of the canonical word has more steps than the type's reach
abbrev pub CanonIsWithin : Type 0
CanonIsWithin = (s : StreamType) (p : StreamPrefix) → IsPrefix s p → IsWithin (reach_of s) (canon p)
