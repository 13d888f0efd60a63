-- What a program means to the loop, as functions of the events so far. The language behind it isn't seen.
use Rattle.std.specs.Prelude.{◌≡◌, ℕ, ◌+◌, ◌<◌, ◌^◌, List, [], ◌∷◌, ◌++◌, Bool, Option, length}
use Rattle.event_word.specs.StreamEvent.{StreamEvent}
use Rattle.event_word.specs.declared.fault.EventFault.{EventFault}
use Rattle.event_frame.specs.declared.version.Version.{Version}

pub record Meaning : Type 0 where
  -- the version of the frames that the program writes behind a header, or none where it writes something else and no header
  pub version : Option Version
  -- the fault of this event after this word, or none where it may come
  pub fault : List StreamEvent → StreamEvent → Option EventFault
  -- the bytes that come before the first read, behind the header
  pub first : List ℕ
  -- the bytes that answer this event after this word
  pub answer : List StreamEvent → StreamEvent → List ℕ
  -- the input may end after this word
  pub finishes : List StreamEvent → Bool
  -- what answers this word, with what comes first, is whole
  pub is_whole : List StreamEvent → Bool
  -- the calls that the program makes on this word, and the greatest level of one
  pub calls : List StreamEvent → ℕ
  pub level : List StreamEvent → ℕ
  -- the calls that it may make before any event, and again at each event
  pub budget : ℕ

-- before any event the program makes more calls than it may, or one at a level above 1,000
abbrev pub StartsCostly : Meaning → Type 0
StartsCostly P = P.budget < P.calls []

abbrev pub StartsDeep : Meaning → Type 0
StartsDeep P = 1000 < P.level []

-- this event after this word makes more calls than it may, or the program then makes one at a level above 1,000
abbrev pub IsCostly : Meaning → List StreamEvent → StreamEvent → Type 0
IsCostly P word x = P.calls word + P.budget < P.calls (word ++ x ∷ [])

abbrev pub IsDeep : Meaning → List StreamEvent → StreamEvent → Type 0
IsDeep P word x = 1000 < P.level (word ++ x ∷ [])

-- a machine stands for some program after some word, by what `stands` says of machines
pub record Stands {M : Type 0} (stands : M → Meaning → List StreamEvent → Type 0) (machine : M) : Type 0 where
  pub program : Meaning
  pub word : List StreamEvent
  pub state : stands machine program word
  -- no run reads more events: its bytes hold fewer frames
  pub room : length word < 2 ^ 42

-- a machine stands for some program before any event
pub record Begun {M : Type 0} (stands : M → Meaning → List StreamEvent → Type 0) (machine : M) : Type 0 where
  pub program : Meaning
  pub state : stands machine program []

-- the machine stands for the program before any event, and the bytes that come first are the header of this version, if it is one, and these
pub record HasBegun {M : Type 0} (stands : M → Meaning → List StreamEvent → Type 0) (P : Meaning) (machine : M) (v : Option Version)
    (first : List ℕ) : Type 0 where
  pub state : stands machine P []
  pub version : v ≡ P.version
  pub bytes : first ≡ P.first
