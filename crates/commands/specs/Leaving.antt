-- What a run does that leaves its state under a name, by how it ended.
--
-- Choices that are not obvious:
-- - The state is kept after all events of the input, which ended well: the program was done, or it awaits more.
-- - Behind the end of the command stands that of the run. They differ only where the run ended well, and its state was
--   then too large, or couldn't be written, or memory ran out.
-- - Of a run that ended otherwise nothing is kept, and the shelf is as before. Where the state couldn't be written, or
--   memory ran out, the name may hold anything. No other name ever changes.
-- - In which places the nodes of code stand is told by the bytes, and says nothing of the state.
use Rattle.std.specs.Prelude.{◌≡◌, ◌⊎◌, ◌≤◌, ◌<◌, ◌+◌, ◌^◌, ℕ, List, length, Option, IfOk, IsErrOf, Result}
use Rattle.std.specs.declared.vec.Vec.{Vec}
use Rattle.std.specs.declared.alloc.Global.{Global}
use Rattle.port.specs.declared.link.Move.{Move}
use Rattle.port.specs.Files.{ChangesOnly, Keeps}
use Rattle.event_word.specs.StreamEvent.{StreamEvent}
use Rattle.event_frame.specs.Reading.{whole}
use Rattle.core_term.specs.CoreTerm.{CoreProgram}
use Rattle.delta_state.specs.MachineView.{MachineView, input_of}
use Rattle.delta_state.specs.Stands.{output_left}
use Rattle.kept_state.specs.KeptTree.{KeptTree}
use Rattle.kept_state.specs.KeptBytes.{kept_bytes, most_bytes}
use Rattle.kept_state.specs.KeptSizes.{HasSizes}
use Rattle.kept_state.specs.KeptMeaning.{output_since}
use Rattle.kept_state.specs.Laws.{input_since, IsKept, IsKeptSince}
use Rattle.delta_end.specs.declared.objection.StateName.TheVariants.{Large}
use Rattle.delta_end.specs.declared.objection.Objection.TheVariants.{State}
use Rattle.delta_end.specs.declared.end.End.{End}
use Rattle.delta_end.specs.declared.end.End.TheVariants.{Done, Open, FileFailed, Memory, Objected}
use Rattle.delta_loop.specs.Meaning.{Meaning}
use Rattle.delta_loop.specs.Loop.{IsWellEnded, Ran}
use Rattle.delta_runner.specs.declared.runner.Runner.{Runner}
use Rattle.delta_session.specs.Course.{Course}
use Rattle.delta_session.specs.Programs.{IsRunning}
use Rattle.delta_session.specs.Standing.{IsOf}
use Rattle.delta_runner.specs.Standing.{StandsFor}
use Rattle.delta_runner.specs.declared.woken.Woken.{Woken}
use Rattle.delta_runner.specs.SinceCourse.{IsSince, IsFrom}
use Rattle.commands.specs.declared.keeping.Unleft.{Unleft}
use Rattle.commands.specs.declared.keeping.Unleft.TheVariants as unleft

-- what a run goes on from: the start of a program, or what was kept for a program
pub data Origin : Type 0 where
  from_start : CoreProgram → Origin
  from_kept : CoreProgram → KeptTree → Origin

-- what is to be kept of a program after a word: a typed state that goes on just as the program, whose output's type is
-- what is left of the program's, and whose number of events is that of the word
pub record IsKeptOf (c : CoreProgram) (word : List StreamEvent) (k : KeptTree) : Type 0 where
  pub kept : IsKept c (input_of c word) k
  pub output : k.out ≡ output_left c (input_of c word)
  pub count : k.events ≡ length word

-- and of a kept state after the word of what came since, with the events that had come before it
pub record IsKeptAgain (c : CoreProgram) (k : KeptTree) (word : List StreamEvent) (l : KeptTree) : Type 0 where
  pub kept : IsKeptSince c k (input_since c k word) l
  pub output : l.out ≡ output_since c k (input_since c k word)
  pub count : l.events ≡ k.events + length word

-- of either
abbrev pub IsKeptFrom : Origin → List StreamEvent → KeptTree → Type 0
IsKeptFrom (from_start c) word k = IsKeptOf c word k
IsKeptFrom (from_kept c k) word l = IsKeptAgain c k word l

-- a runner stands for something after some word
abbrev pub StandsForSome : {A : Type 0} → (A → Course → List StreamEvent → Type 0) → Runner A → Type 0
StandsForSome {A} stands runner = (P : Meaning) × (word : List StreamEvent) × StandsFor stands runner P word

-- this holds of what is to be kept of a run after a word, and of some bytes of that
abbrev pub KeptAs : Origin → List StreamEvent → (KeptTree → List ℕ → Type 0) → Type 0
KeptAs origin word holds = (k : KeptTree) × (places : List ℕ) × IsKeptFrom origin word k × holds k (kept_bytes k places)

-- more than 2^41 events came, with those before the kept state that a run goes on from
abbrev pub AreTooFar : Origin → List StreamEvent → Type 0
AreTooFar (from_start c) word = ⊥
AreTooFar (from_kept c k) word = 2 ^ 41 < k.events + length word

module _ {M : Type 0} (seen : M → MachineView) (stands : M → List StreamEvent → Type 0) (runner : Runner M) where
  -- this holds of each program that a runner runs, and of the word that it took
  abbrev pub OfEachProgram : (Origin → List StreamEvent → Type 0) → Type 0
  OfEachProgram holds =
      (P : Meaning) (c : CoreProgram) (word : List StreamEvent) → StandsFor (IsRunning seen stands) runner P word → IsOf seen runner.session c → length word ≤ 2 ^ 41
      → holds (from_start c) word

module _ {M : Type 0} (seen : M → MachineView) (since : M → KeptTree → List StreamEvent → Type 0) (runner : Runner (Woken M)) where
  -- and of each kept state that it goes on from, and of what came since
  abbrev pub OfEachState : (Origin → List StreamEvent → Type 0) → Type 0
  OfEachState holds =
      (P : Meaning) (c : CoreProgram) (k : KeptTree) (word : List StreamEvent) → StandsFor (IsSince seen since) runner P word → IsFrom seen runner.session c k
      → holds (from_kept c k) word

-- what was written are these bytes of a state, of which there are no more than there may be, and the numbers of the state
-- have their sizes
pub record AreIts (written : List ℕ) (k : KeptTree) (bytes : List ℕ) : Type 0 where
  pub same : written ≡ bytes
  pub few : length bytes ≤ most_bytes
  pub sizes : HasSizes k

-- there are more of them
abbrev pub AreTooMany : KeptTree → List ℕ → Type 0
AreTooMany k bytes = most_bytes < length bytes

-- a run of this meaning, what it goes on from, what is told of the link before and after it, and what it left of the
-- input
pub record Way : Type 0 where
  pub meaning : Meaning
  pub origin : Origin
  pub old : Option (List Move)
  pub new : Option (List Move)
  pub left0 : Option (List ℕ)
  pub left1 : Option (List ℕ)

-- it ended so
abbrev pub Ended : Way → End → Type 0
Ended w end = Ran w.meaning w.old w.new w.left0 w.left1 end

-- this is to be kept of it after all events of the input, which ended well
pub record Leaves (w : Way) (end : End) (k : KeptTree) : Type 0 where
  pub ran : Ended w end
  pub well : IsWellEnded end
  pub kept : IsKeptFrom w.origin (whole ran.input) k

-- the file of this name holds the bytes of what is to be kept of it. They are no more than there may be, and its numbers
-- have their sizes, so they are those of no other typed state whose numbers have theirs
pub record IsSaved (w : Way) (files : Option (List ℕ → List ℕ)) (name : List ℕ) (end : End) : Type 0 where
  pub state : KeptTree
  pub places : List ℕ
  pub leaves : Leaves w end state
  pub sizes : HasSizes state
  pub few : length (kept_bytes state places) ≤ most_bytes
  pub held : Keeps files name (kept_bytes state places)

-- the bytes of what is to be kept of it are too many
pub record IsTooLarge (w : Way) : Type 0 where
  pub end : End
  pub state : KeptTree
  pub places : List ℕ
  pub leaves : Leaves w end state
  pub large : most_bytes < length (kept_bytes state places)

-- too many events came of it, which ended well
pub record IsTooLong (w : Way) : Type 0 where
  pub end : End
  pub ran : Ended w end
  pub well : IsWellEnded end
  pub far : AreTooFar w.origin (whole ran.input)

-- what is to be kept of it is too large: its bytes are too many, or too many events came, which those of a run from the
-- start never are
abbrev pub IsLarge : Way → Type 0
IsLarge w = IsTooLarge w ⊎ IsTooLong w

-- the end of a run that stands behind a command's
abbrev pub IsBehind : End → End → Type 0
IsBehind (Objected (State Large at)) ran = IsWellEnded ran
IsBehind FileFailed ran = (ran ≡ FileFailed) ⊎ IsWellEnded ran
IsBehind Memory ran = (ran ≡ Memory) ⊎ IsWellEnded ran
IsBehind end ran = ran ≡ end

-- what is left under the name, by how the command ended: what is to be kept of the run, or it is told that this is too
-- large, as it then is
abbrev pub LeavesState : Way → Option (List ℕ → List ℕ) → List ℕ → End → Type 0
LeavesState w files name Done = IsSaved w files name Done
LeavesState w files name Open = IsSaved w files name Open
LeavesState w files name (Objected (State Large at)) = IsLarge w × (at ≡ most_bytes)
LeavesState w files name end = Unit {0}

-- no other name changes, and that one only where the command ended well, or a call of the shelf failed, or memory ran out
abbrev pub ChangesState : End → Option (List ℕ → List ℕ) → Option (List ℕ → List ℕ) → List ℕ → Type 0
ChangesState Done old new name = ChangesOnly old new name
ChangesState Open old new name = ChangesOnly old new name
ChangesState FileFailed old new name = ChangesOnly old new name
ChangesState Memory old new name = ChangesOnly old new name
ChangesState end old new name = new ≡ old

-- a command that leaves a state under a name ended so: behind its end stands a run that ended in its own way, what is
-- left is as `left` says of the command's end, no other name changed, and none where the run didn't end well
pub record Leaving (ran left : End → Type 0) (old new : Option (List ℕ → List ℕ)) (name : List ℕ) (end : End) : Type 0 where
  pub behind : End
  pub is_behind : IsBehind end behind
  pub ended : ran behind
  pub leaves : left end
  pub changes : ChangesState end old new name
  pub still : (IsWellEnded behind → ⊥) → new ≡ old

-- a run that leaves its state under a name
abbrev pub Saves : Way → List ℕ → Option (List ℕ → List ℕ) → Option (List ℕ → List ℕ) → End → Type 0
Saves w name old new end = Leaving (Ended w) (LeavesState w new name) old new name end

-- what is told of the bytes of what is to be kept of a run that ended so: they are its, or it is too large
pub record TellsBytes (w : Way) (end : End) (bytes : Result (Vec ℕ Global) Unleft) : Type 0 where
  pub ended : Ended w end
  pub its : IfOk bytes (λ v. (k : KeptTree) × (places : List ℕ) × Leaves w end k × AreIts v.items k (kept_bytes k places))
  pub many : IsErrOf bytes unleft.Large → IsLarge w
