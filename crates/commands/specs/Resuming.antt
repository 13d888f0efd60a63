-- What a run does that goes on from a state, by how it ended.
--
-- Choices that are not obvious:
-- - Whose bytes they are isn't asked. Where they are those of some typed state of the program, the run means to the loop
--   what that state does, and else it is told what is wrong first, and nothing is read or written.
use Rattle.std.specs.Prelude.{◌≡◌, ◌⊎◌, ◌≤◌, ℕ, ⊤, List, Option, Some, None, take}
use Rattle.port.specs.declared.link.Move.{Move}
use Rattle.event_frame.specs.declared.version.Version.{Version}
use Rattle.core_term.specs.CoreTerm.{CoreProgram}
use Rattle.kept_state.specs.KeptTree.{KeptTree}
use Rattle.kept_state.specs.KeptTyping.{IsTypedKept}
use Rattle.kept_state.specs.KeptBytes.{kept_bytes, most_bytes}
use Rattle.kept_state.specs.KeptForm.{form_fault, bad_form, bad_version}
use Rattle.kept_state.specs.KeptSizes.{HasSizes}
use Rattle.kept_check.specs.declared.fault.KeepFault.{KeepFault}
use Rattle.kept_check.specs.declared.fault.KeepFault.TheVariants as fault
use Rattle.kept_check.specs.Loading.{TellsUntyped, IsOfNone}
use Rattle.delta_end.specs.declared.objection.StateName.{StateName}
use Rattle.delta_end.specs.declared.objection.StateName.TheVariants as state
use Rattle.delta_end.specs.declared.objection.Objection.TheVariants.{State}
use Rattle.delta_end.specs.declared.end.End.{End}
use Rattle.delta_end.specs.declared.end.End.TheVariants.{Refused, FileFailed, Memory, Objected}
use Rattle.delta_loop.specs.History.{IsUntouched}
use Rattle.delta_loop.specs.Loop.{Ran}
use Rattle.delta_runner.specs.KeptOneShot.{meaning_since}

-- how the command ends where bytes aren't taken as a state for this
abbrev pub end_of : KeepFault → End
end_of fault.Memory = Memory
end_of (fault.Form at) = Objected (State state.Form at)
end_of (fault.Untyped n) = Objected (State state.Untyped n)
end_of (fault.Version n) = Objected (State state.Version n)

-- its place is no more than the most bytes that a state may have
abbrev pub IsSmallFault : KeepFault → Type 0
IsSmallFault (fault.Form at) = at ≤ most_bytes
IsSmallFault _ = ⊤

-- this is wrong first with the bytes as those of a state of the program; where that is a state of it which isn't typed,
-- they are those of no typed one
abbrev pub IsWrong : CoreProgram → List ℕ → StateName → ℕ → Type 0
IsWrong c bytes state.Form at = form_fault bytes ≡ Some (bad_form at)
IsWrong c bytes state.Version n = form_fault bytes ≡ Some (bad_version n)
IsWrong c bytes state.Untyped n = TellsUntyped c bytes n × IsOfNone c bytes
IsWrong c bytes state.Large n = ⊥

-- the bytes have no fault of form and are those of this state, which is typed for the program, and whose numbers have
-- their sizes. There is one such state at most
pub record IsTypedAs (c : CoreProgram) (bytes : List ℕ) (k : KeptTree) : Type 0 where
  pub places : List ℕ
  pub has_form : form_fault bytes ≡ None
  pub has_bytes : bytes ≡ kept_bytes k places
  pub sizes : HasSizes k
  pub typed : IsTypedKept c k

-- the bytes are those of a typed state of the program, and the run that goes on from it ended so
pub record GoesOn (c : CoreProgram) (budget : ℕ) (v : Version) (bytes : List ℕ) (old new : Option (List Move)) (left0 left1 : Option (List ℕ))
    (end : End) : Type 0 where
  pub kept : KeptTree
  pub typed : IsTypedAs c bytes kept
  pub ran : Ran (meaning_since v budget c kept) old new left0 left1 end

-- the bytes are refused for what is wrong first, and then nothing is read or written, or the run goes on from their
-- state
abbrev pub Resumes : CoreProgram → ℕ → Version → List ℕ → Option (List Move) → Option (List Move) → Option (List ℕ) → Option (List ℕ) → End → Type 0
Resumes c budget v bytes old new left0 left1 (Objected (State name at)) = IsWrong c bytes name at × IsUntouched old new left0 left1
Resumes c budget v bytes old new left0 left1 Memory = IsUntouched old new left0 left1 ⊎ GoesOn c budget v bytes old new left0 left1 Memory
Resumes c budget v bytes old new left0 left1 end = GoesOn c budget v bytes old new left0 left1 end

-- where the shelf tells, this holds of the bytes in the named file: of its first 1,048,577, more than a state may have
abbrev pub OfState : Option (List ℕ → List ℕ) → List ℕ → (List ℕ → Type 0) → Type 0
OfState files name holds = (told : List ℕ → List ℕ) → files ≡ Some told → holds (take 1048577 (told name))

-- the same where the bytes are those of a file; where it couldn't be read nothing is read of the link, or written
abbrev pub ResumesFile : CoreProgram → ℕ → Version → Option (List ℕ → List ℕ) → List ℕ → Option (List Move) → Option (List Move) → Option (List ℕ)
    → Option (List ℕ) → End → Type 0
ResumesFile c budget v files name old new left0 left1 (Refused why) = ⊥
ResumesFile c budget v files name old new left0 left1 FileFailed = IsUntouched old new left0 left1
ResumesFile c budget v files name old new left0 left1 Memory =
    IsUntouched old new left0 left1 ⊎ OfState files name (λ bytes. GoesOn c budget v bytes old new left0 left1 Memory)
ResumesFile c budget v files name old new left0 left1 end = OfState files name (λ bytes. Resumes c budget v bytes old new left0 left1 end)
