-- What is behind the end of a run that goes on, and behind a refusal.
use Rattle.std.proofs.Common.{◌≡◌, inl, inr, ℕ, List, Option, Some, Err, take, subst}
use Rattle.port.specs.declared.link.Move.{Move}
use Rattle.event_frame.specs.declared.version.Version.{Version}
use Rattle.core_term.specs.CoreTerm.{CoreProgram}
use Rattle.kept_check.specs.declared.fault.KeepFault.{KeepFault}
use Rattle.kept_check.specs.declared.fault.KeepFault.TheVariants as fault
use Rattle.kept_check.specs.Loading.{TellsKeepFault, RefusesNone}
use Rattle.delta_end.specs.declared.objection.Objection.TheVariants.{Derivation, Bound, Table, State}
use Rattle.delta_end.specs.declared.end.End.{End}
use Rattle.delta_end.specs.declared.end.End.TheVariants.{Done, Usage, Refused, Input, Budget, Deep, Open, FileFailed, ReadFailed, WriteFailed, Memory, Long, Objected}
use Rattle.delta_loop.specs.History.{IsUntouched}
use Rattle.delta_loop.specs.Answer.{Adds, ReadsWell}
use Rattle.delta_loop.proofs.Returning.{adds_none, ran_reads, unread}
use Rattle.delta_runner.specs.KeptOneShot.{meaning_since}
use Rattle.commands.specs.Resuming.{end_of, IsSmallFault, GoesOn, Resumes, OfState, ResumesFile}
use Rattle.commands.specs.Texts.{ResumesIts, ResumesText}
use Rattle.commands.specs.Running.{Takes}
use Rattle.commands.proofs.Takings.{takes_none, ran_takes}
use Rattle.commands.proofs.Places.{form_within}

-- a fault that is told of bytes has a small place
pub is_small : (c : CoreProgram) (bytes : List ℕ) (f : KeepFault) → TellsKeepFault c bytes (Err f) → IsSmallFault f
is_small c bytes fault.Memory told = tt
is_small c bytes (fault.Form at) told = form_within bytes at told
is_small c bytes (fault.Untyped n) told = tt
is_small c bytes (fault.Version n) told = tt

module _ (c : CoreProgram) (budget : ℕ) (v : Version) (bytes : List ℕ) (old new : Option (List Move)) (left0 left1 : Option (List ℕ)) where
  -- what is told is what is wrong first
  pub refuses : (f : KeepFault) → TellsKeepFault c bytes (Err f) → RefusesNone c bytes f → IsUntouched old new left0 left1 → Resumes c budget v bytes old new left0 left1 (end_of f)
  refuses fault.Memory told none untouched = inl untouched
  refuses (fault.Form at) told none untouched = (told, untouched)
  refuses (fault.Untyped n) told none untouched = ((told, none), untouched)
  refuses (fault.Version n) told none untouched = (told, untouched)

  -- a run that goes on ends as a run
  pub goes_on : (end : End) → GoesOn c budget v bytes old new left0 left1 end → Resumes c budget v bytes old new left0 left1 end
  goes_on Done on = on
  goes_on Usage on = on
  goes_on (Refused why) on = on
  goes_on (Input fault) on = on
  goes_on (Budget at) on = on
  goes_on (Deep at) on = on
  goes_on Open on = on
  goes_on FileFailed on = on
  goes_on ReadFailed on = on
  goes_on WriteFailed on = on
  goes_on Memory on = inr on
  goes_on Long on = on
  goes_on (Objected what) on = absurd on.ran.at.may

module _ (c : CoreProgram) (budget : ℕ) (v : Version) (bytes : List ℕ) (old new : Option (List Move)) (left0 left1 : Option (List ℕ)) where
  reads_of : (end : End) → GoesOn c budget v bytes old new left0 left1 end → Adds old new (ReadsWell end)
  reads_of end on = ran_reads (meaning_since v budget c on.kept) old new left0 left1 end on.ran

  -- it doesn't read after the end of the input, nor more than it may
  pub resumes_reads : (end : End) → Resumes c budget v bytes old new left0 left1 end → Adds old new (ReadsWell end)
  resumes_reads (Objected (State name at)) told = adds_none old new (ReadsWell (Objected (State name at))) told.1.0 (unread (Objected (State name at)))
  resumes_reads Memory (inl untouched) = adds_none old new (ReadsWell Memory) untouched.0 (unread Memory)
  resumes_reads Memory (inr on) = reads_of Memory on
  resumes_reads (Objected (Derivation name at)) on = reads_of (Objected (Derivation name at)) on
  resumes_reads (Objected (Bound name at)) on = reads_of (Objected (Bound name at)) on
  resumes_reads (Objected (Table name file row)) on = reads_of (Objected (Table name file row)) on
  resumes_reads Done on = reads_of Done on
  resumes_reads Usage on = reads_of Usage on
  resumes_reads (Refused why) on = reads_of (Refused why) on
  resumes_reads (Input fault) on = reads_of (Input fault) on
  resumes_reads (Budget at) on = reads_of (Budget at) on
  resumes_reads (Deep at) on = reads_of (Deep at) on
  resumes_reads Open on = reads_of Open on
  resumes_reads FileFailed on = reads_of FileFailed on
  resumes_reads ReadFailed on = reads_of ReadFailed on
  resumes_reads WriteFailed on = reads_of WriteFailed on
  resumes_reads Long on = reads_of Long on

  takes_of : (end : End) → GoesOn c budget v bytes old new left0 left1 end → Adds old new (Takes left0 left1)
  takes_of end on = ran_takes old new left0 left1 (meaning_since v budget c on.kept) end on.ran

  -- it takes what it reads of what is left
  pub resumes_takes : (end : End) → Resumes c budget v bytes old new left0 left1 end → Adds old new (Takes left0 left1)
  resumes_takes (Objected (State name at)) told = takes_none old new left0 left1 told.1
  resumes_takes Memory (inl untouched) = takes_none old new left0 left1 untouched
  resumes_takes Memory (inr on) = takes_of Memory on
  resumes_takes Done on = takes_of Done on
  resumes_takes Usage on = takes_of Usage on
  resumes_takes (Refused why) on = takes_of (Refused why) on
  resumes_takes (Input fault) on = takes_of (Input fault) on
  resumes_takes (Budget at) on = takes_of (Budget at) on
  resumes_takes (Deep at) on = takes_of (Deep at) on
  resumes_takes Open on = takes_of Open on
  resumes_takes FileFailed on = takes_of FileFailed on
  resumes_takes ReadFailed on = takes_of ReadFailed on
  resumes_takes WriteFailed on = takes_of WriteFailed on
  resumes_takes Long on = takes_of Long on
  resumes_takes (Objected (Derivation name at)) on = takes_of (Objected (Derivation name at)) on
  resumes_takes (Objected (Bound name at)) on = takes_of (Objected (Bound name at)) on
  resumes_takes (Objected (Table name file row)) on = takes_of (Objected (Table name file row)) on

  -- it isn't usage
  pub resumes_usage : (end : End) → Resumes c budget v bytes old new left0 left1 end → end ≡ Usage → ⊥
  resumes_usage Usage on same = on.ran.at.may
  resumes_usage (Objected what) on same = cc
  resumes_usage Done on same = cc
  resumes_usage (Refused why) on same = cc
  resumes_usage (Input fault) on same = cc
  resumes_usage (Budget at) on same = cc
  resumes_usage (Deep at) on same = cc
  resumes_usage Open on same = cc
  resumes_usage FileFailed on same = cc
  resumes_usage ReadFailed on same = cc
  resumes_usage WriteFailed on same = cc
  resumes_usage Memory on same = cc
  resumes_usage Long on same = cc

module _ (c : CoreProgram) (budget : ℕ) (v : Version) (files : Option (List ℕ → List ℕ)) (name : List ℕ) (old new : Option (List Move)) (left0 left1 : Option (List ℕ)) (bytes : List ℕ)
    (held : (told : List ℕ → List ℕ) → files ≡ Some told → bytes ≡ take 1048577 (told name)) where
  -- so it is where the bytes are those of a file
  moved : (end : End) → Resumes c budget v bytes old new left0 left1 end → OfState files name (λ bs. Resumes c budget v bs old new left0 left1 end)
  moved end resumed told there = subst (λ (bs : List ℕ). Resumes c budget v bs old new left0 left1 end) (held told there) resumed

  pub of_file : (end : End) → Resumes c budget v bytes old new left0 left1 end → ResumesFile c budget v files name old new left0 left1 end
  of_file Done resumed = moved Done resumed
  of_file Usage resumed = moved Usage resumed
  of_file (Refused why) resumed = absurd resumed.ran.at.may
  of_file (Input fault) resumed = moved (Input fault) resumed
  of_file (Budget at) resumed = moved (Budget at) resumed
  of_file (Deep at) resumed = moved (Deep at) resumed
  of_file Open resumed = moved Open resumed
  of_file FileFailed resumed = absurd resumed.ran.at.may
  of_file ReadFailed resumed = moved ReadFailed resumed
  of_file WriteFailed resumed = moved WriteFailed resumed
  of_file Memory (inl untouched) = inl untouched
  of_file Memory (inr on) = inr (λ told there. subst (λ (bs : List ℕ). GoesOn c budget v bs old new left0 left1 Memory) (held told there) on)
  of_file Long resumed = moved Long resumed
  of_file (Objected what) resumed = moved (Objected what) resumed

module _ (text : List ℕ) (budget : ℕ) (v : Version) (files : Option (List ℕ → List ℕ)) (name : List ℕ) (old new : Option (List Move)) (left0 left1 : Option (List ℕ)) where
  -- so the command ended so for the text
  pub resumes_text : (end : End) → ResumesIts text budget v files name old new left0 left1 end → ResumesText text budget v files name old new left0 left1 end
  resumes_text Done its = its
  resumes_text Usage its = its
  resumes_text (Refused why) its = absurd its.resumes
  resumes_text (Input fault) its = its
  resumes_text (Budget at) its = its
  resumes_text (Deep at) its = its
  resumes_text Open its = its
  resumes_text FileFailed its = its
  resumes_text ReadFailed its = its
  resumes_text WriteFailed its = its
  resumes_text Memory its = inr its
  resumes_text Long its = its
  resumes_text (Objected what) its = its
