-- What the end of a command that leaves a state tells of the run behind it.
use Rattle.std.proofs.Common.{◌≡◌, ◌⊎◌, inl, inr, ℕ, List, Option, Some, ◌∙◌, sym, subst, refl}
use Rattle.port.specs.declared.link.Move.{Move}
use Rattle.port.specs.Files.{ChangesOnly}
use Rattle.event_word.specs.StreamEvent.{StreamEvent}
use Rattle.event_frame.specs.declared.version.Version.{Version}
use Rattle.delta_end.specs.declared.objection.StateName.TheVariants.{Form, Untyped, Version as OtherVersion, Large}
use Rattle.delta_end.specs.declared.objection.Objection.TheVariants.{Derivation, Bound, Table, State}
use Rattle.delta_end.specs.declared.end.End.{End}
use Rattle.delta_end.specs.declared.end.End.TheVariants.{Done, Usage, Refused, Input, Budget, Deep, Open, FileFailed, ReadFailed, WriteFailed, Memory, Long, Objected}
use Rattle.delta_loop.specs.Meaning.{Meaning}
use Rattle.delta_loop.specs.Loop.{Ran, IsWellEnded}
use Rattle.delta_loop.specs.Answer.{Adds, IsGood, IsCheap, WroteAll}
use Rattle.delta_loop.proofs.Completeness.{wrote_all}
use Rattle.commands.specs.Running.{IsUnrun}
use Rattle.commands.specs.Leaving.{IsBehind, ChangesState}
use Rattle.delta_run.specs.Text.{IsRefusal}
use Rattle.delta_run.specs.Settled.{IsOverInput}
use Rattle.delta_run.specs.Saved.{IsCompleteWithState}

-- where the files are as they were, no other name changes
pub same_files : (old new : Option (List ℕ → List ℕ)) (name : List ℕ) → new ≡ old → ChangesOnly old new name
same_files old new name same files is = (files, same ∙ is, λ other ne. refl)

-- so it is at each end that lets the state's name alone change
pub changes_only : (end : End) (old new : Option (List ℕ → List ℕ)) (name : List ℕ) → ChangesState end old new name → ChangesOnly old new name
changes_only Done old new name changes = changes
changes_only Open old new name changes = changes
changes_only FileFailed old new name changes = changes
changes_only Memory old new name changes = changes
changes_only Usage old new name same = same_files old new name same
changes_only (Objected what) old new name same = same_files old new name same
changes_only (Refused why) old new name same = same_files old new name same
changes_only (Input fault) old new name same = same_files old new name same
changes_only (Budget at) old new name same = same_files old new name same
changes_only (Deep at) old new name same = same_files old new name same
changes_only ReadFailed old new name same = same_files old new name same
changes_only WriteFailed old new name same = same_files old new name same
changes_only Long old new name same = same_files old new name same

-- the two ends of a run whose input ended well
pub data WellEnded : End → Type 0 where
  is_done : WellEnded Done
  is_open : WellEnded Open

pub well_ended : (end : End) → IsWellEnded end → WellEnded end
well_ended Done well = is_done
well_ended Open well = is_open
well_ended Usage well = absurd well
well_ended (Objected what) well = absurd well
well_ended (Refused why) well = absurd well
well_ended (Input fault) well = absurd well
well_ended (Budget at) well = absurd well
well_ended (Deep at) well = absurd well
well_ended FileFailed well = absurd well
well_ended ReadFailed well = absurd well
well_ended WriteFailed well = absurd well
well_ended Memory well = absurd well
well_ended Long well = absurd well

-- a command's end is that of the run, or the run ended well, and its state was too large, or couldn't be written, or
-- memory ran out
pub data Behind : End → End → Type 0 where
  its_own : (end : End) → Behind end end
  too_large : (at : ℕ) (ran : End) → WellEnded ran → Behind (Objected (State Large at)) ran
  unwritten : (ran : End) → WellEnded ran → Behind FileFailed ran
  wanting : (ran : End) → WellEnded ran → Behind Memory ran

own : (end ran : End) → ran ≡ end → Behind end ran
own end ran same = subst (λ (e : End). Behind end e) (sym same) (its_own end)

pub behind : (end ran : End) → IsBehind end ran → Behind end ran
behind (Objected (State Large at)) ran well = too_large at ran (well_ended ran well)
behind FileFailed ran (inl same) = own FileFailed ran same
behind FileFailed ran (inr well) = unwritten ran (well_ended ran well)
behind Memory ran (inl same) = own Memory ran same
behind Memory ran (inr well) = wanting ran (well_ended ran well)
behind (Objected (State Form at)) ran same = own (Objected (State Form at)) ran same
behind (Objected (State Untyped at)) ran same = own (Objected (State Untyped at)) ran same
behind (Objected (State OtherVersion at)) ran same = own (Objected (State OtherVersion at)) ran same
behind (Objected (Derivation name at)) ran same = own (Objected (Derivation name at)) ran same
behind (Objected (Bound name at)) ran same = own (Objected (Bound name at)) ran same
behind (Objected (Table name file row)) ran same = own (Objected (Table name file row)) ran same
behind Done ran same = own Done ran same
behind Usage ran same = own Usage ran same
behind (Refused why) ran same = own (Refused why) ran same
behind (Input fault) ran same = own (Input fault) ran same
behind (Budget at) ran same = own (Budget at) ran same
behind (Deep at) ran same = own (Deep at) ran same
behind Open ran same = own Open ran same
behind ReadFailed ran same = own ReadFailed ran same
behind WriteFailed ran same = own WriteFailed ran same
behind Long ran same = own Long ran same

-- a command that ended with 0, 4, 6 or 9 ended as the run did
pub over_behind : (end ran : End) → IsBehind end ran → IsOverInput end → ran ≡ end
over_behind end ran is_behind over = by_run end ran (behind end ran is_behind) over
  where
    by_run : (end ran : End) → Behind end ran → IsOverInput end → ran ≡ end
    by_run _ _ (its_own end) over = refl
    by_run _ _ (too_large at ran well) over = absurd over
    by_run _ _ (unwritten ran well) over = absurd over
    by_run _ _ (wanting ran well) over = absurd over

-- so did one whose text was refused,
pub refusal_behind : (end ran : End) → IsBehind end ran → IsRefusal end → ran ≡ end
refusal_behind (Refused why) ran same refused = same
refusal_behind Done ran same refused = absurd refused
refusal_behind (Input fault) ran same refused = absurd refused
refusal_behind (Budget at) ran same refused = absurd refused
refusal_behind (Deep at) ran same refused = absurd refused
refusal_behind Open ran same refused = absurd refused
refusal_behind ReadFailed ran same refused = absurd refused
refusal_behind WriteFailed ran same refused = absurd refused
refusal_behind Long ran same refused = absurd refused
refusal_behind Usage ran same refused = absurd refused
refusal_behind (Objected what) ran same refused = absurd refused
refusal_behind Memory ran same refused = absurd refused
refusal_behind FileFailed ran same refused = absurd refused

-- for which no program was run
pub unrun_refused : (end : End) → IsRefusal end → IsUnrun end
unrun_refused (Refused why) refused = tt
unrun_refused Done refused = absurd refused
unrun_refused (Input fault) refused = absurd refused
unrun_refused (Budget at) refused = absurd refused
unrun_refused (Deep at) refused = absurd refused
unrun_refused Open refused = absurd refused
unrun_refused ReadFailed refused = absurd refused
unrun_refused WriteFailed refused = absurd refused
unrun_refused Long refused = absurd refused
unrun_refused Usage refused = absurd refused
unrun_refused (Objected what) refused = absurd refused
unrun_refused Memory refused = absurd refused
unrun_refused FileFailed refused = absurd refused

-- a run over a good input that ended well wrote all
wrote_well : (P : Meaning) (old new : Option (List Move)) (left0 left1 : Option (List ℕ)) (w : Version) (all : List ℕ) (word : List StreamEvent) → left0 ≡ Some all → IsGood P w all word
    → IsCheap P word → (ran : End) → WellEnded ran → Ran P old new left0 left1 ran → Adds old new (WroteAll P word)
wrote_well P old new left0 left1 w all word tells good cheap _ is_done so = wrote_all P w all word good cheap old new left0 left1 tells Done so so.at.may.0 so.at.may.3
wrote_well P old new left0 left1 w all word tells good cheap _ is_open so = wrote_all P w all word good cheap old new left0 left1 tells Open so so.at.may.0 so.at.may.3

-- so the command whose state was too large is complete
pub large_complete : (P : Meaning) (old new : Option (List Move)) (left0 left1 : Option (List ℕ)) (status : ℕ) (ran : End) → WellEnded ran → Ran P old new left0 left1 ran
    → (status ≡ 8) ⊎ (status ≡ 10) → IsCompleteWithState P left0 old new status
large_complete P old new left0 left1 status ran well so (inl eight) w all word tells good cheap = inl eight
large_complete P old new left0 left1 status ran well so (inr ten) w all word tells good cheap =
    inr (inr (inr ten), wrote_well P old new left0 left1 w all word tells good cheap ran well so)

-- and one that is complete without that is so with it
pub wider : {Q : Type 0} (status : ℕ) → (status ≡ 8) ⊎ (((status ≡ 0) ⊎ (status ≡ 6)) × Q) → (status ≡ 8) ⊎ (((status ≡ 0) ⊎ (status ≡ 6) ⊎ (status ≡ 10)) × Q)
wider status (inl eight) = inl eight
wider status (inr (inl done, q)) = inr (inl done, q)
wider status (inr (inr awaits, q)) = inr (inr (inl awaits), q)
