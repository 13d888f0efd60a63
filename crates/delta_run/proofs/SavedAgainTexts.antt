-- From the end of a run that goes on from a state and leaves its own to what its caller may know.
use Rattle.std.proofs.Common.{◌≡◌, ◌⊎◌, inl, inr, ℕ, List, ◌+◌, ◌<◌, ◌^◌, Option, Some, Result, sym, subst, refl, length, take}
use Rattle.port.specs.declared.link.Move.{Move}
use Rattle.port.specs.declared.fault.IoFault.{IoFault}
use Rattle.port.specs.Faults.{HasCause}
use Rattle.port.specs.Moves.{bytes_read}
use Rattle.event_frame.specs.declared.version.Version.{Version}
use Rattle.event_frame.specs.Reading.{whole}
use Rattle.delta_tree.specs.SyntaxTree.{ProgramTree}
use Rattle.core_term.specs.CoreTerm.{CoreProgram}
use Rattle.kept_state.specs.KeptTree.{KeptTree}
use Rattle.kept_state.specs.KeptBytes.{kept_bytes}
use Rattle.delta_end.specs.declared.objection.StateName.TheVariants.{Form, Untyped, Version as OtherVersion, Large}
use Rattle.delta_end.specs.declared.objection.Objection.TheVariants.{Derivation, Bound, Table, State}
use Rattle.delta_end.specs.declared.end.End.{End}
use Rattle.delta_end.specs.declared.end.End.TheVariants.{Done, Usage, Refused, Input, Budget, Deep, Open, FileFailed, ReadFailed, WriteFailed, Memory, Long, Objected}
use Rattle.delta_end.specs.End.{FileCause, ReadCause, WriteCause}
use Rattle.delta_end.specs.Status.{AnswerOf, IsStill}
use Rattle.delta_end.proofs.Statuses.{not_rose, answered, answered_eight}
use Rattle.checked_program.specs.Acceptance.{IsWritable}
use Rattle.checked_program.proofs.OneAnswer.{writing_is_judged}
use Rattle.delta_loop.specs.Meaning.{Meaning}
use Rattle.delta_loop.specs.History.{IsUntouched}
use Rattle.delta_loop.specs.Loop.{Ran}
use Rattle.delta_loop.specs.Answer.{Adds, IsComplete}
use Rattle.delta_runner.specs.KeptOneShot.{meaning_since}
use Rattle.commands.specs.Leaving.{IsKeptAgain, IsSaved, LeavesState}
use Rattle.commands.specs.Resuming.{IsTypedAs}
use Rattle.commands.specs.Texts.{ResumesIts}
use Rattle.commands.specs.Saving.{SavesTextFrom, LeavesAgain, way_since}
use Rattle.delta_run.specs.Text.{IsRefusal}
use Rattle.delta_run.specs.Evaluated.{RefusesUnwritable}
use Rattle.delta_run.specs.Saved.{IsCompleteWithState}
use Rattle.delta_run.specs.Resumed.{ResumedText, IsMeantSince, ResumesPromptly, ResumesWell, RefusesState, ResumesSettled}
use Rattle.delta_run.specs.SavedAgain.{SavedAgainText, SavesAgainMoves, IsStateAgain, IsLeftAgain, LeavesStateAgain, SavesAgainWell}
use Rattle.delta_run.proofs.RunsBehind.{same_files, WellEnded, is_done, is_open, Behind, its_own, too_large, unwritten, wanting, behind, over_behind, refusal_behind, unrun_refused, large_complete, wider}
use Rattle.delta_run.proofs.ResumedTexts.{resumed_text, resumed_unrun, WentOn, well_went, resumed_prompt, resumed_return, typed_as, of_this, resumed_settled, resumed_untyped, resumed_complete, resumed_refused}

module _ (text : List ℕ) (budget : ℕ) (v : Version) (from name : List ℕ) (old new : Option (List Move)) (left0 left1 : Option (List ℕ)) (files0 files1 : Option (List ℕ → List ℕ)) where
  abbrev Saved : End → Type 0
  Saved end = SavedAgainText text budget v from name old new left0 left1 files0 files1 end

  abbrev Resumed : End → Type 0
  Resumed end = ResumedText text budget v files0 from old new left0 left1 end

  -- what was judged is the text of the file
  pub saved_again_text : (end : End) → SavesTextFrom old new left0 left1 text budget v from name files0 files1 end → Saved end
  saved_again_text end saves = record {
    behind = saves.behind;
    is_behind = saves.is_behind;
    ended = resumed_text text budget v files0 from old new left0 left1 saves.behind saves.ended;
    leaves = saves.leaves;
    changes = saves.changes;
    still = saves.still;
  }

  -- where nothing was done, for want of memory, or since no file was read, that stands behind the end
  pub saved_again_nothing : IsUntouched old new left0 left1 → files1 ≡ files0 → Saved Memory
  saved_again_nothing none same =
      record { behind = Memory; is_behind = inl refl; ended = inl none; leaves = λ p c accepted told is k typed. tt; changes = same_files files0 files1 name same; still = λ ill. same }

  pub saved_again_unread : IsUntouched old new left0 left1 → files1 ≡ files0 → Saved FileFailed
  saved_again_unread none same =
      record { behind = FileFailed; is_behind = inl refl; ended = none; leaves = λ p c accepted told is k typed. tt; changes = same_files files0 files1 name same; still = λ ill. same }

  -- where the text is refused nothing is read or written, whatever the shelf tells
  pub saved_again_unrun : (end : End) → Saved end → IsRefusal end → IsUntouched old new left0 left1
  saved_again_unrun end saved refused = resumed_unrun text budget v files0 from old new left0 left1 end (subst Resumed (refusal_behind end saved.behind saved.is_behind refused) saved.ended) (unrun_refused end refused)

  module _ (told : List ℕ → List ℕ) (files_are : files0 ≡ Some told) where
    abbrev bytes : List ℕ
    bytes = take 1048577 (told from)

    -- it is prompt, as the run behind it is
    pub saved_again_prompt : (end : End) → Saved end → Adds old new (ResumesPromptly text bytes budget v)
    saved_again_prompt end saved = resumed_prompt text budget v files0 from old new left0 left1 told files_are saved.behind saved.ended

    -- it ended as that run does
    pub saved_again_return : (end : End) → Saved end → Adds old new (SavesAgainMoves text bytes budget v end)
    saved_again_return end saved log is =
        let adds = resumed_return text budget v files0 from old new left0 left1 told files_are saved.behind saved.ended log is in
        (adds.0, adds.1, (saved.behind, saved.is_behind, adds.2))

    -- a run that ended well went on from the old state
    went : (ran : End) → WellEnded ran → Resumed ran → WentOn text budget v files0 from old new left0 left1 told files_are ran
    went ran well so = well_went text budget v files0 from old new left0 left1 told files_are ran well so

    -- what is to be kept of it after what was read
    abbrev state_again : {P : Meaning} (meant : IsMeantSince text bytes budget v P) (ran : End) (so : Ran (meaning_since v budget meant.core meant.state) old new left0 left1 ran) (l : KeptTree) (places : List ℕ)
        → IsKeptAgain meant.core meant.state (whole so.input) l → IsStateAgain text bytes v (bytes_read so.at.history.moves) (kept_bytes l places)
    state_again meant ran so l places kept = record {
      program = meant.program;
      core = meant.core;
      accepted = meant.accepted;
      before = meant.state;
      typed = meant.typed;
      state = l;
      places = places;
      kept = subst (λ (input : List ℕ). IsKeptAgain meant.core meant.state (whole input) l) (sym so.at.history.read) kept;
      has_bytes = refl;
    }

    moves_of : (ran : End) (P : Meaning) (so : Ran P old new left0 left1 ran) (Q : List Move → Type 0) → Q so.at.history.moves → Adds old new Q
    moves_of ran P so Q q log is = (so.at.history.moves, so.at.history.logged log is, q)

    -- and where its bytes were written they are left
    left_again : {P : Meaning} (meant : IsMeantSince text bytes budget v P) (end : End) (saved : IsSaved (way_since old new left0 left1 meant.core meant.state budget v) files1 name end)
        → IsLeftAgain text bytes v files1 name (bytes_read saved.leaves.ran.at.history.moves) (kept_bytes saved.state saved.places)
    left_again meant end saved = record {
      after = state_again meant end saved.leaves.ran saved.state saved.places saved.leaves.kept;
      sizes = saved.sizes;
      few = saved.few;
      held = saved.held;
    }

    abbrev Leaves : End → Type 0
    Leaves end = (p : ProgramTree) (c : CoreProgram) → IsWritable text v p c → LeavesAgain old new left0 left1 c budget v files0 from name files1 end

    -- of the state that the file is
    of_state : (end : End) → Leaves end → {P : Meaning} (meant : IsMeantSince text bytes budget v P) → LeavesState (way_since old new left0 left1 meant.core meant.state budget v) files1 name end
    of_state end leaves meant = leaves meant.program meant.core meant.accepted told files_are meant.state meant.typed

    its_state : (end : End) → WellEnded end → {P : Meaning} → IsMeantSince text bytes budget v P → Leaves end → Adds old new (LeavesStateAgain text bytes v files1 name end)
    its_state _ is_done meant leaves =
        let saved = of_state Done leaves meant in
        moves_of Done _ saved.leaves.ran (LeavesStateAgain text bytes v files1 name Done) (kept_bytes saved.state saved.places, left_again meant Done saved)
    its_state _ is_open meant leaves =
        let saved = of_state Open leaves meant in
        moves_of Open _ saved.leaves.ran (LeavesStateAgain text bytes v files1 name Open) (kept_bytes saved.state saved.places, left_again meant Open saved)

    large_state : {P : Meaning} (meant : IsMeantSince text bytes budget v P) (at : ℕ) → LeavesState (way_since old new left0 left1 meant.core meant.state budget v) files1 name (Objected (State Large at))
        → Adds old new (LeavesStateAgain text bytes v files1 name (Objected (State Large at)))
    large_state meant at (inl large, is) =
        moves_of large.end _ large.leaves.ran (LeavesStateAgain text bytes v files1 name (Objected (State Large at)))
        (inl (kept_bytes large.state large.places, state_again meant large.end large.leaves.ran large.state large.places large.leaves.kept, large.large), is)
    large_state meant at (inr long, is) =
        moves_of long.end _ long.ran (LeavesStateAgain text bytes v files1 name (Objected (State Large at))) (
          inr (record {
            program = meant.program;
            core = meant.core;
            accepted = meant.accepted;
            before = meant.state;
            typed = meant.typed;
            far = subst (λ (input : List ℕ). 2 ^ 41 < meant.state.events + length (whole input)) (sym long.ran.at.history.read) long.far;
          }),
          is,
        )

    -- where nothing is left nothing is said of it
    says_nothing : (end ran : End) → Resumed ran → LeavesStateAgain text bytes v files1 name end ≡ (λ moves. Unit {0}) → Adds old new (LeavesStateAgain text bytes v files1 name end)
    says_nothing end ran so none log is =
        let adds = resumed_prompt text budget v files0 from old new left0 left1 told files_are ran so log is in
        (adds.0, adds.1, subst (λ (Q : List Move → Type 0). Q adds.0) (sym none) tt)

    own_state : (end : End) → Resumed end → Leaves end → Adds old new (LeavesStateAgain text bytes v files1 name end)
    own_state Done ran leaves = its_state Done is_done (went Done is_done ran).1 leaves
    own_state Open ran leaves = its_state Open is_open (went Open is_open ran).1 leaves
    own_state (Objected (State Large at)) ran leaves = absurd (ran.resumes told files_are).0
    own_state FileFailed ran leaves = says_nothing FileFailed FileFailed ran refl
    own_state Memory ran leaves = says_nothing Memory Memory ran refl
    own_state (Refused why) ran leaves = says_nothing (Refused why) (Refused why) ran refl
    own_state (Objected (State Form at)) ran leaves = says_nothing (Objected (State Form at)) (Objected (State Form at)) ran refl
    own_state (Objected (State Untyped at)) ran leaves = says_nothing (Objected (State Untyped at)) (Objected (State Untyped at)) ran refl
    own_state (Objected (State OtherVersion at)) ran leaves = says_nothing (Objected (State OtherVersion at)) (Objected (State OtherVersion at)) ran refl
    own_state (Objected (Derivation name at)) ran leaves = says_nothing (Objected (Derivation name at)) (Objected (Derivation name at)) ran refl
    own_state (Objected (Bound name at)) ran leaves = says_nothing (Objected (Bound name at)) (Objected (Bound name at)) ran refl
    own_state (Objected (Table name file row)) ran leaves = says_nothing (Objected (Table name file row)) (Objected (Table name file row)) ran refl
    own_state Usage ran leaves = says_nothing Usage Usage ran refl
    own_state (Input fault) ran leaves = says_nothing (Input fault) (Input fault) ran refl
    own_state (Budget at) ran leaves = says_nothing (Budget at) (Budget at) ran refl
    own_state (Deep at) ran leaves = says_nothing (Deep at) (Deep at) ran refl
    own_state ReadFailed ran leaves = says_nothing ReadFailed ReadFailed ran refl
    own_state WriteFailed ran leaves = says_nothing WriteFailed WriteFailed ran refl
    own_state Long ran leaves = says_nothing Long Long ran refl

    -- what is left
    pub saved_again_state : (end : End) → Saved end → Adds old new (LeavesStateAgain text bytes v files1 name end)
    saved_again_state end saved = by_run end saved.behind (behind end saved.behind saved.is_behind) saved.ended saved.leaves
      where
        by_run : (end ran : End) → Behind end ran → Resumed ran → Leaves end → Adds old new (LeavesStateAgain text bytes v files1 name end)
        by_run _ _ (its_own end) ran leaves = own_state end ran leaves
        by_run _ _ (too_large at end well) ran leaves =
            let meant = (went end well ran).1 in
            large_state meant at (of_state (Objected (State Large at)) leaves meant)
        by_run _ _ (unwritten end well) ran leaves = says_nothing FileFailed end ran refl
        by_run _ _ (wanting end well) ran leaves = says_nothing Memory end ran refl

    -- one that ended with 0, 4, 6 or 9 is settled by its whole input
    pub saved_again_settled : (end : End) → Saved end → ResumesSettled text bytes v left0 old new end
    saved_again_settled end saved p c accepted over =
        let same = over_behind end saved.behind saved.is_behind over in
        resumed_settled text budget v files0 from old new left0 left1 told files_are end (subst Resumed same saved.ended) p c accepted over

    module _ (file0 file1 note0 note1 : ℕ) (file_still : IsStill file0 file1) (note_still : IsStill note0 note1) (said : Result (Unit {0}) IoFault) (status : ℕ) (cause : HasCause said note0 note1) where
      -- what is no typed state is refused
      pub saved_again_untyped : (end : End) → Saved end → FileCause end file0 file1 → AnswerOf end said status → RefusesState text bytes v status
      saved_again_untyped end saved file is = by_run end saved.behind (behind end saved.behind saved.is_behind) saved.ended file is
        where
          by_run : (end ran : End) → Behind end ran → Resumed ran → FileCause end file0 file1 → AnswerOf end said status → RefusesState text bytes v status
          by_run _ _ (its_own end) ran file is =
              resumed_untyped text budget v files0 from old new left0 left1 told files_are file0 file1 note0 note1 file_still note_still said status cause end ran file is
          by_run _ _ (too_large at end well) ran file is = λ p c accepted none. answered (Objected (State Large at)) said status note0 note1 is cause note_still
          by_run _ _ (unwritten end well) ran file is = λ p c accepted none. absurd (not_rose file0 file1 file file_still)
          by_run _ _ (wanting end well) ran file is = λ p c accepted none. inl (answered_eight said status note0 note1 is cause note_still)

      module _ (read0 read1 write0 write1 : ℕ) (read_still : IsStill read0 read1) (write_still : IsStill write0 write1) where
        -- a state may be too large, which none is where none is left
        with_state : ResumesWell text bytes budget v left0 old new status → SavesAgainWell text bytes budget v left0 old new status
        with_state well p c accepted = by_way (well p c accepted)
          where
            by_way : (status ≡ 8) ⊎ ((status ≡ 10) × ((k : KeptTree) → IsTypedAs c bytes k → ⊥)) ⊎ ((k : KeptTree) × IsTypedAs c bytes k × IsComplete (meaning_since v budget c k) left0 old new status)
                → (status ≡ 8) ⊎ ((status ≡ 10) × ((k : KeptTree) → IsTypedAs c bytes k → ⊥)) ⊎ ((k : KeptTree) × IsTypedAs c bytes k × IsCompleteWithState (meaning_since v budget c k) left0 old new status)
            by_way (inl eight) = inl eight
            by_way (inr (inl refused)) = inr (inl refused)
            by_way (inr (inr on)) = inr (inr (on.0, on.1, λ w all word tells good cheap. wider status (on.2 w all word tells good cheap)))

        -- a run over a good input ends well
        pub saved_again_complete : (end : End) → Saved end → FileCause end file0 file1 → ReadCause end read0 read1 → WriteCause end write0 write1 → AnswerOf end said status
            → SavesAgainWell text bytes budget v left0 old new status
        saved_again_complete end saved file read write is = by_run end saved.behind (behind end saved.behind saved.is_behind) saved.ended file read write is
          where
            by_run : (end ran : End) → Behind end ran → Resumed ran → FileCause end file0 file1 → ReadCause end read0 read1 → WriteCause end write0 write1 → AnswerOf end said status
                → SavesAgainWell text bytes budget v left0 old new status
            by_run _ _ (its_own end) ran file read write is =
                with_state (resumed_complete text budget v files0 from old new left0 left1 told files_are file0 file1 note0 note1 file_still note_still said status cause read0 read1 write0 write1 read_still
                write_still end ran file read write is)
            by_run _ _ (too_large at end well) ran file read write is =
                let on = went end well ran in λ p c accepted. inr (inr (
                  on.1.state,
                  typed_as text budget v files0 from old new left0 left1 told files_are p c accepted on.1,
                  large_complete (meaning_since v budget c on.1.state) old new left0 left1 status end well
                      (of_this text budget v files0 from old new left0 left1 told files_are p c accepted end on) (answered (Objected (State Large at)) said status note0 note1 is cause note_still),
                ))
            by_run _ _ (unwritten end well) ran file read write is = λ p c accepted. absurd (not_rose file0 file1 file file_still)
            by_run _ _ (wanting end well) ran file read write is = λ p c accepted. inl (answered_eight said status note0 note1 is cause note_still)

  -- the text of a run that ended well is accepted
  its_text : (ran : End) → WellEnded ran → Resumed ran → ResumesIts text budget v files0 from old new left0 left1 ran
  its_text _ is_done its = its
  its_text _ is_open its = its

  module _ (file0 file1 note0 note1 : ℕ) (file_still : IsStill file0 file1) (note_still : IsStill note0 note1) (said : Result (Unit {0}) IoFault) (status : ℕ) (cause : HasCause said note0 note1) where
    -- a refused text gives 3, whatever the third file is
    pub saved_again_refused : (end : End) → Saved end → FileCause end file0 file1 → AnswerOf end said status → RefusesUnwritable text v status
    saved_again_refused end saved file is = by_run end saved.behind (behind end saved.behind saved.is_behind) saved.ended file is
      where
        by_run : (end ran : End) → Behind end ran → Resumed ran → FileCause end file0 file1 → AnswerOf end said status → RefusesUnwritable text v status
        by_run _ _ (its_own end) ran file is = resumed_refused text budget v files0 from old new left0 left1 file0 file1 note0 note1 file_still note_still said status cause end ran file is
        by_run _ _ (too_large at end well) ran file is =
            let its = its_text end well ran in
            λ why r. absurd (writing_is_judged.not_refused text v its.program its.core why its.accepted r)
        by_run _ _ (unwritten end well) ran file is = λ why r. absurd (not_rose file0 file1 file file_still)
        by_run _ _ (wanting end well) ran file is = λ why r. inl (answered_eight said status note0 note1 is cause note_still)
