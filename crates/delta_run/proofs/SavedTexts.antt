-- From the end of a run that leaves its state to what its caller may know.
use Rattle.std.proofs.Common.{◌≡◌, inl, inr, ℕ, List, Option, Result, ◌∙◌, ap, sym, subst, refl}
use Rattle.port.specs.declared.link.Move.{Move}
use Rattle.port.specs.declared.fault.IoFault.{IoFault}
use Rattle.port.specs.Faults.{HasCause}
use Rattle.port.specs.Moves.{bytes_read}
use Rattle.event_frame.specs.declared.version.Version.{Version}
use Rattle.event_frame.specs.Reading.{whole}
use Rattle.delta_tree.specs.SyntaxTree.{ProgramTree}
use Rattle.core_term.specs.CoreTerm.{CoreProgram}
use Rattle.kept_state.specs.KeptTree.{KeptTree}
use Rattle.kept_state.specs.KeptBytes.{kept_bytes}
use Rattle.delta_end.specs.declared.objection.StateName.TheVariants.{Form, Untyped, Version as OtherVersion, Large}
use Rattle.delta_end.specs.declared.objection.Objection.TheVariants.{Derivation, Bound, Table, State}
use Rattle.delta_end.specs.declared.end.End.{End}
use Rattle.delta_end.specs.declared.end.End.TheVariants.{Done, Usage, Refused, Input, Budget, Deep, Open, FileFailed, ReadFailed, WriteFailed, Memory, Long, Objected}
use Rattle.delta_end.specs.End.{FileCause, ReadCause, WriteCause}
use Rattle.delta_end.specs.Status.{AnswerOf, IsStill}
use Rattle.delta_end.proofs.Statuses.{not_rose, answered, answered_eight}
use Rattle.checked_program.specs.Acceptance.{IsWritable}
use Rattle.checked_program.proofs.OneAnswer.{accepted_is_one, writing_is_judged}
use Rattle.delta_loop.specs.Meaning.{Meaning}
use Rattle.delta_loop.specs.History.{IsUntouched}
use Rattle.delta_loop.specs.Loop.{Ran}
use Rattle.delta_loop.specs.Answer.{Adds, ReadsWell}
use Rattle.delta_output.specs.LoopMeaning.{meaning_of}
use Rattle.output_laws.specs.TreeOneShot.{one_shot_of}
use Rattle.commands.specs.Running.{Takes, RanIts}
use Rattle.commands.specs.Leaving.{IsKeptOf, IsSaved, LeavesState as LeavesOfWay}
use Rattle.commands.specs.Saving.{SavesText, way_of_tree}
use Rattle.commands.proofs.Behind.{reads_behind, usage_behind}
use Rattle.delta_run.specs.Text.{IsRefusal, RanText, RunsPromptly}
use Rattle.delta_run.specs.Settled.{SettlesWell}
use Rattle.delta_run.specs.Evaluated.{RefusesUnwritable}
use Rattle.delta_run.specs.Saved.{SavedText, SavesMoves, IsStateAfter, IsLeft, LeavesState, SavesWell}
use Rattle.delta_run.proofs.RunsBehind.{same_files, WellEnded, is_done, is_open, Behind, its_own, too_large, unwritten, wanting, behind, over_behind, refusal_behind, unrun_refused, large_complete, wider}
use Rattle.delta_run.proofs.SettledTexts.{text_settled}
use Rattle.delta_run.proofs.TextRuns.{ran_text, runs_usage, text_prompt, text_reads, text_takes, text_unrun, text_return, text_refused, text_complete}

module _ (text : List ℕ) (budget : ℕ) (v : Version) (name : List ℕ) (old new : Option (List Move)) (left0 left1 : Option (List ℕ)) (files0 files1 : Option (List ℕ → List ℕ)) where
  abbrev Saved : End → Type 0
  Saved end = SavedText text budget v name old new left0 left1 files0 files1 end

  -- what was done with the text is done with that of the file
  pub saved_text : (end : End) → SavesText old new left0 left1 text budget v name files0 files1 end → Saved end
  saved_text end saves = record {
    behind = saves.behind;
    is_behind = saves.is_behind;
    ended = ran_text text budget v old new left0 left1 saves.behind saves.ended;
    leaves = saves.leaves;
    changes = saves.changes;
    still = saves.still;
  }

  -- where nothing was done, for want of memory, or since no file was read, that stands behind the end
  pub saved_nothing : IsUntouched old new left0 left1 → files1 ≡ files0 → Saved Memory
  saved_nothing none same = record { behind = Memory; is_behind = inl refl; ended = inl none; leaves = λ p c accepted. tt; changes = same_files files0 files1 name same; still = λ ill. same }

  pub saved_unread : IsUntouched old new left0 left1 → files1 ≡ files0 → Saved FileFailed
  saved_unread none same = record { behind = FileFailed; is_behind = inl refl; ended = none; leaves = λ p c accepted. tt; changes = same_files files0 files1 name same; still = λ ill. same }

  -- it is prompt, as the run behind it is
  pub saved_prompt : (end : End) → Saved end → Adds old new (RunsPromptly text budget v)
  saved_prompt end saved = text_prompt text budget v old new left0 left1 saved.behind saved.ended

  -- it reads what that run reads
  pub saved_reads : (end : End) → Saved end → Adds old new (ReadsWell end)
  saved_reads end saved = reads_behind end saved.behind old new saved.is_behind (text_reads text budget v old new left0 left1 saved.behind saved.ended)

  -- it takes what that run takes
  pub saved_takes : (end : End) → Saved end → Adds old new (Takes left0 left1)
  saved_takes end saved = text_takes text budget v old new left0 left1 saved.behind saved.ended

  -- where the text is refused nothing is read or written
  pub saved_unrun : (end : End) → Saved end → IsRefusal end → IsUntouched old new left0 left1
  saved_unrun end saved refused = text_unrun text budget v old new left0 left1 end (subst (RanText text budget v old new left0 left1) (refusal_behind end saved.behind saved.is_behind refused) saved.ended) (unrun_refused end refused)

  -- it ended as that run does
  pub saved_return : (end : End) → Saved end → Adds old new (SavesMoves text budget v end)
  saved_return end saved told is =
      let adds = text_return text budget v old new left0 left1 saved.behind saved.ended told is in
      (adds.0, adds.1, (saved.behind, saved.is_behind, adds.2))

  -- it isn't usage
  pub saves_usage : (end : End) → Saved end → end ≡ Usage → ⊥
  saves_usage end saved same = runs_usage text budget v old new left0 left1 saved.behind saved.ended (usage_behind end saved.behind saved.is_behind same)

  -- a run that ended well is one of the text's program
  its_run : (ran : End) → WellEnded ran → RanText text budget v old new left0 left1 ran → RanIts text budget v old new left0 left1 ran
  its_run _ is_done ran = ran
  its_run _ is_open ran = ran

  -- the state is left after what was read
  abbrev state_after : (p : ProgramTree) (c : CoreProgram) → IsWritable text v p c → (ran : End) (so : Ran (meaning_of v budget (one_shot_of p)) old new left0 left1 ran) (k : KeptTree) (places : List ℕ)
      → IsKeptOf c (whole so.input) k → IsStateAfter text v (bytes_read so.at.history.moves) (kept_bytes k places)
  state_after p c accepted ran so k places kept = record {
    program = p;
    core = c;
    accepted = accepted;
    state = k;
    places = places;
    kept = subst (λ (input : List ℕ). IsKeptOf c (whole input) k) (sym so.at.history.read) kept;
    has_bytes = refl;
  }

  moves_of : (ran : End) (P : Meaning) (so : Ran P old new left0 left1 ran) (Q : List Move → Type 0) → Q so.at.history.moves → Adds old new Q
  moves_of ran P so Q q told is = (so.at.history.moves, so.at.history.logged told is, q)

  -- and where its bytes were written they are left
  is_left : (p : ProgramTree) (c : CoreProgram) → IsWritable text v p c → (end : End) (saved : IsSaved (way_of_tree old new left0 left1 p c budget v) files1 name end)
      → IsLeft text v files1 name (bytes_read saved.leaves.ran.at.history.moves) (kept_bytes saved.state saved.places)
  is_left p c accepted end saved = record {
    after = state_after p c accepted end saved.leaves.ran saved.state saved.places saved.leaves.kept;
    sizes = saved.sizes;
    few = saved.few;
    held = saved.held;
  }

  abbrev Leaves : End → Type 0
  Leaves end = (p : ProgramTree) (c : CoreProgram) → IsWritable text v p c → LeavesOfWay (way_of_tree old new left0 left1 p c budget v) files1 name end

  its_state : (end : End) → WellEnded end → RanIts text budget v old new left0 left1 end → Leaves end → Adds old new (LeavesState text v files1 name end)
  its_state _ is_done ran leaves =
      let its = ran.1 in
      let saved = leaves its.program its.core its.accepted in
      moves_of Done _ saved.leaves.ran (LeavesState text v files1 name Done) (kept_bytes saved.state saved.places, is_left its.program its.core its.accepted Done saved)
  its_state _ is_open ran leaves =
      let its = ran.1 in
      let saved = leaves its.program its.core its.accepted in
      moves_of Open _ saved.leaves.ran (LeavesState text v files1 name Open) (kept_bytes saved.state saved.places, is_left its.program its.core its.accepted Open saved)

  large_state : (p : ProgramTree) (c : CoreProgram) → IsWritable text v p c → (at : ℕ) → LeavesOfWay (way_of_tree old new left0 left1 p c budget v) files1 name (Objected (State Large at))
      → Adds old new (LeavesState text v files1 name (Objected (State Large at)))
  large_state p c accepted at (inl large, is) =
      moves_of large.end _ large.leaves.ran (LeavesState text v files1 name (Objected (State Large at)))
      (kept_bytes large.state large.places, state_after p c accepted large.end large.leaves.ran large.state large.places large.leaves.kept, large.large, is)
  large_state p c accepted at (inr long, is) = absurd long.far

  -- where nothing is left nothing is said of it
  says_nothing : (end ran : End) → RanText text budget v old new left0 left1 ran → LeavesState text v files1 name end ≡ (λ moves. Unit {0}) → Adds old new (LeavesState text v files1 name end)
  says_nothing end ran so none told is =
      let adds = text_prompt text budget v old new left0 left1 ran so told is in
      (adds.0, adds.1, subst (λ (Q : List Move → Type 0). Q adds.0) (sym none) tt)

  own_state : (end : End) → RanText text budget v old new left0 left1 end → Leaves end → Adds old new (LeavesState text v files1 name end)
  own_state Done ran leaves = its_state Done is_done ran leaves
  own_state Open ran leaves = its_state Open is_open ran leaves
  own_state (Objected (State Large at)) ran leaves = absurd ran.2.at.may
  own_state FileFailed ran leaves = says_nothing FileFailed FileFailed ran refl
  own_state Memory ran leaves = says_nothing Memory Memory ran refl
  own_state (Refused why) ran leaves = says_nothing (Refused why) (Refused why) ran refl
  own_state (Objected (State Form at)) ran leaves = absurd ran.2.at.may
  own_state (Objected (State Untyped at)) ran leaves = absurd ran.2.at.may
  own_state (Objected (State OtherVersion at)) ran leaves = absurd ran.2.at.may
  own_state (Objected (Derivation told at)) ran leaves = absurd ran.2.at.may
  own_state (Objected (Bound told at)) ran leaves = absurd ran.2.at.may
  own_state (Objected (Table told file row)) ran leaves = absurd ran.2.at.may
  own_state Usage ran leaves = absurd ran.2.at.may
  own_state (Input fault) ran leaves = says_nothing (Input fault) (Input fault) ran refl
  own_state (Budget at) ran leaves = says_nothing (Budget at) (Budget at) ran refl
  own_state (Deep at) ran leaves = says_nothing (Deep at) (Deep at) ran refl
  own_state ReadFailed ran leaves = says_nothing ReadFailed ReadFailed ran refl
  own_state WriteFailed ran leaves = says_nothing WriteFailed WriteFailed ran refl
  own_state Long ran leaves = says_nothing Long Long ran refl

  -- what is left
  pub saved_state : (end : End) → Saved end → Adds old new (LeavesState text v files1 name end)
  saved_state end saved = by_run end saved.behind (behind end saved.behind saved.is_behind) saved.ended saved.leaves
    where
      by_run : (end ran : End) → Behind end ran → RanText text budget v old new left0 left1 ran → Leaves end → Adds old new (LeavesState text v files1 name end)
      by_run _ _ (its_own end) ran leaves = own_state end ran leaves
      by_run _ _ (too_large at end well) ran leaves =
          let its = (its_run end well ran).1 in
          large_state its.program its.core its.accepted at (leaves its.program its.core its.accepted)
      by_run _ _ (unwritten end well) ran leaves = says_nothing FileFailed end ran refl
      by_run _ _ (wanting end well) ran leaves = says_nothing Memory end ran refl

  -- a run that ended with 0, 4, 6 or 9 is settled by its whole input
  pub saved_settled : (end : End) → Saved end → SettlesWell text v left0 old new end
  saved_settled end saved p c accepted all tells other over =
      let same = over_behind end saved.behind saved.is_behind over in
      text_settled text budget v old new left0 left1 end (subst (RanText text budget v old new left0 left1) same saved.ended) p c accepted all tells other over

  module _ (file0 file1 note0 note1 : ℕ) (file_still : IsStill file0 file1) (note_still : IsStill note0 note1) (said : Result (Unit {0}) IoFault) (status : ℕ) (cause : HasCause said note0 note1) where
    -- a refused text gives 3
    pub saved_refused : (end : End) → Saved end → FileCause end file0 file1 → AnswerOf end said status → RefusesUnwritable text v status
    saved_refused end saved file is = by_run end saved.behind (behind end saved.behind saved.is_behind) saved.ended file is
      where
        by_run : (end ran : End) → Behind end ran → RanText text budget v old new left0 left1 ran → FileCause end file0 file1 → AnswerOf end said status → RefusesUnwritable text v status
        by_run _ _ (its_own end) ran file is = text_refused text budget v old new left0 left1 file0 file1 note0 note1 file_still note_still said status cause end ran file is
        by_run _ _ (too_large at end well) ran file is =
            let its = (its_run end well ran).1 in
            λ why r. absurd (writing_is_judged.not_refused text v its.program its.core why its.accepted r)
        by_run _ _ (unwritten end well) ran file is = λ why r. absurd (not_rose file0 file1 file file_still)
        by_run _ _ (wanting end well) ran file is = λ why r. inl (answered_eight said status note0 note1 is cause note_still)

    module _ (read0 read1 write0 write1 : ℕ) (read_still : IsStill read0 read1) (write_still : IsStill write0 write1) where
      -- a run over a good input ends well
      pub saved_complete : (end : End) → Saved end → FileCause end file0 file1 → ReadCause end read0 read1 → WriteCause end write0 write1 → AnswerOf end said status → SavesWell text budget v left0 old new status
      saved_complete end saved file read write is = by_run end saved.behind (behind end saved.behind saved.is_behind) saved.ended file read write is
        where
          by_run : (end ran : End) → Behind end ran → RanText text budget v old new left0 left1 ran → FileCause end file0 file1 → ReadCause end read0 read1 → WriteCause end write0 write1
              → AnswerOf end said status → SavesWell text budget v left0 old new status
          by_run _ _ (its_own end) ran file read write is p c accepted =
              let well =
              text_complete text budget v old new left0 left1 file0 file1 note0 note1 file_still note_still said status cause read0 read1 write0 write1 read_still write_still end ran file read write is in
              λ w all word tells good cheap. wider status (well p c accepted w all word tells good cheap)
          by_run _ _ (too_large at end well) ran file read write is p c accepted =
              let its = its_run end well ran in
              let same : its.1.program ≡ p = (accepted_is_one text its.1.program p its.1.core c its.1.accepted.accepted accepted.accepted).0 in
              let so = subst (λ (P : Meaning). Ran P old new left0 left1 end) (its.1.means ∙ ap (λ (q : ProgramTree). meaning_of v budget (one_shot_of q)) same) its.2 in
              large_complete (meaning_of v budget (one_shot_of p)) old new left0 left1 status end well so (answered (Objected (State Large at)) said status note0 note1 is cause note_still)
          by_run _ _ (unwritten end well) ran file read write is p c accepted = absurd (not_rose file0 file1 file file_still)
          by_run _ _ (wanting end well) ran file read write is p c accepted = λ w all word tells good cheap. inl (answered_eight said status note0 note1 is cause note_still)
