-- A run that saves, any that save again, and the run that goes on from what was left last are, together, one run.
use Rattle.std.proofs.Common.{◌≡◌, ◌∙◌, ℕ, List, [], ◌∷◌, ◌++◌, Option, Some, take, ap, ap₂, sym, subst, arith}
use Rattle.std.proofs.lemmas.List.{take_all}
use Rattle.port.specs.declared.link.Move.{Move}
use Rattle.port.specs.Moves.{bytes_read, bytes_written}
use Rattle.event_word.specs.StreamEvent.{StreamEvent}
use Rattle.event_frame.specs.declared.version.Version.{Version}
use Rattle.event_frame.specs.Reading.{whole}
use Rattle.delta_tree.specs.SyntaxTree.{ProgramTree}
use Rattle.delta_end.specs.declared.end.End.{End}
use Rattle.checked_program.proofs.OneAnswer.{accepted_is_one}
use Rattle.delta_loop.specs.Meaning.{Meaning}
use Rattle.delta_loop.specs.Output.{accepted, output, due}
use Rattle.delta_loop.specs.Answer.{Adds}
use Rattle.delta_output.specs.LoopMeaning.{meaning_of}
use Rattle.output_laws.specs.TreeOneShot.{one_shot_of}
use Rattle.commands.specs.Running.{IsMeant}
use Rattle.delta_run.specs.Text.{RunsMoves}
use Rattle.delta_run.specs.Saved.{SavesMoves, LeavesState, IsLeft}
use Rattle.delta_run.specs.SavedAgain.{SavesAgainMoves, LeavesStateAgain, IsLeftAgain}
use Rattle.delta_run.specs.Resumed.{IsMeantSince, ResumesMoves}
use Rattle.delta_run.specs.Laws.{HasSaved, HasSavedAgain, HasResumed, HasRun, HaveSaved, saved_first, saved_again, RunsJoin, AllRunsJoin}
use Rattle.delta_run.proofs.Settling.{same_due}
use Rattle.delta_run.proofs.RunsBehind.{WellEnded, is_done, is_open, well_ended}
use Rattle.delta_run.proofs.JoinedStates.{found_accepted, LeftAt, left_at, GoneOn, accepts_more, writes_more, left_more}

-- what stands behind one front is told by the whole
same_rest : {A : Type 0} (front a b : List A) → front ++ a ≡ front ++ b → a ≡ b
same_rest [] a b e = e
same_rest (x ∷ front) a b e = same_rest front a b cc

-- what holds of some moves that were added holds of those that were
pub of_moves : (old new : Option (List Move)) (Q : List Move → Type 0) → Adds old new Q → (log : List Move) → old ≡ Some log → (moves : List Move) → new ≡ Some (log ++ moves) → Q moves
of_moves old new Q adds log before moves added =
    let these = adds log before in
    let same : Some (log ++ these.0) ≡ Some (log ++ moves) = sym these.1 ∙ added in
    let whole_log : log ++ these.0 ≡ log ++ moves = cc in
    subst Q (same_rest log these.0 moves whole_log) these.2

-- a run whose input ended well accepted each event, and wrote what is due
record WroteDue (meant : Meaning → Type 0) (moves : List Move) : Type 0 where
  means : Meaning
  is : meant means
  accepts : accepted means (whole (bytes_read moves)) ≡ whole (bytes_read moves)
  written : bytes_written moves ≡ due means (bytes_read moves)

module _ (text : List ℕ) (budget : ℕ) (v : Version) (moves : List Move) where
  ran_well : (end : End) → WellEnded end → RunsMoves text budget v end moves → WroteDue (IsMeant text budget v) moves
  ran_well _ is_done so = record { means = so.0; is = so.1; accepts = found_accepted so.0 (bytes_read moves) [] (whole (bytes_read moves)) _ so.3.1; written = so.3.3 }
  ran_well _ is_open so = record { means = so.0; is = so.1; accepts = found_accepted so.0 (bytes_read moves) [] (whole (bytes_read moves)) _ so.3.1; written = so.3.3 }

  -- so did the one behind a command that saved
  saved_well : (end : End) → WellEnded end → SavesMoves text budget v end moves → WroteDue (IsMeant text budget v) moves
  saved_well end is_done so = ran_well end is_done (subst (λ (e : End). RunsMoves text budget v e moves) so.1 so.2)
  saved_well end is_open so = ran_well end is_open (subst (λ (e : End). RunsMoves text budget v e moves) so.1 so.2)

  -- which left its state,
  left_well : (files : Option (List ℕ → List ℕ)) (name : List ℕ) (end : End) → WellEnded end → LeavesState text v files name end moves
      → (bytes : List ℕ) × IsLeft text v files name (bytes_read moves) bytes
  left_well files name _ is_done left = left
  left_well files name _ is_open left = left

  module _ (old : List ℕ) where
    -- one that went on from a state,
    resumed_well : (end : End) → WellEnded end → ResumesMoves text old budget v end moves → WroteDue (IsMeantSince text old budget v) moves
    resumed_well _ is_done so = record { means = so.0; is = so.1; accepts = found_accepted so.0 (bytes_read moves) [] (whole (bytes_read moves)) _ so.3.1; written = so.3.3 }
    resumed_well _ is_open so = record { means = so.0; is = so.1; accepts = found_accepted so.0 (bytes_read moves) [] (whole (bytes_read moves)) _ so.3.1; written = so.3.3 }

    -- and the one behind a command that saved again,
    saved_again_well : (end : End) → WellEnded end → SavesAgainMoves text old budget v end moves → WroteDue (IsMeantSince text old budget v) moves
    saved_again_well end is_done so = resumed_well end is_done (subst (λ (e : End). ResumesMoves text old budget v e moves) so.1 so.2)
    saved_again_well end is_open so = resumed_well end is_open (subst (λ (e : End). ResumesMoves text old budget v e moves) so.1 so.2)

    -- which left its state too
    left_again_well : (files : Option (List ℕ → List ℕ)) (name : List ℕ) (end : End) → WellEnded end → LeavesStateAgain text old v files name end moves
        → (bytes : List ℕ) × IsLeftAgain text old v files name (bytes_read moves) bytes
    left_again_well files name _ is_done left = left
    left_again_well files name _ is_open left = left

-- what is due of a text's program doesn't hang on the budget
due_is_one : (text : List ℕ) (budget other : ℕ) (v : Version) (P Q : Meaning) → IsMeant text budget v P → IsMeant text other v Q → (all : List ℕ) → due P all ≡ due Q all
due_is_one text budget other v P Q h k all =
    let same = (accepted_is_one text h.program k.program h.core k.core h.accepted.accepted k.accepted.accepted).0 in
    ap (λ (M : Meaning). due M all) h.means
    ∙ (same_due (meaning_of v budget (one_shot_of h.program)) other all
    ∙ (ap (λ (p : ProgramTree). due (meaning_of v other (one_shot_of p)) all) same ∙ ap (λ (M : Meaning). due M all) (sym k.means)))

-- commands that saved, one after the other, accepted all these events, wrote what is due for them, and left the state
-- after them
record Turns (text : List ℕ) (v : Version) (bytes : List ℕ) (word : List StreamEvent) (written : List ℕ) : Type 0 where
  budget : ℕ
  means : Meaning
  is : IsMeant text budget v means
  accepts : accepted means word ≡ word
  wrote : written ≡ output means (accepted means word)
  left : LeftAt text v word bytes

-- the first of them
first_turn : (v : Version) (file state : List ℕ) (files left : List ℕ → List ℕ) (moves : List Move) → HasSaved file state v files left moves
    → Turns (take 1048577 (files file)) v (left state) (whole (bytes_read moves)) (bytes_written moves)
first_turn v file state files left moves saved =
    let text = take 1048577 (files file) in
    let told = saved.told in
    let well = well_ended saved.end saved.well in
    let so = of_moves saved.before.log saved.after.log (SavesMoves text saved.budget v saved.end) (saved.saves.ends files told.shelf) told.log told.log_before moves told.log_after in
    let kept =
    of_moves saved.before.log saved.after.log (LeavesState text v saved.after.files state saved.end) (saved.saves.leaves files told.shelf) told.log told.log_before moves told.log_after in
    let its = left_well text saved.budget v moves saved.after.files state saved.end well kept in
    let w = saved_well text saved.budget v moves saved.end well so in
    record {
      budget = saved.budget;
      means = w.means;
      is = w.is;
      accepts = w.accepts;
      wrote = w.written;
      left =
          subst (λ (bytes : List ℕ). LeftAt text v (whole (bytes_read moves)) bytes) (sym (its.1.held left saved.shelf))
          (left_at text v saved.after.files state (bytes_read moves) its.0 its.1);
    }

module _ {text : List ℕ} {v : Version} {bytes : List ℕ} {word : List StreamEvent} {written : List ℕ} (turns : Turns text v bytes word written) where
  -- bytes that were left are read whole
  read_whole : (file : List ℕ) → file ≡ bytes → take 1048577 file ≡ bytes
  read_whole file same = ap (λ (bs : List ℕ). take 1048577 bs) same ∙ take_all 1048577 bytes (omega (arith, turns.left.few))

  -- what holds of a text and of bytes that are these holds of these
  of_text : (Q : List ℕ → List ℕ → Type 0) (t bs : List ℕ) → t ≡ text → bs ≡ bytes → Q t bs → Q text bytes
  of_text Q t bs same_text same_bytes q = subst (λ (b : List ℕ). Q text b) same_bytes (subst (λ (u : List ℕ). Q u bs) same_text q)

  -- whoever goes on from what they left
  gone_on : (later : ℕ) (moves : List Move) (w : WroteDue (IsMeantSince text bytes later v) moves) → GoneOn text v word bytes turns.means w.means
  gone_on later moves w = record { budget = turns.budget; later = later; meant = turns.is; accepts = turns.accepts; left = turns.left; went = w.is }

  -- writes, with them, what is due for all events,
  wrote_more : (later : ℕ) (moves : List Move) → WroteDue (IsMeantSince text bytes later v) moves
      → written ++ bytes_written moves ≡ output turns.means (accepted turns.means (word ++ whole (bytes_read moves)))
  wrote_more later moves w =
      ap₂ (λ (begun since : List ℕ). begun ++ since) turns.wrote w.written ∙ writes_more (gone_on later moves w) (whole (bytes_read moves))

  -- and where it saved again, left the state after them
  next_turn : (file state old : List ℕ) (files left : List ℕ → List ℕ) (moves : List Move) → HasSavedAgain file state old v files left moves → take 1048577 (files file) ≡ text → files old ≡ bytes
      → Turns text v (left state) (word ++ whole (bytes_read moves)) (written ++ bytes_written moves)
  next_turn file state old files left moves saved its_text its_old =
      let told = saved.told in
      let well = well_ended saved.end saved.well in
      let its_bytes = read_whole (files old) its_old in
      let so =
      of_text (λ t bs. SavesAgainMoves t bs saved.budget v saved.end moves) (take 1048577 (files file)) (take 1048577 (files old)) its_text its_bytes
      (of_moves saved.before.log saved.after.log (SavesAgainMoves (take 1048577 (files file)) (take 1048577 (files old)) saved.budget v saved.end)
      (saved.saves.ends files told.shelf files told.shelf) told.log told.log_before moves told.log_after) in
      let kept =
      of_text (λ t bs. LeavesStateAgain t bs v saved.after.files state saved.end moves) (take 1048577 (files file)) (take 1048577 (files old)) its_text its_bytes
      (of_moves saved.before.log saved.after.log (LeavesStateAgain (take 1048577 (files file)) (take 1048577 (files old)) v saved.after.files state saved.end)
      (saved.saves.leaves files told.shelf files told.shelf) told.log told.log_before moves told.log_after) in
      let its = left_again_well text saved.budget v moves bytes saved.after.files state saved.end well kept in
      let w = saved_again_well text saved.budget v moves bytes saved.end well so in
      let on = gone_on saved.budget moves w in
      record {
        budget = turns.budget;
        means = turns.means;
        is = turns.is;
        accepts = accepts_more on (whole (bytes_read moves)) ∙ ap (λ (since : List StreamEvent). word ++ since) w.accepts;
        wrote = wrote_more saved.budget moves w;
        left =
            subst (λ (again : List ℕ). LeftAt text v (word ++ whole (bytes_read moves)) again) (sym (its.1.held left saved.shelf))
            (left_more on saved.after.files state (bytes_read moves) its.0 w.accepts its.1);
      }

  -- so one run on all inputs writes what they and the one that resumed wrote
  last_turn : (file2 state2 file3 : List ℕ) (files2 files3 : List ℕ → List ℕ) (last all : List Move) → HasResumed file2 state2 v files2 last → HasRun file3 v files3 all
      → take 1048577 (files2 file2) ≡ text → take 1048577 (files3 file3) ≡ text → files2 state2 ≡ bytes → whole (bytes_read all) ≡ word ++ whole (bytes_read last)
      → written ++ bytes_written last ≡ bytes_written all
  last_turn file2 state2 file3 files2 files3 last all resumed ran its_text alone_text its_state joined =
      let so =
      of_text (λ t bs. ResumesMoves t bs resumed.budget v resumed.end last) (take 1048577 (files2 file2)) (take 1048577 (files2 state2)) its_text (read_whole (files2 state2) its_state)
      (of_moves resumed.before.log resumed.after.log (ResumesMoves (take 1048577 (files2 file2)) (take 1048577 (files2 state2)) resumed.budget v resumed.end)
      (resumed.resumes.ends files2 resumed.told.shelf files2 resumed.told.shelf) resumed.told.log resumed.told.log_before last resumed.told.log_after) in
      let alone =
      subst (λ (t : List ℕ). RunsMoves t ran.budget v ran.end all) alone_text
      (of_moves ran.before.log ran.after.log (RunsMoves (take 1048577 (files3 file3)) ran.budget v ran.end) (ran.runs.ends files3 ran.told.shelf) ran.told.log ran.told.log_before all ran.told.log_after) in
      let w = resumed_well text resumed.budget v last bytes resumed.end (well_ended resumed.end resumed.well) so in
      let u = ran_well text ran.budget v all ran.end (well_ended ran.end ran.well) alone in
      wrote_more resumed.budget last w
      ∙ (ap (λ (events : List StreamEvent). output turns.means (accepted turns.means events)) (sym joined)
      ∙ (due_is_one text turns.budget ran.budget v turns.means u.means turns.is u.is (bytes_read all) ∙ sym u.written))

-- so it is with all that saved
turns_of : (text : List ℕ) (v : Version) (bytes : List ℕ) (word : List StreamEvent) (written : List ℕ) → HaveSaved text v bytes word written → Turns (take 1048577 text) v bytes word written
turns_of text v _ _ _ (saved_first file state files left moves saved same) =
    subst (λ (t : List ℕ). Turns (take 1048577 t) v (left state) (whole (bytes_read moves)) (bytes_written moves)) same (first_turn v file state files left moves saved)
turns_of text v _ _ _ (saved_again bytes word written file state old files left moves before saved same its_old) =
    next_turn (turns_of text v bytes word written before) file state old files left moves saved (ap (λ (t : List ℕ). take 1048577 t) same) its_old

pub runs_join : RunsJoin
runs_join v file1 state1 file2 state2 file3 files1 left1 files2 files3 first second both saved resumed ran same_text same_alone same_state joined =
    last_turn (first_turn v file1 state1 files1 left1 first saved) file2 state2 file3 files2 files3 second both resumed ran (ap (λ (t : List ℕ). take 1048577 t) same_text)
    (ap (λ (t : List ℕ). take 1048577 t) same_alone) same_state joined

pub all_runs_join : AllRunsJoin
all_runs_join text v bytes word written file2 state2 file3 files2 files3 last all saved resumed ran same_text same_alone same_state joined =
    last_turn (turns_of text v bytes word written saved) file2 state2 file3 files2 files3 last all resumed ran (ap (λ (t : List ℕ). take 1048577 t) same_text)
    (ap (λ (t : List ℕ). take 1048577 t) same_alone) same_state joined
