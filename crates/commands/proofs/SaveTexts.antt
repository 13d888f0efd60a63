-- A run that leaves its state is one of its text's program, and what it leaves is that program's, or that of the state in
-- the file.
use Rattle.std.proofs.Common.{◌≡◌, inl, ℕ, List, Option, Some, Err, take, refl, sym, subst, ◌∙◌}
use Rattle.port.specs.declared.link.Move.{Move}
use Rattle.event_frame.specs.declared.version.Version.{Version}
use Rattle.delta_tree.specs.SyntaxTree.{ProgramTree}
use Rattle.core_term.specs.CoreTerm.{CoreProgram}
use Rattle.kept_state.specs.KeptTree.{KeptTree}
use Rattle.kept_state.proofs.TypedShapes.{typed_one_spelling}
use Rattle.kept_check.specs.declared.fault.KeepFault.{KeepFault}
use Rattle.kept_check.specs.declared.fault.KeepFault.TheVariants as fault
use Rattle.kept_check.specs.Loading.{TellsKeepFault, RefusesNone}
use Rattle.delta_end.specs.declared.end.End.{End}
use Rattle.delta_end.specs.declared.end.End.TheVariants.{Usage, FileFailed, Memory}
use Rattle.checked_program.specs.Acceptance.{IsWritable}
use Rattle.checked_program.proofs.OneAnswer.{accepted_is_one}
use Rattle.delta_session.specs.OneShot.{OneShot}
use Rattle.delta_session.specs.Programs.{one_shot}
use Rattle.delta_loop.specs.History.{IsUntouched}
use Rattle.delta_loop.specs.Answer.{Adds, ReadsWell}
use Rattle.delta_loop.proofs.Returning.{ran_reads}
use Rattle.delta_output.specs.LoopMeaning.{meaning_of}
use Rattle.output_laws.proofs.Meant.{same_one_shot}
use Rattle.commands.specs.Leaving.{from_start, Way, Ended, LeavesState, Saves}
use Rattle.commands.specs.Resuming.{IsTypedAs, end_of}
use Rattle.commands.specs.Saving.{way_of_tree, way_since, SavesText, LeavesAgain, SavesBytes, SavesFrom, SavesTextFrom}
use Rattle.commands.specs.Running.{Takes}
use Rattle.commands.proofs.Takings.{ran_takes}
use Rattle.commands.proofs.Behind.{reads_behind, usage_behind}
use Rattle.commands.proofs.Ends.{refuses, goes_on, of_file, resumes_text}
use Rattle.commands.proofs.Leaving.{changes_nothing}
use Rattle.commands.proofs.Ran.{ran_its, runs_text}

-- a run that leaves its state doesn't read after the end of the input, nor more than it may
pub saves_reads : (w : Way) (name : List ℕ) (files0 files1 : Option (List ℕ → List ℕ)) (end : End) → Saves w name files0 files1 end → Adds w.old w.new (ReadsWell end)
saves_reads w name files0 files1 end saves = reads_behind end saves.behind w.old w.new saves.is_behind (ran_reads w.meaning w.old w.new w.left0 w.left1 saves.behind saves.ended)

-- it takes what it reads of what is left
pub saves_takes : (w : Way) (name : List ℕ) (files0 files1 : Option (List ℕ → List ℕ)) (end : End) → Saves w name files0 files1 end → Adds w.old w.new (Takes w.left0 w.left1)
saves_takes w name files0 files1 end saves = ran_takes w.old w.new w.left0 w.left1 w.meaning saves.behind saves.ended

-- and it isn't usage
pub saves_usage : (w : Way) (name : List ℕ) (files0 files1 : Option (List ℕ → List ℕ)) (end : End) → Saves w name files0 files1 end → end ≡ Usage → ⊥
saves_usage w name files0 files1 end saves same = let so : Ended w Usage = subst (Ended w) (usage_behind end saves.behind saves.is_behind same) saves.ended in so.at.may

module _ {old new : Option (List Move)} {left0 left1 : Option (List ℕ)} where
  -- a run that leaves its state is one of the text whose program it ran
  pub saves_text : (text : List ℕ) (budget : ℕ) (v : Version) (name : List ℕ) (files0 files1 : Option (List ℕ → List ℕ)) (p : ProgramTree) (c : CoreProgram) → IsWritable text v p c → (end : End)
      → Saves (record { meaning = meaning_of v budget (one_shot c); origin = from_start c; old = old; new = new; left0 = left0; left1 = left1 }) name files0 files1 end
      → SavesText old new left0 left1 text budget v name files0 files1 end
  saves_text text budget v name files0 files1 p c accepted end saves = record {
    behind = saves.behind;
    is_behind = saves.is_behind;
    ended = runs_text text budget v old new left0 left1 saves.behind (ran_its text budget v p c accepted old new left0 left1 saves.behind saves.ended);
    leaves = λ q d again.
        let same = accepted_is_one text p q c d accepted.accepted again.accepted in
        subst (λ (t : ProgramTree). LeavesState (way_of_tree old new left0 left1 t d budget v) files1 name end) same.0
        (subst (λ (e : CoreProgram). LeavesState (way_of_tree old new left0 left1 p e budget v) files1 name end) same.1
        (subst (λ (P : OneShot). LeavesState (record { meaning = meaning_of v budget P; origin = from_start c; old = old; new = new; left0 = left0; left1 = left1 }) files1 name end) (same_one_shot p c accepted.accepted.accepted) saves.leaves));
    changes = saves.changes;
    still = saves.still;
  }

  -- one that goes on from a typed state is one of its bytes,
  pub saves_bytes : (c : CoreProgram) (budget : ℕ) (v : Version) (bytes name : List ℕ) (files0 files1 : Option (List ℕ → List ℕ)) (end : End) (k : KeptTree) → IsTypedAs c bytes k
      → Saves (way_since old new left0 left1 c k budget v) name files0 files1 end → SavesBytes old new left0 left1 c budget v bytes name files0 files1 end
  saves_bytes c budget v bytes name files0 files1 end k typed saves = record {
    behind = saves.behind;
    is_behind = saves.is_behind;
    ended = goes_on c budget v bytes old new left0 left1 saves.behind (record { kept = k; typed = typed; ran = saves.ended });
    leaves = λ l other.
        let same = typed_one_spelling c c k l typed.places other.places typed.sizes other.sizes typed.typed other.typed (sym typed.has_bytes ∙ other.has_bytes) in
        subst (λ (t : KeptTree). LeavesState (way_since old new left0 left1 c t budget v) files1 name end) same saves.leaves;
    changes = saves.changes;
    still = saves.still;
  }

  -- and where these are refused nothing is left
  pub saves_refused : (c : CoreProgram) (budget : ℕ) (v : Version) (bytes name : List ℕ) (files : Option (List ℕ → List ℕ)) (f : KeepFault) → TellsKeepFault c bytes (Err f) → RefusesNone c bytes f → IsUntouched old new left0 left1
      → SavesBytes old new left0 left1 c budget v bytes name files files (end_of f)
  saves_refused c budget v bytes name files fault.Memory told none untouched =
      record { behind = Memory; is_behind = inl refl; ended = inl untouched; leaves = λ k typed. tt; changes = changes_nothing files name; still = λ ill. refl }
  saves_refused c budget v bytes name files (fault.Form at) told none untouched =
      record { behind = end_of (fault.Form at); is_behind = refl; ended = refuses c budget v bytes old new left0 left1 (fault.Form at) told none untouched; leaves = λ k typed. tt; changes = refl; still = λ ill. refl }
  saves_refused c budget v bytes name files (fault.Untyped n) told none untouched =
      record { behind = end_of (fault.Untyped n); is_behind = refl; ended = refuses c budget v bytes old new left0 left1 (fault.Untyped n) told none untouched; leaves = λ k typed. tt; changes = refl; still = λ ill. refl }
  saves_refused c budget v bytes name files (fault.Version n) told none untouched =
      record { behind = end_of (fault.Version n); is_behind = refl; ended = refuses c budget v bytes old new left0 left1 (fault.Version n) told none untouched; leaves = λ k typed. tt; changes = refl; still = λ ill. refl }

  -- so it is where the bytes are those of a file,
  pub saves_from_file : (c : CoreProgram) (budget : ℕ) (v : Version) (from name : List ℕ) (files0 files1 : Option (List ℕ → List ℕ)) (bytes : List ℕ)
      → ((told : List ℕ → List ℕ) → files0 ≡ Some told → bytes ≡ take 1048577 (told from)) → (end : End)
      → SavesBytes old new left0 left1 c budget v bytes name files0 files1 end → SavesFrom old new left0 left1 c budget v from name files0 files1 end
  saves_from_file c budget v from name files0 files1 bytes held end saves = record {
    behind = saves.behind;
    is_behind = saves.is_behind;
    ended = of_file c budget v files0 from old new left0 left1 bytes held saves.behind saves.ended;
    leaves = λ told there k typed. saves.leaves k (subst (λ (bs : List ℕ). IsTypedAs c bs k) (sym (held told there)) typed);
    changes = saves.changes;
    still = saves.still;
  }

  -- and where that couldn't be read, or memory ran out, nothing is left
  pub saves_unread : (c : CoreProgram) (budget : ℕ) (v : Version) (from name : List ℕ) (files0 files1 : Option (List ℕ → List ℕ)) → files1 ≡ files0 → IsUntouched old new left0 left1
      → SavesFrom old new left0 left1 c budget v from name files0 files1 FileFailed
  saves_unread c budget v from name files0 files1 same untouched =
      record { behind = FileFailed; is_behind = inl refl; ended = untouched; leaves = λ told there k typed. tt; changes = λ told is. (told, same ∙ is, λ other ne. refl); still = λ ill. same }

  pub saves_short : (c : CoreProgram) (budget : ℕ) (v : Version) (from name : List ℕ) (files0 files1 : Option (List ℕ → List ℕ)) → files1 ≡ files0 → IsUntouched old new left0 left1
      → SavesFrom old new left0 left1 c budget v from name files0 files1 Memory
  saves_short c budget v from name files0 files1 same untouched =
      record { behind = Memory; is_behind = inl refl; ended = inl untouched; leaves = λ told there k typed. tt; changes = λ told is. (told, same ∙ is, λ other ne. refl); still = λ ill. same }

  -- and so it is with the program of a text
  pub saves_text_from : (text : List ℕ) (budget : ℕ) (v : Version) (from name : List ℕ) (files0 files1 : Option (List ℕ → List ℕ)) (p : ProgramTree) (c : CoreProgram) → IsWritable text v p c → (end : End)
      → SavesFrom old new left0 left1 c budget v from name files0 files1 end → SavesTextFrom old new left0 left1 text budget v from name files0 files1 end
  saves_text_from text budget v from name files0 files1 p c accepted end saves = record {
    behind = saves.behind;
    is_behind = saves.is_behind;
    ended = resumes_text text budget v files0 from old new left0 left1 saves.behind (record { program = p; core = c; accepted = accepted; resumes = saves.ended });
    leaves = λ q d again.
        let same = accepted_is_one text p q c d accepted.accepted again.accepted in
        subst (λ (e : CoreProgram). LeavesAgain old new left0 left1 e budget v files0 from name files1 end) same.1 saves.leaves;
    changes = saves.changes;
    still = saves.still;
  }
