-- A run that is kept and a run that goes on from there write what one run writes.
use Rattle.std.proofs.Common.{◌≡◌, ℕ, List, [], ◌∷◌, ◌++◌, ap, ap₂, sym, subst, refl, ◌∙◌, append_assoc, append-nil}
use Rattle.event_word.specs.StreamEvent.{StreamEvent}
use Rattle.event_word.specs.Word.{IsWord}
use Rattle.event_word.specs.Canon.{canon}
use Rattle.event_word.proofs.Words.{word_front}
use Rattle.event_frame.specs.declared.version.Version.{Version}
use Rattle.event_frame.specs.Frames.{frames}
use Rattle.core_term.specs.CoreTerm.{CoreProgram}
use Rattle.delta_state.specs.MachineView.{input_of}
use Rattle.delta_state.specs.Stands.{input_type, output_left}
use Rattle.delta_session.specs.Programs.{CanRun, one_shot}
use Rattle.kept_state.specs.KeptTree.{KeptTree}
use Rattle.kept_state.specs.KeptMeaning.{input_kept}
use Rattle.kept_state.specs.Laws.{IsKept}
use Rattle.delta_runner.proofs.AsProgram.{goes_on_as_program}
use Rattle.delta_loop.specs.Output.{answers_after, output}
use Rattle.delta_loop.proofs.Outputs.{output-append}
use Rattle.delta_output.specs.LoopMeaning.{meaning_of}
use Rattle.delta_runner.specs.KeptOneShot.{meaning_since}
use Rattle.delta_runner.specs.KeptOutputLaws.{RunsJoin}
use Rattle.delta_runner.proofs.KeptGrowth.{first_is_nothing}

module _ (c : CoreProgram) (k : KeptTree) (v : Version) (budget later : ℕ) (before : List StreamEvent) (can : CanRun c) (came : IsWord (input_type c) before) (kept : IsKept c (input_of c before) k)
    (left : k.out ≡ output_left c (input_of c before)) where
  -- the answers since are those to the same events after the word before
  answers-join : (since word : List StreamEvent) → IsWord (input_kept c k) (since ++ word) → answers_after (meaning_since v later c k) since word ≡ answers_after (meaning_of v budget (one_shot c)) (before ++ since) word
  answers-join since [] comes = refl
  answers-join since (x ∷ word) comes =
      let whole : IsWord (input_kept c k) ((since ++ x ∷ []) ++ word) = subst (IsWord (input_kept c k)) (sym (append_assoc since (x ∷ []) word)) comes in
      let first : IsWord (input_kept c k) (since ++ x ∷ []) = word_front (input_kept c k) (since ++ x ∷ []) word whole in
      let now = (goes_on_as_program c k before since x can came kept left first).answers in
      let rest =
      answers-join (since ++ x ∷ []) word whole
      ∙ ap (λ (w : List StreamEvent). answers_after (meaning_of v budget (one_shot c)) w word) (sym (append_assoc before since (x ∷ []))) in
      ap₂ (λ (bs cs : List ℕ). bs ++ cs) (ap (λ p. frames v (canon p)) now) rest

  pub runs_joined : (word : List StreamEvent) → IsWord (input_kept c k) word
      → output (meaning_of v budget (one_shot c)) before ++ output (meaning_since v later c k) word ≡ output (meaning_of v budget (one_shot c)) (before ++ word)
  runs_joined word comes =
      ap (λ (bs : List ℕ). output (meaning_of v budget (one_shot c)) before ++ (bs ++ answers_after (meaning_since v later c k) [] word)) (first_is_nothing v later c k kept.is_typed)
      ∙ ap (λ (bs : List ℕ). output (meaning_of v budget (one_shot c)) before ++ bs)
      (answers-join [] word comes ∙ ap (λ (w : List StreamEvent). answers_after (meaning_of v budget (one_shot c)) w word) (append-nil before))
      ∙ sym (output-append (meaning_of v budget (one_shot c)) before word)

pub runs_join : RunsJoin
runs_join c k v budget later before word can came kept left comes = runs_joined c k v budget later before can came kept left word comes
