-- What is left of a program on an input, and what is due since, are on both inputs what the program leaves and what is due.
use Rattle.std.proofs.Common.{◌≡◌, ◌∙◌, ◌≤◌, ℕ, List, [], ◌∷◌, ◌++◌, Option, Some, None, length, ap, ap₂, sym, refl, subst, arith, append_assoc, append-nil, length-append}
use Rattle.stream_type.specs.StreamType.{StreamType}
use Rattle.stream_prefix.specs.StreamPrefix.{StreamPrefix, join}
use Rattle.stream_prefix.proofs.Derivations.{Derives, is_prefix}
use Rattle.event_word.specs.StreamEvent.{StreamEvent}
use Rattle.event_word.specs.declared.fault.EventFault.{EventFault}
use Rattle.event_word.specs.EventFault.{fault_of}
use Rattle.event_word.specs.Word.{IsWord, after_word, after}
use Rattle.event_word.proofs.Walks.{no_fault_is_admitted}
use Rattle.event_word.proofs.Words.{word_derives, after_word-push, after_word-pre}
use Rattle.event_frame.specs.declared.version.Version.{Version}
use Rattle.event_frame.specs.declared.version.Version.TheVariants.{V1, V2}
use Rattle.event_frame.specs.Frames.{longest, header, frames, AllFit}
use Rattle.event_frame.specs.Reading.{whole}
use Rattle.event_frame.proofs.FrameLaws.{frames_are_read}
use Rattle.delta_tree.specs.SyntaxTree.{ProgramTree}
use Rattle.core_term.specs.CoreTerm.{CoreProgram}
use Rattle.delta_state.specs.MachineView.{input_of}
use Rattle.delta_state.specs.Stands.{input_type, output_left}
use Rattle.delta_session.specs.Programs.{CanRun, one_shot}
use Rattle.kept_state.specs.KeptTree.{KeptTree}
use Rattle.kept_state.specs.KeptMeaning.{input_kept}
use Rattle.kept_state.specs.KeptTyping.{IsTypedKept}
use Rattle.kept_state.specs.KeptBytes.{kept_bytes, most_bytes}
use Rattle.kept_state.specs.KeptForm.{form_fault}
use Rattle.kept_state.specs.KeptSizes.{HasSizes}
use Rattle.kept_state.specs.Laws.{input_since, IsKept}
use Rattle.kept_state.proofs.KeptAgain.{kept_through}
use Rattle.kept_state.proofs.TypedShapes.{typed_one_spelling}
use Rattle.kept_state.proofs.WrittenBytes.{written_has_form}
use Rattle.delta_meaning.proofs.BoundOnce.{elaborated_is_core}
use Rattle.delta_end.specs.declared.end.InputFault.{InputFault}
use Rattle.delta_end.specs.declared.end.InputFault.TheVariants.{Event}
use Rattle.checked_program.specs.Acceptance.{IsWritable}
use Rattle.checked_program.proofs.OneAnswer.{accepted_is_one}
use Rattle.delta_loop.specs.Meaning.{Meaning}
use Rattle.delta_loop.specs.Finding.{place_in, fault_or, event_finding}
use Rattle.delta_loop.specs.Output.{up_to_fault, accepted, accepted_after, output}
use Rattle.delta_loop.proofs.Outputs.{accepted-append}
use Rattle.delta_session.specs.OneShot.{OneShot}
use Rattle.delta_output.specs.LoopMeaning.{meaning_of}
use Rattle.output_laws.proofs.Meant.{same_one_shot}
use Rattle.delta_runner.specs.KeptOneShot.{meaning_since}
use Rattle.delta_runner.proofs.KeptGrowth.{runnable}
use Rattle.delta_runner.proofs.AsProgram.{input_whole}
use Rattle.delta_runner.proofs.JoinedRuns.{runs_joined}
use Rattle.commands.specs.Leaving.{IsKeptOf, IsKeptAgain}
use Rattle.commands.specs.Resuming.{IsTypedAs}
use Rattle.commands.specs.Running.{IsMeant}
use Rattle.delta_run.specs.Saved.{IsLeft}
use Rattle.delta_run.specs.SavedAgain.{IsLeftAgain}
use Rattle.delta_run.specs.Resumed.{IsMeantSince}
use Rattle.delta_run.specs.Laws.{StateIsOne, LeftIsTyped, LeftAgainIsTyped, FramesJoin, DueJoins, KeptFurther}
use Rattle.command_text.proofs.Feeding.{frames-append}

-- what is left of a type after two words is what the second leaves of what the first left
after_both : (s : StreamType) (v w : List StreamEvent) → after_word (v ++ w) s ≡ after_word w (after_word v s)
after_both s [] w = refl
after_both s (x ∷ v) w = after_both (after x s) v w

fit_both : (v : Version) (a b : List StreamEvent) → AllFit v a → AllFit v b → AllFit v (a ++ b)
fit_both v [] b h k = k
fit_both v (x ∷ a) b h k = (h.0, fit_both v a b h.1 k)

-- what is read of them
read_whole : (v : Version) (word : List StreamEvent) → AllFit v word → whole (header v ++ frames v word) ≡ word
read_whole v word fit = ap (λ r. r.word) (frames_are_read v word fit)

pub frames_join : FramesJoin
frames_join v first second h k =
    ap whole (append_assoc (header v) (frames v first) (frames v second) ∙ ap (λ (bs : List ℕ). header v ++ bs) (sym (frames-append v first second)))
    ∙ (read_whole v (first ++ second) (fit_both v first second h k)
    ∙ sym (ap₂ (λ (a b : List StreamEvent). a ++ b) (read_whole v first h) (read_whole v second k)))

-- where faults are told by the type that is left, what is accepted is a word of the type
pub words_accepted : (P : Meaning) (s : StreamType) → ((word : List StreamEvent) (x : StreamEvent) → P.fault word x ≡ fault_of x (after_word word s)) → (before word : List StreamEvent)
    → IsWord (after_word before s) (accepted_after P before word)
words_accepted P s tells before [] = tt
words_accepted P s tells before (x ∷ word) = by_fault (P.fault before x) (tells before x) (words_accepted P s tells (before ++ x ∷ []) word)
  where
    by_fault : (o : Option EventFault) → o ≡ fault_of x (after_word before s) → IsWord (after_word (before ++ x ∷ []) s) (accepted_after P (before ++ x ∷ []) word)
        → IsWord (after_word before s) (up_to_fault o x (accepted_after P (before ++ x ∷ []) word))
    by_fault None is rest = (
      (no_fault_is_admitted (after_word before s) x).0 (sym is),
      subst (λ (t : StreamType). IsWord t (accepted_after P (before ++ x ∷ []) word)) (after_word-push s before x) rest,
    )
    by_fault (Some fault) is rest = tt

-- where nothing is found each event was accepted
pub found_accepted : (P : Meaning) (bytes : List ℕ) (before word : List StreamEvent) (rest : Option InputFault) → event_finding P bytes before word rest ≡ None → accepted_after P before word ≡ word
found_accepted P bytes before [] rest e = refl
found_accepted P bytes before (x ∷ word) rest e = by_fault (P.fault before x) e (found_accepted P bytes (before ++ x ∷ []) word rest)
  where
    by_fault : (o : Option EventFault) → fault_or o (place_in bytes before) (event_finding P bytes (before ++ x ∷ []) word rest) ≡ None
        → (event_finding P bytes (before ++ x ∷ []) word rest ≡ None → accepted_after P (before ++ x ∷ []) word ≡ word)
        → up_to_fault o x (accepted_after P (before ++ x ∷ []) word) ≡ x ∷ word
    by_fault None e h = ap (λ (w : List StreamEvent). x ∷ w) (h e)
    by_fault (Some fault) e h = absurd (let clash : Some (Event fault (place_in bytes before)) ≡ None = e in let none : ⊥ = cc in none)

-- where the second finds the faults that the first finds after a word, it accepts the same after it
module _ (P Q : Meaning) (before : List StreamEvent) (same : (word : List StreamEvent) (x : StreamEvent) → P.fault (before ++ word) x ≡ Q.fault word x) where
  accepts_same : (word more : List StreamEvent) → accepted_after P (before ++ word) more ≡ accepted_after Q word more
  accepts_same word [] = refl
  accepts_same word (x ∷ more) =
      ap₂ (λ (o : Option EventFault) (w : List StreamEvent). up_to_fault o x w) (same word x)
      (ap (λ (w : List StreamEvent). accepted_after P w more) (append_assoc before word (x ∷ [])) ∙ accepts_same (word ++ x ∷ []) more)

-- a state that is kept of a program after a word of which each event was accepted
module _ (c : CoreProgram) (k : KeptTree) (v : Version) (budget later : ℕ) (before : List StreamEvent) (can : CanRun c) (kept : IsKept c (input_of c before) k)
    (left : k.out ≡ output_left c (input_of c before)) (all : accepted (meaning_of v budget (one_shot c)) before ≡ before) where
  abbrev its : Meaning
  its = meaning_of v budget (one_shot c)

  abbrev since : Meaning
  since = meaning_since v later c k

  pub is_word : IsWord (input_type c) before
  is_word = subst (IsWord (input_type c)) all (words_accepted its (input_type c) (λ word x. refl) [] before)

  same_faults : (word : List StreamEvent) (x : StreamEvent) → its.fault (before ++ word) x ≡ since.fault word x
  same_faults word x =
      ap (λ (s : StreamType). fault_of x s)
      (after_both (input_type c) before word ∙ ap (λ (s : StreamType). after_word word s) (after_word-pre (input_type c) before is_word ∙ sym kept.has_input))

  -- the program accepts after it what the state accepts
  accepts_both : (more : List StreamEvent) → accepted its (before ++ more) ≡ before ++ accepted since more
  accepts_both more =
      accepted-append its [] before more all
      ∙ ap (λ (w : List StreamEvent). before ++ w)
      (ap (λ (w : List StreamEvent). accepted_after its w more) (sym (append-nil before)) ∙ accepts_same its since before same_faults [] more)

  -- and writes what both write
  writes_both : (more : List StreamEvent) → output its (accepted its before) ++ output since (accepted since more) ≡ output its (accepted its (before ++ more))
  writes_both more =
      ap (λ (w : List StreamEvent). output its w ++ output since (accepted since more)) all
      ∙ (runs_joined c k v budget later before can is_word kept left (accepted since more) (words_accepted since (input_kept c k) (λ word x. refl) [] more)
      ∙ ap (output its) (sym (accepts_both more)))

-- frames of a version have at most 63 steps
within_63 : (v : Version) → longest v ≤ 63
within_63 V1 = omega arith
within_63 V2 = omega arith

-- an accepted program can run
accepted_can_run : (text : List ℕ) (v : Version) (p : ProgramTree) (c : CoreProgram) → IsWritable text v p c → CanRun c
accepted_can_run text v p c a = record {
  core = elaborated_is_core p c a.accepted.accepted.elaborated;
  typed = a.accepted.accepted.typed;
  narrow = let most = within_63 v in omega (arith, a.narrow, most);
}

pub state_is_one : StateIsOne
state_is_one bytes c d k l h i = typed_one_spelling c d k l h.places i.places h.sizes i.sizes h.typed i.typed (sym h.has_bytes ∙ i.has_bytes)

-- bytes of a state that is typed, of which there are no more than there may be, are those of a typed one
typed_bytes : (c : CoreProgram) (k : KeptTree) (places bytes : List ℕ) → bytes ≡ kept_bytes k places → HasSizes k → length bytes ≤ most_bytes → IsTypedKept c k → IsTypedAs c bytes k
typed_bytes c k places bytes is sizes few typed = record {
  places = places;
  has_form = ap form_fault is ∙ written_has_form k places (subst (λ (bs : List ℕ). length bs ≤ most_bytes) is few);
  has_bytes = is;
  sizes = sizes;
  typed = typed;
}

-- a typed state of the text's program is left after a word
pub record LeftAt (text : List ℕ) (v : Version) (word : List StreamEvent) (bytes : List ℕ) : Type 0 where
  pub program : ProgramTree
  pub core : CoreProgram
  pub accepted : IsWritable text v program core
  pub state : KeptTree
  pub kept : IsKeptOf core word state
  pub typed : IsTypedAs core bytes state
  pub few : length bytes ≤ most_bytes

-- what was left is one
left_typed : (text : List ℕ) (v : Version) (files : Option (List ℕ → List ℕ)) (name input bytes : List ℕ) (left : IsLeft text v files name input bytes) → IsTypedAs left.after.core bytes left.after.state
left_typed text v files name input bytes left = typed_bytes left.after.core left.after.state left.after.places bytes left.after.has_bytes left.sizes left.few left.after.kept.kept.is_typed

again_typed : (text old : List ℕ) (v : Version) (files : Option (List ℕ → List ℕ)) (name input bytes : List ℕ) (left : IsLeftAgain text old v files name input bytes)
    → IsTypedAs left.after.core bytes left.after.state
again_typed text old v files name input bytes left = typed_bytes left.after.core left.after.state left.after.places bytes left.after.has_bytes left.sizes left.few left.after.kept.kept.is_typed

pub left_at : (text : List ℕ) (v : Version) (files : Option (List ℕ → List ℕ)) (name input bytes : List ℕ) → IsLeft text v files name input bytes → LeftAt text v (whole input) bytes
left_at text v files name input bytes left = record {
  program = left.after.program;
  core = left.after.core;
  accepted = left.after.accepted;
  state = left.after.state;
  kept = left.after.kept;
  typed = left_typed text v files name input bytes left;
  few = left.few;
}

pub left_is_typed : LeftIsTyped
left_is_typed text v files name input bytes left p c accepted =
    let same = (accepted_is_one text left.after.program p left.after.core c left.after.accepted.accepted accepted.accepted).1 in
    subst (λ (d : CoreProgram). IsTypedAs d bytes left.after.state) same (left_typed text v files name input bytes left)

pub left_again_is_typed : LeftAgainIsTyped
left_again_is_typed text old v files name input bytes left p c accepted =
    let same = (accepted_is_one text left.after.program p left.after.core c left.after.accepted.accepted accepted.accepted).1 in
    subst (λ (d : CoreProgram). IsTypedAs d bytes left.after.state) same (again_typed text old v files name input bytes left)

-- each event of a word was accepted of a text's program, a state is left after it, and it is gone on from that
pub record GoneOn (text : List ℕ) (v : Version) (word : List StreamEvent) (bytes : List ℕ) (P since : Meaning) : Type 0 where
  pub budget : ℕ
  pub later : ℕ
  pub meant : IsMeant text budget v P
  pub accepts : accepted P word ≡ word
  pub left : LeftAt text v word bytes
  pub went : IsMeantSince text bytes later v since

module _ {text : List ℕ} {v : Version} {word : List StreamEvent} {bytes : List ℕ} {P since : Meaning} (on : GoneOn text v word bytes P since) where
  abbrev its_core : CoreProgram
  its_core = on.left.core

  abbrev its_state : KeptTree
  its_state = on.left.state

  -- a text has one program
  same_core : (p : ProgramTree) (c : CoreProgram) → IsWritable text v p c → c ≡ its_core
  same_core p c accepted = (accepted_is_one text p on.left.program c its_core accepted.accepted on.left.accepted.accepted).1

  is_first : P ≡ meaning_of v on.budget (one_shot its_core)
  is_first =
      on.meant.means
      ∙ ap (λ (Q : OneShot). meaning_of v on.budget Q)
      (sym (same_one_shot on.meant.program on.meant.core on.meant.accepted.accepted.accepted) ∙ ap one_shot (same_core on.meant.program on.meant.core on.meant.accepted))

  is_second : since ≡ meaning_since v on.later its_core its_state
  is_second =
      on.went.means
      ∙ ap₂ (λ (e : CoreProgram) (l : KeptTree). meaning_since v on.later e l) (same_core on.went.program on.went.core on.went.accepted)
      (state_is_one bytes on.went.core its_core on.went.state its_state on.went.typed on.left.typed)

  can : CanRun its_core
  can = accepted_can_run text v on.left.program its_core on.left.accepted

  its_accepts : accepted (meaning_of v on.budget (one_shot its_core)) word ≡ word
  its_accepts = subst (λ (Q : Meaning). accepted Q word ≡ word) is_first on.accepts

  -- after the word the program accepts what is accepted since
  pub accepts_more : (more : List StreamEvent) → accepted P (word ++ more) ≡ word ++ accepted since more
  accepts_more more =
      subst (λ (Q : Meaning). accepted Q (word ++ more) ≡ word ++ accepted since more) (sym is_first)
      (subst (λ (Q : Meaning). accepted (meaning_of v on.budget (one_shot its_core)) (word ++ more) ≡ word ++ accepted Q more) (sym is_second)
      (accepts_both its_core its_state v on.budget on.later word can on.left.kept.kept on.left.kept.output its_accepts more))

  -- and both wrote what it writes
  pub writes_more : (more : List StreamEvent) → output P (accepted P word) ++ output since (accepted since more) ≡ output P (accepted P (word ++ more))
  writes_more more =
      subst (λ (Q : Meaning). output Q (accepted Q word) ++ output since (accepted since more) ≡ output Q (accepted Q (word ++ more))) (sym is_first)
      (subst (λ (Q : Meaning). output (meaning_of v on.budget (one_shot its_core)) (accepted (meaning_of v on.budget (one_shot its_core)) word) ++ output Q (accepted Q more)
      ≡ output (meaning_of v on.budget (one_shot its_core)) (accepted (meaning_of v on.budget (one_shot its_core)) (word ++ more))) (sym is_second)
      (writes_both its_core its_state v on.budget on.later word can on.left.kept.kept on.left.kept.output its_accepts more))

  -- what is kept again after a word of which each event was accepted is kept of the program after both
  kept_more : (more : List StreamEvent) → accepted since more ≡ more → (l : KeptTree) → IsKeptAgain its_core its_state more l → IsKeptOf its_core (word ++ more) l
  kept_more more all l again =
      let came : IsWord (input_type its_core) word = is_word its_core its_state v on.budget on.later word can on.left.kept.kept on.left.kept.output its_accepts in
      let takes : accepted (meaning_since v on.later its_core its_state) more ≡ more = subst (λ (Q : Meaning). accepted Q more ≡ more) is_second all in
      let comes : IsWord (input_kept its_core its_state) more = subst (IsWord (input_kept its_core its_state)) takes (words_accepted (meaning_since v on.later its_core its_state) (input_kept its_core its_state) (λ w x. refl) [] more) in
      let first = is_prefix (word_derives (input_type its_core) word came) in
      let then = is_prefix (subst (λ (s : StreamType). Derives s (input_since its_core its_state more)) on.left.kept.kept.has_input (word_derives (input_kept its_core its_state) more comes)) in
      let through =
      kept_through its_core (input_of its_core word) (input_since its_core its_state more) its_state l (runnable its_core can its_state on.left.kept.kept.is_typed) first then on.left.kept.kept on.left.kept.output again.kept again.output in
      let joined : input_of its_core (word ++ more) ≡ join (input_of its_core word) (input_since its_core its_state more) = input_whole its_core can its_state word came on.left.kept.kept more comes in
      record {
        kept = subst (λ (p : StreamPrefix). IsKept its_core p l) (sym joined) through.0;
        output = subst (λ (p : StreamPrefix). l.out ≡ output_left its_core p) (sym joined) through.1;
        count = omega (arith, again.count, on.left.kept.count, length-append word more);
      }

  -- so what is left again is left of the text after both
  pub left_more : (files : Option (List ℕ → List ℕ)) (name input again : List ℕ) → accepted since (whole input) ≡ whole input → IsLeftAgain text bytes v files name input again
      → LeftAt text v (word ++ whole input) again
  left_more files name input again all left =
      let same : left.after.core ≡ its_core = same_core left.after.program left.after.core left.after.accepted in
      let same_state : left.after.before ≡ its_state = state_is_one bytes left.after.core its_core left.after.before its_state left.after.typed on.left.typed in
      let kept = subst (λ (c : CoreProgram). IsKeptAgain c left.after.before (whole input) left.after.state) same left.after.kept in
      record {
        program = on.left.program;
        core = its_core;
        accepted = on.left.accepted;
        state = left.after.state;
        kept = kept_more (whole input) all left.after.state (subst (λ (l : KeptTree). IsKeptAgain its_core l (whole input) left.after.state) same_state kept);
        typed = subst (λ (c : CoreProgram). IsTypedAs c again left.after.state) same (again_typed text bytes v files name input again left);
        few = left.few;
      }

pub due_joins : DueJoins
due_joins text budget later v files name first second both bytes P since meant all left went joined =
    let on : GoneOn text v (whole first) bytes P since =
    record { budget = budget; later = later; meant = meant; accepts = all; left = left_at text v files name first bytes left; went = went } in
    writes_more on (whole second) ∙ ap (λ (w : List StreamEvent). output P (accepted P w)) (sym joined)

pub kept_further : KeptFurther
kept_further text budget later v files next name other first second both bytes again P since meant all left went all_since left_again joined =
    let on : GoneOn text v (whole first) bytes P since =
    record { budget = budget; later = later; meant = meant; accepts = all; left = left_at text v files name first bytes left; went = went } in
    let at = left_more on next other second again all_since left_again in (
      ap (accepted P) joined ∙ (accepts_more on (whole second) ∙ (ap (λ (w : List StreamEvent). whole first ++ w) all_since ∙ sym joined)),
      record {
        after = record {
          program = at.program;
          core = at.core;
          accepted = at.accepted;
          state = at.state;
          places = at.typed.places;
          kept = subst (λ (w : List StreamEvent). IsKeptOf at.core w at.state) (sym joined) at.kept;
          has_bytes = at.typed.has_bytes;
        };
        sizes = at.typed.sizes;
        few = at.few;
        held = left_again.held;
      },
    )
