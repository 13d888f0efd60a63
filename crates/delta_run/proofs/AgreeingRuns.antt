-- A run writes what its program gives on what it took; so two runs that took one prefix wrote one prefix.
use Rattle.std.proofs.Common.{◌≡◌, ◌∙◌, ℕ, List, [], ◌∷◌, ◌++◌, Bool, Option, Some, None, length, take, ap, ap₂, sym, subst, refl, append_assoc, append-nil, inl, inr}
use Rattle.port.specs.declared.link.Move.{Move}
use Rattle.port.specs.Moves.{bytes_read, bytes_written}
use Rattle.stream_prefix.specs.StreamPrefix.{StreamPrefix}
use Rattle.stream_prefix.proofs.Derivations.{is_prefix}
use Rattle.event_word.specs.StreamEvent.{StreamEvent}
use Rattle.event_word.specs.declared.fault.EventFault.{EventFault}
use Rattle.event_word.specs.Word.{IsWord, pre}
use Rattle.event_word.proofs.Words.{word_derives}
use Rattle.event_frame.specs.declared.version.Version.{Version}
use Rattle.event_frame.specs.declared.version.Version.TheVariants.{V1}
use Rattle.event_frame.specs.Frames.{header, frames}
use Rattle.event_frame.specs.Reading.{whole}
use Rattle.delta_tree.specs.SyntaxTree.{ProgramTree}
use Rattle.core_term.specs.CoreTerm.{CoreProgram}
use Rattle.delta_end.specs.declared.end.End.{End}
use Rattle.delta_end.specs.declared.end.End.TheVariants.{Done, Usage, Refused, Input, Budget, Deep, Open, FileFailed, ReadFailed, WriteFailed, Memory, Long, Objected}
use Rattle.checked_program.specs.Acceptance.{IsAcceptedAs}
use Rattle.checked_program.proofs.OneAnswer.{accepted_is_one}
use Rattle.delta_loop.specs.Meaning.{Meaning}
use Rattle.delta_loop.specs.Output.{up_to_fault, accepted, accepted_after, answers_after, opening, output, due}
use Rattle.delta_loop.specs.Prompt.{has_ended}
use Rattle.delta_loop.specs.Return.{Begins, StopsFirst, StopsAt, MayEnd, IsWithinLimit}
use Rattle.delta_loop.specs.Answer.{AtReturn, ReadsWell}
use Rattle.delta_loop.proofs.Limits.{few_read}
use Rattle.delta_loop.proofs.Outputs.{accepted_begins, accepted_front, output_begins}
use Rattle.delta_output.specs.LoopMeaning.{meaning_of}
use Rattle.delta_output.specs.Spoken.{spoken}
use Rattle.output_laws.specs.TreeOneShot.{one_shot_of}
use Rattle.output_laws.proofs.Meant.{tree_grows, output_is_spoken, spoken_is_meant}
use Rattle.delta_run.specs.Text.{RunsIts, RunsMoves}
use Rattle.delta_run.specs.Settled.{IsOverInput, counted}
use Rattle.delta_run.specs.Agreeing.{taken_of, Wrote, RunIsMeant, RunsAgree, RunsGrow}
use Rattle.delta_run.proofs.Settling.{all_count}
use Rattle.delta_run.proofs.JoinedStates.{words_accepted}
use Rattle.delta_run.proofs.JoinedRuns.{of_moves}

-- what is accepted hangs on the faults alone
same_accepted : (P Q : Meaning) → ((word : List StreamEvent) (x : StreamEvent) → P.fault word x ≡ Q.fault word x) → (before word : List StreamEvent)
    → accepted_after P before word ≡ accepted_after Q before word
same_accepted P Q same before [] = refl
same_accepted P Q same before (x ∷ word) =
    ap₂ (λ (o : Option EventFault) (w : List StreamEvent). up_to_fault o x w) (same before x) (same_accepted P Q same (before ++ x ∷ []) word)

-- what was written at this end is due for these bytes, or a front of that
record IsDue (P : Meaning) (bytes written : List ℕ) (end : End) : Type 0 where
  front : Begins written (due P bytes)
  all : IsOverInput end → written ≡ due P bytes

all_due : (P : Meaning) (bytes written : List ℕ) (end : End) → written ≡ due P bytes → IsDue P bytes written end
all_due P bytes written end same = record { front = ([], sym same ∙ sym (append-nil written)); all = λ over. same }

none_due : (P : Meaning) (bytes written : List ℕ) (end : End) → (IsOverInput end → ⊥) → written ≡ [] → IsDue P bytes written end
none_due P bytes written end never none = record { front = (due P bytes, ap (λ (bs : List ℕ). bs ++ due P bytes) (sym none)); all = λ over. absurd (never over) }

-- where a program was stopped what is due for the events before was written
first_due : (P : Meaning) (stops : Type 0) (bytes written : List ℕ) (at : ℕ) → StopsFirst P stops bytes written at → Begins written (due P bytes)
first_due P stops bytes written at is =
    let more = P.first ++ answers_after P [] (accepted P (whole bytes)) in
    (more, append_assoc (opening P.version) P.first (answers_after P [] (accepted P (whole bytes))) ∙ ap (λ (bs : List ℕ). bs ++ more) (sym is.header))

later_due : (P : Meaning) (stops : List StreamEvent → StreamEvent → Type 0) (bytes written : List ℕ) (at : ℕ) → StopsAt P stops bytes written at → Begins written (due P bytes)
later_due P stops bytes written at is =
    let front = accepted_front P [] is.word (is.event ∷ []) is.accepts in
    let begins = output_begins P bytes is.word (accepted_begins P is.word (is.event ∷ is.more) (whole bytes) front is.came) in
    (begins.0, begins.1 ∙ ap (λ (bs : List ℕ). bs ++ begins.0) (sym is.before))

-- by the table of ends
row_due : (P : Meaning) (bytes : List ℕ) (ended : Bool) (written : List ℕ) (end : End) → (end ≡ Long → ⊥) → MayEnd P bytes ended written end → IsDue P bytes written end
row_due P bytes ended written Done short may = all_due P bytes written Done may.3
row_due P bytes ended written Open short may = all_due P bytes written Open may.3
row_due P bytes ended written (Input fault) short may = all_due P bytes written (Input fault) may.1
row_due P bytes ended written ReadFailed short may = all_due P bytes written ReadFailed may.1
row_due P bytes ended written WriteFailed short may = record { front = may; all = λ over. absurd over }
row_due P bytes ended written Memory short may = record { front = may; all = λ over. absurd over }
row_due P bytes ended written (Budget at) short (inl may) = record { front = first_due P _ bytes written at may; all = λ over. absurd over }
row_due P bytes ended written (Budget at) short (inr may) = record { front = later_due P _ bytes written at may; all = λ over. absurd over }
row_due P bytes ended written (Deep at) short (inl may) = record { front = first_due P _ bytes written at may; all = λ over. absurd over }
row_due P bytes ended written (Deep at) short (inr may) = record { front = later_due P _ bytes written at may; all = λ over. absurd over }
row_due P bytes ended written Long short may = absurd (short refl)
row_due P bytes ended written Usage short may = absurd may
row_due P bytes ended written (Refused why) short may = absurd may
row_due P bytes ended written FileFailed short may = absurd may
row_due P bytes ended written (Objected what) short may = absurd may

module _ (text : List ℕ) (p : ProgramTree) (c : CoreProgram) (is_its : IsAcceptedAs text p c) (budget : ℕ) (v : Version) (moves : List Move) where
  abbrev its : Meaning
  its = meaning_of v budget (one_shot_of p)

  -- the events that are taken
  abbrev events : List StreamEvent
  events = accepted (meaning_of V1 0 (one_shot_of p)) (whole (counted (bytes_read moves)))

  is_input : IsWord (one_shot_of p).input events
  is_input = words_accepted (meaning_of V1 0 (one_shot_of p)) (one_shot_of p).input (λ word x. refl) [] (whole (counted (bytes_read moves)))

  -- what is due for them is spelled by what is put out
  due_spoken : due its (counted (bytes_read moves)) ≡ header v ++ frames v (spoken (one_shot_of p) events)
  due_spoken = ap (output its) (same_accepted its (meaning_of V1 0 (one_shot_of p)) (λ word x. refl) [] (whole (counted (bytes_read moves)))) ∙ output_is_spoken p v budget events

  abbrev Writes : End → Type 0
  Writes end = IsDue its (counted (bytes_read moves)) (bytes_written moves) end

  -- where no more was read than counts
  all_counted : (end : End) → IsWithinLimit end (length (bytes_read moves)) → (end ≡ Long → ⊥) → IsDue its (bytes_read moves) (bytes_written moves) end → Writes end
  all_counted end limit short is = subst (λ (bs : List ℕ). IsDue its bs (bytes_written moves) end) (sym (all_count (bytes_read moves) (few_read end (length (bytes_read moves)) limit short)).0) is

  of_this : (end : End) → RunsIts text budget v end moves → AtReturn its end moves
  of_this end ran =
      let same : ran.1.program ≡ p = (accepted_is_one text ran.1.program p ran.1.core c ran.1.accepted.accepted is_its).0 in
      subst (λ (P : Meaning). AtReturn P end moves) (ran.1.means ∙ ap (λ (q : ProgramTree). meaning_of v budget (one_shot_of q)) same) ran.3

  by_row : (end : End) → (end ≡ Long → ⊥) → MayEnd its (bytes_read moves) (has_ended moves) (bytes_written moves) end → IsWithinLimit end (length (bytes_read moves)) → Writes end
  by_row end short may limit = all_counted end limit short (row_due its (bytes_read moves) (has_ended moves) (bytes_written moves) end short may)

  nothing : (end : End) → (IsOverInput end → ⊥) → moves ≡ [] → Writes end
  nothing end never none = none_due its (counted (bytes_read moves)) (bytes_written moves) end never (ap bytes_written none)

  writes : (end : End) → RunsMoves text budget v end moves → IsWithinLimit end (length (bytes_read moves)) → Writes end
  writes Done ran = by_row Done (λ is. cc) (of_this Done ran)
  writes Open ran = by_row Open (λ is. cc) (of_this Open ran)
  writes (Input fault) ran = by_row (Input fault) (λ is. cc) (of_this (Input fault) ran)
  writes (Budget at) ran = by_row (Budget at) (λ is. cc) (of_this (Budget at) ran)
  writes (Deep at) ran = by_row (Deep at) (λ is. cc) (of_this (Deep at) ran)
  writes ReadFailed ran = by_row ReadFailed (λ is. cc) (of_this ReadFailed ran)
  writes WriteFailed ran = by_row WriteFailed (λ is. cc) (of_this WriteFailed ran)
  writes Memory (inl none) = λ limit. nothing Memory (λ over. over) none
  writes Memory (inr ran) = by_row Memory (λ is. cc) (of_this Memory ran)
  writes Long ran = λ limit. all_due its (counted (bytes_read moves)) (bytes_written moves) Long (of_this Long ran).2
  writes FileFailed none = λ limit. nothing FileFailed (λ over. over) none
  writes (Refused None) ran = absurd ran
  writes (Refused (Some why)) ran = λ limit. nothing (Refused (Some why)) (λ over. over) ran.1
  writes Usage ran = absurd ran
  writes (Objected what) ran = absurd ran

  wrote : (end : End) → Writes end → Wrote p v end ((one_shot_of p).gives (pre (one_shot_of p).input events)) (bytes_written moves)
  wrote end is =
      let meant = spoken_is_meant p c is_its.accepted events is_input in
      record {
        word = spoken (one_shot_of p) events;
        is_word = meant.0;
        stands = meant.1;
        front = (is.front.0, sym due_spoken ∙ is.front.1);
        all = λ over. is.all over ∙ due_spoken;
      }

pub run_is_meant : RunIsMeant
run_is_meant text p c is_its v moves end ran =
    let told = ran.told in
    let so = of_moves ran.before.log ran.after.log (RunsMoves (take 1048577 (ran.files ran.file)) ran.budget v end) (ran.runs.ends ran.files told.shelf) told.log told.log_before moves told.log_after in
    let reads = of_moves ran.before.log ran.after.log (ReadsWell end) ran.runs.reads told.log told.log_before moves told.log_after in
    let of_text = subst (λ (t : List ℕ). RunsMoves t ran.budget v end moves) ran.its_text so in
    wrote text p c is_its ran.budget v moves end (writes text p c is_its ran.budget v moves end of_text reads.limit)

pub runs_agree : RunsAgree
runs_agree text p c is_its v w first second end other ran again same = (
  (one_shot_of p).gives (taken_of p (bytes_read second)),
  subst (λ (taken : StreamPrefix). Wrote p v end ((one_shot_of p).gives taken) (bytes_written first)) same (run_is_meant text p c is_its v first end ran),
  run_is_meant text p c is_its w second other again,
)

pub runs_grow : RunsGrow
runs_grow text p c is_its v w first second end other ran again part = (
  (one_shot_of p).gives (taken_of p (bytes_read first)),
  (one_shot_of p).gives (taken_of p (bytes_read second)),
  run_is_meant text p c is_its v first end ran,
  run_is_meant text p c is_its w second other again,
  (tree_grows p c is_its.accepted).parts (taken_of p (bytes_read first)) (taken_of p (bytes_read second))
      (is_prefix (word_derives (one_shot_of p).input (events text p c is_its 0 v first) (is_input text p c is_its 0 v first))) part,
)
