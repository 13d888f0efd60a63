-- The laws of what is put out where a run goes on from a kept state.
--
-- Choices that are not obvious:
-- - Of two runs, one that is kept and one that goes on from what was kept, the first writes a header and the second
--   none. So their bytes, joined, are those of one run.
-- - That the program's output goes on by the kept state's (`IsKept`) doesn't tell the type of what is left of it: what
--   is joined behind a whole prefix is dropped. So that type is a premise of its own.
use Rattle.std.specs.Prelude.{◌≡◌, ℕ, List, ◌++◌}
use Rattle.event_word.specs.StreamEvent.{StreamEvent}
use Rattle.event_word.specs.Word.{IsWord}
use Rattle.event_frame.specs.declared.version.Version.{Version}
use Rattle.event_frame.specs.Frames.{frames}
use Rattle.core_term.specs.CoreTerm.{CoreProgram}
use Rattle.delta_state.specs.MachineView.{input_of}
use Rattle.delta_state.specs.Stands.{input_type, output_left}
use Rattle.delta_session.specs.Programs.{CanRun, one_shot}
use Rattle.kept_state.specs.KeptTree.{KeptTree}
use Rattle.kept_state.specs.KeptTyping.{IsTypedKept}
use Rattle.kept_state.specs.KeptMeaning.{input_kept}
use Rattle.kept_state.specs.Laws.{IsKept}
use Rattle.delta_loop.specs.Output.{output}
use Rattle.delta_output.specs.LoopMeaning.{meaning_of}
use Rattle.delta_output.specs.Spoken.{spoken}
use Rattle.delta_output.specs.Spoken as spoken_words
use Rattle.delta_runner.specs.KeptOneShot.{one_shot_kept, meaning_since}

-- what is written is the frames of the events that are put out, without a header, whoever wrote the kept state
abbrev pub OutputIsSpoken : Type 0
OutputIsSpoken =
    (c : CoreProgram) (k : KeptTree) (v : Version) (budget : ℕ) (word : List StreamEvent)
    → output (meaning_since v budget c k) word ≡ frames v (spoken (one_shot_kept c k) word)

-- of a typed one they are a word of what is left of the output's type, and stand for its meaning on all that came since
abbrev pub SpokenIsMeant : Type 0
SpokenIsMeant = (c : CoreProgram) (k : KeptTree) → CanRun c → IsTypedKept c k → spoken_words.SpokenIsMeant (one_shot_kept c k)

-- words that stand for one prefix, however their events are ordered, give outputs that stand for one prefix
abbrev pub OrderDoesNotMatter : Type 0
OrderDoesNotMatter = (c : CoreProgram) (k : KeptTree) → CanRun c → IsTypedKept c k → spoken_words.OrderDoesNotMatter (one_shot_kept c k)

-- what was said of a word is a part of what is said when more came
abbrev pub NothingIsRevised : Type 0
NothingIsRevised = (c : CoreProgram) (k : KeptTree) → CanRun c → IsTypedKept c k → spoken_words.NothingIsRevised (one_shot_kept c k)

-- where the state was kept of a program after a word, what a run wrote for that word and what a run writes that goes on
-- from there are, joined, what one run writes for all of it; the budgets may differ
abbrev pub RunsJoin : Type 0
RunsJoin =
    (c : CoreProgram) (k : KeptTree) (v : Version) (budget later : ℕ) (before word : List StreamEvent) → CanRun c → IsWord (input_type c) before
    → IsKept c (input_of c before) k → k.out ≡ output_left c (input_of c before) → IsWord (input_kept c k) word
    → output (meaning_of v budget (one_shot c)) before ++ output (meaning_since v later c k) word ≡ output (meaning_of v budget (one_shot c)) (before ++ word)
