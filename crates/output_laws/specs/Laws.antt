-- The laws of what programs put out.
use Rattle.std.specs.Prelude.{◌≡◌, ◌<◌, ◌^◌, List, true}
use Rattle.stream_type.specs.StreamType.{null_of}
use Rattle.stream_prefix.specs.StreamPrefix.{is_maximal}
use Rattle.event_word.specs.StreamEvent.{StreamEvent}
use Rattle.event_word.specs.Word.{IsWord}
use Rattle.delta_tree.specs.SyntaxTree.{ProgramTree}
use Rattle.core_term.specs.CoreTerm.{CoreProgram}
use Rattle.delta_elab.specs.Accepted.{IsAccepted}
use Rattle.delta_session.specs.OneShot.{left_of, said, calls_on}
use Rattle.delta_output.specs.Spoken as spoken
use Rattle.output_laws.specs.TreeOneShot.{one_shot_of}

-- the output is the header and the frames of the events that are put out, whether the program is accepted or not
abbrev pub OutputIsSpoken : Type 0
OutputIsSpoken = (p : ProgramTree) → spoken.OutputIsSpoken (one_shot_of p)

-- of an accepted program they are a word of the output's type, and stand for the one-shot meaning of the whole input
abbrev pub SpokenIsMeant : Type 0
SpokenIsMeant = (p : ProgramTree) (c : CoreProgram) → IsAccepted p c → spoken.SpokenIsMeant (one_shot_of p)

-- words that stand for one prefix, however their events are ordered, give outputs that stand for one prefix
abbrev pub OrderDoesNotMatter : Type 0
OrderDoesNotMatter = (p : ProgramTree) (c : CoreProgram) → IsAccepted p c → spoken.OrderDoesNotMatter (one_shot_of p)

-- what was said of a word is a part of what is said when more came
abbrev pub NothingIsRevised : Type 0
NothingIsRevised = (p : ProgramTree) (c : CoreProgram) → IsAccepted p c → spoken.NothingIsRevised (one_shot_of p)

-- a whole input gives a whole output, where the meaning makes fewer than 2^62 calls
abbrev pub WholeInWholeOut : Type 0
WholeInWholeOut =
    (p : ProgramTree) (c : CoreProgram) → IsAccepted p c → (word : List StreamEvent) → IsWord (one_shot_of p).input word
    → null_of (left_of (one_shot_of p) word) ≡ true → calls_on (one_shot_of p) word < 2 ^ 62 → is_maximal (said (one_shot_of p) word) ≡ true
