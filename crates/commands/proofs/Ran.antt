-- A run of a text's checked core is one of its program.
use Rattle.std.proofs.Common.{inr, ℕ, List, Option, refl, subst}
use Rattle.port.specs.declared.link.Move.{Move}
use Rattle.event_frame.specs.declared.version.Version.{Version}
use Rattle.delta_tree.specs.SyntaxTree.{ProgramTree}
use Rattle.core_term.specs.CoreTerm.{CoreProgram}
use Rattle.delta_end.specs.declared.end.End.{End}
use Rattle.delta_end.specs.declared.end.End.TheVariants.{Done, Usage, Refused, Input, Budget, Deep, Open, FileFailed, ReadFailed, WriteFailed, Memory, Long, Objected}
use Rattle.checked_program.specs.Acceptance.{IsWritable}
use Rattle.delta_loop.specs.Loop.{Ran}
use Rattle.delta_session.specs.OneShot.{OneShot}
use Rattle.delta_output.specs.LoopMeaning.{meaning_of}
use Rattle.delta_session.specs.Programs.{one_shot}
use Rattle.output_laws.specs.TreeOneShot.{one_shot_of}
use Rattle.output_laws.proofs.Meant.{same_one_shot}
use Rattle.commands.specs.Running.{RanIts, RunsText}

pub ran_its : (text : List ℕ) (budget : ℕ) (v : Version) (p : ProgramTree) (c : CoreProgram) → IsWritable text v p c → (old new : Option (List Move)) (left0 left1 : Option (List ℕ)) (end : End)
    → Ran (meaning_of v budget (one_shot c)) old new left0 left1 end → RanIts text budget v old new left0 left1 end
ran_its text budget v p c accepted old new left0 left1 end ran = (
  meaning_of v budget (one_shot_of p),
  record { program = p; core = c; accepted = accepted; means = refl },
  subst (λ (P : OneShot). Ran (meaning_of v budget P) old new left0 left1 end) (same_one_shot p c accepted.accepted.accepted) ran,
)

-- so a run of the text ended so
pub runs_text : (text : List ℕ) (budget : ℕ) (v : Version) (old new : Option (List Move)) (left0 left1 : Option (List ℕ)) (end : End)
    → RanIts text budget v old new left0 left1 end → RunsText text budget v old new left0 left1 end
runs_text text budget v old new left0 left1 Done ran = ran
runs_text text budget v old new left0 left1 Usage ran = ran
runs_text text budget v old new left0 left1 (Refused why) ran = absurd ran.2.at.may
runs_text text budget v old new left0 left1 (Input fault) ran = ran
runs_text text budget v old new left0 left1 (Budget at) ran = ran
runs_text text budget v old new left0 left1 (Deep at) ran = ran
runs_text text budget v old new left0 left1 Open ran = ran
runs_text text budget v old new left0 left1 FileFailed ran = ran
runs_text text budget v old new left0 left1 (Objected what) ran = ran
runs_text text budget v old new left0 left1 ReadFailed ran = ran
runs_text text budget v old new left0 left1 WriteFailed ran = ran
runs_text text budget v old new left0 left1 Memory ran = inr ran
runs_text text budget v old new left0 left1 Long ran = ran
