-- A run of an accepted text that ended with 0, 4, 6 or 9 is settled by its whole input.
use Rattle.std.proofs.Common.{◌≡◌, ℕ, List, Option, ◌∙◌, ap, subst}
use Rattle.port.specs.declared.link.Move.{Move}
use Rattle.event_frame.specs.declared.version.Version.{Version}
use Rattle.delta_tree.specs.SyntaxTree.{ProgramTree}
use Rattle.delta_end.specs.declared.end.End.{End}
use Rattle.delta_end.specs.declared.end.End.TheVariants.{Done, Usage, Refused, Input, Budget, Deep, Open, FileFailed, ReadFailed, WriteFailed, Memory, Long, Objected}
use Rattle.checked_program.proofs.OneAnswer.{accepted_is_one}
use Rattle.delta_loop.specs.Meaning.{Meaning}
use Rattle.delta_loop.specs.Loop.{Ran}
use Rattle.delta_output.specs.LoopMeaning.{meaning_of}
use Rattle.output_laws.specs.TreeOneShot.{one_shot_of}
use Rattle.commands.specs.Running.{RanIts}
use Rattle.delta_run.specs.Text.{RanText}
use Rattle.delta_run.specs.Settled.{SettlesWell}
use Rattle.delta_run.proofs.Settling.{run_settles, any_budget}

module _ (text : List ℕ) (budget : ℕ) (v : Version) (old new : Option (List Move)) (left0 left1 : Option (List ℕ)) where
  -- the program that ran is that of the text
  its_settled : (end : End) → RanIts text budget v old new left0 left1 end → SettlesWell text v left0 old new end
  its_settled end ran p c accepted all tells other =
      let same : ran.1.program ≡ p = (accepted_is_one text ran.1.program p ran.1.core c ran.1.accepted.accepted accepted.accepted).0 in
      let of_this = subst (λ (P : Meaning). Ran P old new left0 left1 end) (ran.1.means ∙ ap (λ (q : ProgramTree). meaning_of v budget (one_shot_of q)) same) ran.2 in
      any_budget (meaning_of v budget (one_shot_of p)) other all old new end (run_settles (meaning_of v budget (one_shot_of p)) old new left0 left1 all tells end of_this)

  pub text_settled : (end : End) → RanText text budget v old new left0 left1 end → SettlesWell text v left0 old new end
  text_settled FileFailed ran p c accepted = λ all tells other over. absurd over
  text_settled (Refused why) ran p c accepted = λ all tells other over. absurd over
  text_settled Memory ran p c accepted = λ all tells other over. absurd over
  text_settled Usage ran p c accepted = its_settled Usage ran p c accepted
  text_settled (Objected what) ran p c accepted = its_settled (Objected what) ran p c accepted
  text_settled Done ran p c accepted = its_settled Done ran p c accepted
  text_settled (Input fault) ran p c accepted = its_settled (Input fault) ran p c accepted
  text_settled (Budget at) ran p c accepted = its_settled (Budget at) ran p c accepted
  text_settled (Deep at) ran p c accepted = its_settled (Deep at) ran p c accepted
  text_settled Open ran p c accepted = its_settled Open ran p c accepted
  text_settled ReadFailed ran p c accepted = its_settled ReadFailed ran p c accepted
  text_settled WriteFailed ran p c accepted = its_settled WriteFailed ran p c accepted
  text_settled Long ran p c accepted = its_settled Long ran p c accepted
