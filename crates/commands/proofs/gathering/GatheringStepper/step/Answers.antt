-- An event that is admitted is kept, and answered with nothing.
use Rattle.std.proofs.Common.{◌≡◌, Some, ◌∙◌, ap, sym, refl}
use Rattle.stream_type.specs.StreamType.{type_of}
use Rattle.event_word.proofs.Walks.{no_fault_is_admitted}
use Rattle.commands.proofs.Gathered.{gathers_next, gathers_same, faults_here, answers_nothing}
use Rattle.commands.proofs.gathering.GatheringStepper.step.Goals as goal

pub returns-in-Ok-push-clause-ok : goal.returns-in-Ok-push-clause-ok
returns-in-Ok-push-clause-ok c P word now =
    let admits = c.in-Ok.ensures.ok.0 refl in
    let items = rw c.in-Ok-push.is at c.push.ensures.items in (
      faults_here c.args.self.now P word c.args.event now ∙ (no_fault_is_admitted (type_of c.args.self.now.rest) c.args.event).1 admits,
      gathers_next c.args.self.now _ P word c.args.event now admits c.in_ok-rest-in-Ok.ensures items,
      c.new.ensures.items ∙ sym (answers_nothing c.args.self.now P word c.args.event now),
    )

pub returns-in-Err-clause-refused : goal.returns-in-Err-clause-refused
returns-in-Err-clause-refused c fault is P word now =
    let same : c.in-Err.fault ≡ fault = cc in
    faults_here c.args.self.now P word c.args.event now ∙ (c.in-Err.ensures.fault c.in-Err.fault).0 refl ∙ ap Some same

-- where there is no room for it, all is as it was
pub returns-in-Err-push-clause-untaken : goal.returns-in-Err-push-clause-untaken
returns-in-Err-push-clause-untaken c P word after = gathers_same c.args.self.now _ P word refl (rw c.in-Err-push.is at c.push.ensures.items) after
