-- What the machine answers is the answer, and where it doesn't the runner stands for what it stood for, or for nothing.
use Rattle.std.proofs.Common.{◌≡◌, ◌∙◌, Some, Err, refl, ap}
use Rattle.delta_code.specs.declared.machine.Coded.{Coded}
use Rattle.delta_code.specs.CodedView.{program_of}
use Rattle.learned_runner.proofs.Taking.{stands_as_before}
use Rattle.learned_runner.proofs.Anew.{may_answer, anew_taken, taken_from, taken_by, fault_here, costly_here, deep_here, alone}
use Rattle.learned_runner.proofs.runner.Learner.anew.Goals as goal

pub returns-in-Err-clause-untaken : goal.returns-in-Err-clause-untaken
returns-in-Err-clause-untaken c P word s = (c.in-Err.ensures.same P word).1 s

pub answer-requires : goal.answer-requires
answer-requires c =
    record {
      may = may_answer c.leave.new.self c.in-Ok.ensures.left
          (record { program = c.requires.program; word = c.requires.word; state = (c.in-Ok.ensures.same c.requires.program c.requires.word).0 c.requires.state; room = c.requires.room });
    }

pub returns-in-Ok-answer-clause-taken : goal.returns-in-Ok-answer-clause-taken
returns-in-Ok-answer-clause-taken c =
    taken_from c.args.self.now c.leave.new.self c.note.new.self c.args.event.now c.in-Ok-answer.bytes.items c.in-Ok.ensures.same
    (taken_by c.leave.new.self _ c.note.new.self c.args.event.now c.in-Ok-answer.bytes.items
    (anew_taken c.leave.new.self c.in-Ok.ensures.left _ c.args.event.now c.in-Ok-answer.bytes.items c.in-Ok-answer.ensures.answers refl refl c.in-Ok.ensures.left refl)
    c.note.ensures.stands)

pub returns-in-Ok-answer-clause-program : goal.returns-in-Ok-answer-clause-program
returns-in-Ok-answer-clause-program c p of =
    c.note.ensures.program p (λ alive.
    (c.in-Ok-answer.ensures.answers c.requires.word (alone c.leave.new.self c.in-Ok.ensures.left c.requires.program c.requires.word ((c.in-Ok.ensures.same c.requires.program c.requires.word).0 c.requires.state))).program
    ∙ c.in-Ok.ensures.program p of alive)

pub returns-in-Err-Refused-clause-refused : goal.returns-in-Err-Refused-clause-refused
returns-in-Err-Refused-clause-refused c fault is P word s =
    let mid = (c.in-Ok.ensures.same P word).0 s in
    let told = c.answer.ensures.refused c.in-Err-Refused.fault (c.in-Err-Refused.is ∙ ap Err c.in-Err-Refused.field-0-is) in
    let same : c.in-Err-Refused.fault ≡ fault = cc (is, c.in-Err-Refused.field-0-is, c.in-Err-Refused.fault-is) in (
      fault_here c.leave.new.self c.in-Ok.ensures.left P word c.args.event.now mid ∙ (told.0 ∙ ap Some same),
      (stands_as_before c.leave.new.self _ told.1 refl refl refl refl refl P word).0 mid,
    )

pub returns-in-Err-Refused-clause-untaken : goal.returns-in-Err-Refused-clause-untaken
returns-in-Err-Refused-clause-untaken c P word s =
    let told = c.answer.ensures.refused _ (c.in-Err-Refused.is ∙ ap Err c.in-Err-Refused.field-0-is) in
    (c.in-Ok.ensures.same P word).1 ((stands_as_before c.leave.new.self _ told.1 refl refl refl refl refl P word).1 s)

pub returns-in-Err-Refused-clause-program : goal.returns-in-Err-Refused-clause-program
returns-in-Err-Refused-clause-program c p of alive =
    let told = c.answer.ensures.refused _ (c.in-Err-Refused.is ∙ ap Err c.in-Err-Refused.field-0-is) in
    ap (λ (m : Coded). program_of m) told.1 ∙ c.in-Ok.ensures.program p of alive

pub returns-in-Err-Budget-clause-costly : goal.returns-in-Err-Budget-clause-costly
returns-in-Err-Budget-clause-costly c is P word s =
    let mid = (c.in-Ok.ensures.same P word).0 s in
    let told = c.answer.ensures.costly (c.in-Err-Budget.is ∙ ap Err c.in-Err-Budget.field-0-is) in (
      fault_here c.leave.new.self c.in-Ok.ensures.left P word c.args.event.now mid ∙ told.0,
      costly_here c.leave.new.self c.in-Ok.ensures.left P word c.args.event.now mid (told.1 word (alone c.leave.new.self c.in-Ok.ensures.left P word mid)),
    )

pub returns-in-Err-Deep-clause-deep : goal.returns-in-Err-Deep-clause-deep
returns-in-Err-Deep-clause-deep c is P word s =
    let mid = (c.in-Ok.ensures.same P word).0 s in
    let told = c.answer.ensures.deep (c.in-Err-Deep.is ∙ ap Err c.in-Err-Deep.field-0-is) in (
      fault_here c.leave.new.self c.in-Ok.ensures.left P word c.args.event.now mid ∙ told.0,
      deep_here c.leave.new.self c.in-Ok.ensures.left P word c.args.event.now mid (told.1 word (alone c.leave.new.self c.in-Ok.ensures.left P word mid)),
    )
