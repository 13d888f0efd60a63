-- An event that isn't known is taken by the machine, from where the runner stood.
use Rattle.std.proofs.Common.{List, Ok, ap, refl}
use Rattle.event_word.specs.StreamEvent.{StreamEvent}
use Rattle.delta_loop.specs.Meaning.{Meaning}
use Rattle.learned_runner.specs.Standing.{StandsFor, HasTaken}
use Rattle.learned_runner.proofs.Anew.{taken_from, ok_too, err_too}
use Rattle.learned_runner.proofs.runner.LearnerStepper.step.Goals as goal

pub anew-requires : goal.anew-requires
anew-requires c =
    let same = c.in-Ok-None.ensures.same.0 (ap Ok c.in-Ok-None.field-0-is) in
    record { program = c.requires.program; word = c.requires.word; state = (same c.requires.program c.requires.word).0 c.requires.state; room = c.requires.room }

pub returns-in-Ok-None-clause-ok : goal.returns-in-Ok-None-clause-ok
returns-in-Ok-None-clause-ok c =
    let same = c.in-Ok-None.ensures.same.0 (ap Ok c.in-Ok-None.field-0-is) in
    ok_too c.anew.result (λ bytes. HasTaken c.again.new.self c.anew.new.self c.args.event bytes.items)
    (λ bytes. HasTaken c.args.self.now c.anew.new.self c.args.event bytes.items)
    (λ bytes taken. taken_from c.args.self.now c.again.new.self c.anew.new.self c.args.event bytes.items same taken) c.anew.ensures.taken

pub returns-in-Ok-None-clause-refused : goal.returns-in-Ok-None-clause-refused
returns-in-Ok-None-clause-refused c fault is P word s =
    let same = c.in-Ok-None.ensures.same.0 (ap Ok c.in-Ok-None.field-0-is) in
    (c.anew.ensures.refused fault is P word ((same P word).0 s)).0

pub returns-in-Ok-None-clause-kept : goal.returns-in-Ok-None-clause-kept
returns-in-Ok-None-clause-kept c fault is P word s =
    let same = c.in-Ok-None.ensures.same.0 (ap Ok c.in-Ok-None.field-0-is) in
    (c.anew.ensures.refused fault is P word ((same P word).0 s)).1

pub returns-in-Ok-None-clause-untaken : goal.returns-in-Ok-None-clause-untaken
returns-in-Ok-None-clause-untaken c =
    let same = c.in-Ok-None.ensures.same.0 (ap Ok c.in-Ok-None.field-0-is) in
    err_too c.anew.result ((P : Meaning) (word : List StreamEvent) → StandsFor c.anew.new.self P word → StandsFor c.again.new.self P word)
    ((P : Meaning) (word : List StreamEvent) → StandsFor c.anew.new.self P word → StandsFor c.args.self.now P word)
    (λ more P word s. (same P word).1 (more P word s)) c.anew.ensures.untaken

pub returns-in-Ok-None-clause-costly : goal.returns-in-Ok-None-clause-costly
returns-in-Ok-None-clause-costly c is P word s =
    let same = c.in-Ok-None.ensures.same.0 (ap Ok c.in-Ok-None.field-0-is) in
    c.anew.ensures.costly is P word ((same P word).0 s)

pub returns-in-Ok-None-clause-deep : goal.returns-in-Ok-None-clause-deep
returns-in-Ok-None-clause-deep c is P word s =
    let same = c.in-Ok-None.ensures.same.0 (ap Ok c.in-Ok-None.field-0-is) in
    c.anew.ensures.deep is P word ((same P word).0 s)

pub returns-in-Ok-None-clause-program : goal.returns-in-Ok-None-clause-program
returns-in-Ok-None-clause-program c p of = c.anew.ensures.program p (c.in-Ok-None.ensures.program p of)

pub returns-in-Err-clause-untaken : goal.returns-in-Err-clause-untaken
returns-in-Err-clause-untaken c P word s = (c.in-Err.ensures.same.1 c.in-Err.field-0 refl P word).1 s
