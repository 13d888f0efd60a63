-- The run gathers the input, and what is written is what the program says of it.
use Rattle.std.proofs.Common.{◌≡◌, ◌≤◌, ◌<◌, ◌∙◌, ℕ, true, false, List, [], ap, sym, refl, subst}
use Rattle.stream_type.specs.StreamType.{StreamType}
use Rattle.event_word.specs.StreamEvent.{StreamEvent}
use Rattle.event_word.specs.Word.{IsWord}
use Rattle.delta_tree.specs.Tree.{program_of}
use Rattle.delta_meaning.specs.declared.refusal.EvalRefusal.TheVariants.{Budget}
use Rattle.core_term.specs.CoreTerm.{core_of}
use Rattle.commands.specs.Gathering.{gathering, Gathers}
use Rattle.commands.specs.Evaluating.{input_of, calls_on, evaluation, ends_well, Evaluates}
use Rattle.commands.proofs.Evaluated.{input_is, wanting_first, ends_unwell, gathered_word, refuses, says}
use Rattle.commands.proofs.evaluating.eval_program.Goals as goal

pub returns-in-Err-clause-evaluated : goal.returns-in-Err-clause-evaluated
returns-in-Err-clause-evaluated g c = wanting_first (program_of c.args.accepted.now.program) c.args.budget c.args.version _ _

pub returns-then-not-is_well-clause-evaluated : goal.returns-then-not-is_well-clause-evaluated
returns-then-not-is_well-clause-evaluated g c =
    let p = program_of c.args.accepted.now.program in
    let same = c.input.ensures ∙ input_is p (core_of c.args.accepted.now.checked) c.requires.accepted in
    let begun = subst (λ (s : StreamType). Gathers c.in-Ok.gathering (gathering s) []) same c.in-Ok.ensures in
    let to = c.run_machine-end.ensures.ran (gathering (input_of p)) record { state = begun; version = refl; bytes = refl } in
    let unwell : ends_well c.run_machine-end.result ≡ false = cc (c.is_well.ensures, c.if-not-is_well.true) in
    ends_unwell p c.args.budget c.args.version _ _ _ _ c.run_machine-end.result unwell c.run_machine-end.new.machine to

pub written_for-bytes-requires-clause-word : goal.written_for-bytes-requires-clause-word
written_for-bytes-requires-clause-word g c =
    let p = program_of c.args.accepted.now.program in
    let same = c.input.ensures ∙ input_is p (core_of c.args.accepted.now.checked) c.requires.accepted in
    let begun = subst (λ (s : StreamType). Gathers c.in-Ok.gathering (gathering s) []) same c.in-Ok.ensures in
    let to = c.run_machine-end.ensures.ran (gathering (input_of p)) record { state = begun; version = refl; bytes = refl } in
    let well : ends_well c.run_machine-end.result ≡ true = cc (c.is_well.ensures, c.if-not-is_well.false) in
    subst (IsWord (input_of p)) (sym c.deref.ensures.value)
    (gathered_word p c.args.budget c.args.version _ _ _ _ c.run_machine-end.result well c.run_machine-end.new.machine to)

pub returns-in-Ok-bytes-clause-evaluated : goal.returns-in-Ok-bytes-clause-evaluated
returns-in-Ok-bytes-clause-evaluated g c =
    let p = program_of c.args.accepted.now.program in
    let same = c.input.ensures ∙ input_is p (core_of c.args.accepted.now.checked) c.requires.accepted in
    let begun = subst (λ (s : StreamType). Gathers c.in-Ok.gathering (gathering s) []) same c.in-Ok.ensures in
    let to = c.run_machine-end.ensures.ran (gathering (input_of p)) record { state = begun; version = refl; bytes = refl } in
    let well : ends_well c.run_machine-end.result ≡ true = cc (c.is_well.ensures, c.if-not-is_well.false) in
    let sent = c.say.ensures.sent in
    let within = subst (λ (w : List StreamEvent). calls_on p w ≤ c.args.budget) c.deref.ensures.value c.in-Ok-bytes.ensures.within in
    let is = ap (evaluation p c.args.version) (sym c.deref.ensures.value) ∙ sym c.in-Ok-bytes.ensures.bytes ∙ sym c.deref-in-Ok-bytes.ensures.value ∙ sent.2 in
    says p c.args.budget c.args.version _ _ _ _ c.run_machine-end.result well c.run_machine-end.new.machine to _ _ c.say.ensures.left sent.0 sent.1 sent.3 within is c.say.result sent.4

pub returns-in-Err-bytes-clause-evaluated : goal.returns-in-Err-bytes-clause-evaluated
returns-in-Err-bytes-clause-evaluated g c =
    let p = program_of c.args.accepted.now.program in
    let same = c.input.ensures ∙ input_is p (core_of c.args.accepted.now.checked) c.requires.accepted in
    let begun = subst (λ (s : StreamType). Gathers c.in-Ok.gathering (gathering s) []) same c.in-Ok.ensures in
    let to = c.run_machine-end.ensures.ran (gathering (input_of p)) record { state = begun; version = refl; bytes = refl } in
    let well : ends_well c.run_machine-end.result ≡ true = cc (c.is_well.ensures, c.if-not-is_well.false) in
    let spent = rw c.in-Err-bytes.is at c.written_for-bytes.ensures.spent in
    let more : (n : ℕ) → c.in-Err-bytes.refusal ≡ Budget n → c.args.budget < calls_on p c.run_machine-end.new.machine.word.items = λ n is.
    subst (λ (w : List StreamEvent). c.args.budget < calls_on p w) c.deref.ensures.value (spent n is) in
    subst (Evaluates p c.args.budget c.args.version _ _ _ _) (sym c.end_of.ensures)
    (refuses p c.args.budget c.args.version _ _ _ _ c.run_machine-end.result well c.run_machine-end.new.machine to c.in-Err-bytes.refusal more)
