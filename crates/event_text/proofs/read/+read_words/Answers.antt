-- The first word is no step, and no leaf either.
use Rattle.std.proofs.Common.{◌≡◌, ◌<◌, length, ◌∙◌, sym, arith}
use Rattle.std.specs.Prelude.{None}
use Rattle.std.proofs.lemmas.Bool.Decides.{nat_tests}
use Rattle.std.proofs.lemmas.Result.{err_from_is_err_and}
use Rattle.event_text.specs.Reading.{step_of}
use Rattle.event_text.proofs.Splitting.{no_leaf}
use Rattle.event_text.proofs.read.+read_words.Goals as goal

pub returns-in_err-leaf-clause-event : goal.returns-in_err-leaf-clause-event
returns-in_err-leaf-clause-event t c =
    let some : 0 < length c.args.line.now = grind (arith, nat_tests, c.is_empty.ensures, c.if-is_empty.false) in
    let none : step_of c.first_word.result.0.now ≡ None = sym c.step_of.ensures ∙ c.in_default.is in
    let exit = err_from_is_err_and c.from_residual.result c.from_residual.ensures.1 in
    rw (exit.1, exit.2) (no_leaf c.args.left c.args.column c.args.line.now c.first_word.result.0.now c.first_word.result.1.now c.in_err-leaf.field-0.0 c.first_word.ensures.words (omega (arith, c.first_word.ensures.len)) none c.in_err-leaf.ensures)
