-- The word is no number.
use Rattle.std.proofs.Common.{◌≡◌, ◌<◌, length, false, sym, arith}
use Rattle.std.proofs.lemmas.Bool.Decides.{nat_tests}
use Rattle.event_text.specs.Reading.{is_number}
use Rattle.event_text.proofs.Splitting.{no_number}
use Rattle.event_text.proofs.read.read_number.Goals as goal

pub returns-then-not-is_number : goal.returns-then-not-is_number
returns-then-not-is_number c =
    let some : 0 < length c.args.line.now = grind (arith, nat_tests, c.is_empty.ensures, c.if-is_empty.false) in
    let is_none : is_number c.first_word.result.0.now ≡ false = cc in
    sym (no_number c.args.column c.args.line.now c.first_word.result.0.now c.first_word.result.1.now c.first_word.ensures.words (omega (arith, c.first_word.ensures.len)) is_none)
