-- The line goes on behind the leaf.
use Rattle.std.proofs.Common.{◌<◌, length, ◌∙◌, ap, sym, arith}
use Rattle.std.specs.Prelude.{Option}
use Rattle.std.proofs.lemmas.Bool.Decides.{nat_tests}
use Rattle.event_word.specs.declared.event.Leaf.{Leaf}
use Rattle.event_text.specs.Reading.{last_word}
use Rattle.event_text.specs.Words.{behind}
use Rattle.event_text.proofs.Splitting.{goes_on}
use Rattle.event_text.proofs.read.last_word.Goals as goal

pub returns-else-is_empty : goal.returns-else-is_empty
returns-else-is_empty c =
    let some : 0 < length c.args.rest.now = grind (arith, nat_tests, c.is_empty.ensures, c.if-is_empty.false) in
    sym (ap (λ (leaf : Option Leaf). last_word leaf c.args.fault c.args.column (behind c.args.rest.now)) c.in-Some.is ∙ goes_on c.in-Some.leaf c.args.fault c.args.column c.args.rest.now some)
