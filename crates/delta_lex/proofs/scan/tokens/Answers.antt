-- A fault of the reading is a cause, and what it reads stands in the text in order.
use Rattle.std.proofs.Common.{Vec, Global}
use Rattle.delta_lex.specs.declared.token.Token.{Token}
use Rattle.delta_lex.specs.Tokens.{lexemes}
use Rattle.delta_lex.proofs.Causes.{causes}
use Rattle.delta_lex.proofs.Places.{text_slices, text_in_order}
use Rattle.delta_lex.proofs.scan.tokens.Goals as goal

pub returns-in-Ok-clause-fault : goal.returns-in-Ok-clause-fault
returns-in-Ok-clause-fault c =
    causes c.in-Ok.text.now c.args.text.now c.scan.result c.in-Ok.ensures.cases.0 (record { short = c.if-text-gt-LONGEST.false; utf8 = c.in-Ok.ensures.cases.1 }) c.scan.ensures.fault

pub returns-in-Ok-clause-slices : goal.returns-in-Ok-clause-slices
returns-in-Ok-clause-slices c =
    text_slices (λ (found : Vec Token Global). lexemes found.items) c.in-Ok.text.now c.args.text.now c.scan.result c.in-Ok.ensures.cases.0 c.in-Ok.ensures.cases.1 c.scan.ensures.found

pub returns-in-Ok-clause-places : goal.returns-in-Ok-clause-places
returns-in-Ok-clause-places c =
    text_in_order (λ (found : Vec Token Global). lexemes found.items) c.in-Ok.text.now c.scan.result c.scan.ensures.found
