-- Digits are parsed, and nothing else is.
use Rattle.std.proofs.Common.{◌∙◌, sym}
use Rattle.delta_lex.proofs.Numerals.{parse_digits_is, no_digits_none}
use Rattle.delta_lex.proofs.numeral.number.Goals as goal

pub returns-then-are_digits : goal.returns-then-are_digits
returns-then-are_digits c =
    c.ok.ensures.value ∙ parse_digits_is c.args.text.now _ (sym c.are_digits.ensures ∙ c.if-are_digits.true) c.parse.ensures.value.0

pub returns-else-are_digits : goal.returns-else-are_digits
returns-else-are_digits c = no_digits_none c.args.text.now (sym c.are_digits.ensures ∙ c.if-are_digits.false)
