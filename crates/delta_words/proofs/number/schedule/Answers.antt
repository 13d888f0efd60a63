-- What the digits read so far say of the whole schedule.
use Rattle.std.proofs.Common.{sym, ◌∙◌}
use Rattle.std.proofs.lemmas.List.{drop_all}
use Rattle.delta_words.proofs.NumberLemmas.{all_named, not_below, not_empty, not_named, put_named, too_few}
use Rattle.delta_words.proofs.number.schedule.Goals as goal

pub returns-then-not-is_ascii_digit : goal.returns-then-not-is_ascii_digit
returns-then-not-is_ascii_digit c =
    not_named c.args.tables c.args.word.now c.loop-byte.byte-index c.loop-byte.numbers.items c.loop-byte.invariant c.loop-byte-test.true (sym c.if-not-is_ascii_digit.ensures.value)

pub returns-then-from-tables : goal.returns-then-from-tables
returns-then-from-tables c =
    not_below c.args.tables c.args.word.now c.loop-byte.byte-index c.loop-byte.numbers.items c.loop-byte.invariant c.loop-byte-test.true
    (too_few c.args.tables _ c.from.result c.if-not-is_ascii_digit.ensures.cases c.from.ensures c.if-from-tables.true)

pub loop-byte-preserved : goal.loop-byte-preserved
loop-byte-preserved c =
    put_named c.args.tables c.args.word.now c.loop-byte.byte-index c.loop-byte.numbers.items c.from.result c.from-in-loop-byte.result c.push.new.self.items
    c.loop-byte.invariant c.loop-byte-test.true c.if-not-is_ascii_digit.ensures.value c.if-not-is_ascii_digit.ensures.cases
    c.from.ensures c.if-from-tables.false c.from-in-loop-byte.ensures c.in_ok-push.ensures.items

pub returns : goal.returns
returns c =
    all_named c.args.tables c.args.word.now c.loop-byte.byte-index c.loop-byte.numbers.items c.loop-byte.invariant (drop_all _ _ c.loop-byte-test.false)
    (not_empty c.args.word.now (sym c.is_empty.ensures ∙ c.if-is_empty.false)) c.if-word-gt64.false

pub overflow_sub-number : goal.overflow_sub-number
overflow_sub-number c = c.if-not-is_ascii_digit.ensures.cases.0
