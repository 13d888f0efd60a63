-- What is read so far is above the limit, so the whole is.
use Rattle.std.proofs.Common.{◌≡◌, ◌+◌, ℕ, get_or, true, arith, sym, rules}
use Rattle.std.specs.Char.{digit_value, is_ascii_digit}
use Rattle.std.proofs.lemmas.Str.{digit_value_digit}
use Rattle.std.proofs.lemmas.Bool.Decides.{nat_tests}
use Rattle.delta_words.proofs.NumberLemmas.{too_high}
use Rattle.delta_words.proofs.number.number.Goals as goal

pub returns-then-value-limit : goal.returns-then-value-limit
returns-then-value-limit c =
    let b : ℕ = get_or c.args.word.now c.loop-byte.byte-index 0 in
    let e : is_ascii_digit b ≡ true = search rules in
    let d : digit_value b + 48 ≡ b = digit_value_digit b (grind (arith, nat_tests)) in
    sym (too_high c.args.most c.args.limit c.args.word.now c.loop-byte.byte-index c.loop-byte.value c.loop-byte.invariant.0 c.loop-byte-test.true (omega arith))
