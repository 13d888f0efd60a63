-- What is read as text is a number, but for one with a plus in front.
use Rattle.std.proofs.Common.{List, ℕ, Some, ap, ◌∙◌, sym, subst, rules}
use Rattle.std.specs.Prelude.{Err}
use Rattle.std.specs.Int.{w64}
use Rattle.std.specs.Str.Parse.{ParsesSigned}
use Rattle.std.proofs.lemmas.Int.{to_z-of_z}
use Rattle.table_feed.proofs.FieldNumbers.{plus_in_front, no_plus_in_front, no_text, not_read, read_as}
use Rattle.table_feed.proofs.number.number.Goals as goal

pub returns-then-begins_with_plus : goal.returns-then-begins_with_plus
returns-then-begins_with_plus c = sym (plus_in_front c.args.field.now (sym c.begins_with_plus.ensures ∙ c.if-begins_with_plus.true))

pub returns-in_default : goal.returns-in_default
returns-in_default c = sym (no_text c.args.field.now c.in_default.ensures.cases.0)

pub returns-in-Ok-parse : goal.returns-in-Ok-parse
returns-in-Ok-parse c =
    let read = rw c.in-Ok.ensures.cases.0 at c.in-Ok-parse.ensures.value.0 in
    ap Some (to_z-of_z w64 c.in-Ok-parse.number (search rules)) ∙ sym (read_as ℕ c.args.field.now c.in-Ok-parse.number (no_plus_in_front c.args.field.now (sym c.begins_with_plus.ensures ∙ c.if-begins_with_plus.false)) read)

pub returns-in-Err : goal.returns-in-Err
returns-in-Err c =
    sym (not_read c.args.field.now c.in-Err.field-0 (subst (λ (bs : List ℕ). ParsesSigned w64 10 bs (Err c.in-Err.field-0)) c.in-Ok.ensures.cases.0 c.in-Err.ensures.value.0))
