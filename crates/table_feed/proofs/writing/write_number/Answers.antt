-- The digits of a number need no quotes.
use Rattle.std.proofs.Common.{◌≡◌, ◌≢◌, ℕ, List, [], ◌∷◌, ◌++◌, length, ap, ◌∙◌, sym, inl, inr}
use Rattle.std.specs.Prelude.{not, ◌==◌, if◌then◌else◌}
use Rattle.std.specs.Fmt.{signed_decimal}
use Rattle.std.specs.Int.{w64}
use Rattle.std.proofs.lemmas.Int.{to_z-of_z}
use Rattle.std.proofs.lemmas.Bool.{cases_Bool}
use Rattle.std.proofs.lemmas.List.{append-nil}
use Rattle.csv.specs.declared.writer.QuoteStyle.TheVariants as style
use Rattle.csv.specs.Writing.{default_writer, field_text, fields_written, has_written}
use Rattle.table_feed.specs.Written.{written}
use Rattle.table_feed.proofs.WrittenRows.{plain_number, not_zero}
use Rattle.table_feed.proofs.FieldNumbers.{written_number}
use Rattle.table_feed.proofs.WholeRows.{ascii_joined}
use Rattle.table_feed.proofs.writing.write_number.Goals as goal

pub returns-in-Ok-clause-text : goal.returns-in-Ok-clause-text
returns-in-Ok-clause-text c =
    let s = c.requires.setup in
    let plain : c.args.writer.now.cfg.style ≢ style.NonNumeric = rw s (λ e. cc e) in
    let digits : c.as_bytes.result.now ≡ signed_decimal c.args.number = c.as_bytes.ensures.value ∙ c.in_ok-digits.ensures.ok ∙ ap signed_decimal (to_z-of_z w64 c.args.number c.ranges.number) in
    let field : field_text default_writer c.as_bytes.result.now ≡ signed_decimal c.args.number = ap (field_text default_writer) digits ∙ plain_number c.args.number c.ranges.number in
    let text = rw (s, field) at (c.in-Ok.ensures.text plain) in
    text ∙ ap (λ (t : List ℕ). written c.args.writer.now ++ ((if fields_written c.args.writer.now == 0 then [] else 44 ∷ []) ++ t)) (sym (append-nil (signed_decimal c.args.number)))

pub returns-in-Ok-clause-wrote : goal.returns-in-Ok-clause-wrote
returns-in-Ok-clause-wrote c =
    let s = c.requires.setup in
    let plain : c.args.writer.now.cfg.style ≢ style.NonNumeric = rw s (λ e. cc e) in
    let digits : c.as_bytes.result.now ≡ signed_decimal c.args.number = c.as_bytes.ensures.value ∙ c.in_ok-digits.ensures.ok ∙ ap signed_decimal (to_z-of_z w64 c.args.number c.ranges.number) in
    let field : field_text default_writer c.as_bytes.result.now ≡ signed_decimal c.args.number = ap (field_text default_writer) digits ∙ plain_number c.args.number c.ranges.number in
    let some = not_zero (length (signed_decimal c.args.number)) (written_number c.args.number c.ranges.number).some in
    elim (cases_Bool (has_written c.args.writer.now)) [
      | inl wrote ↦ c.in-Ok.ensures.stays wrote
      | inr fresh ↦
          let now = rw (s, field) at (c.in-Ok.ensures.wrote fresh plain) in
          now ∙ ap not some
    ]

pub returns-in-Ok-clause-ascii : goal.returns-in-Ok-clause-ascii
returns-in-Ok-clause-ascii c before =
    ascii_joined (fields_written c.args.writer.now == 0) c.args.number (written c.args.writer.now) (written c.write_field.new.self) c.ranges.number before (returns-in-Ok-clause-text c)
