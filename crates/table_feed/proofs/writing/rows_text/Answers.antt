-- What was written is text, and the rows are the table's.
use Rattle.std.proofs.Common.{List, ap, ◌∙◌, sym, subst, map}
use Rattle.std.specs.Prelude.{All}
use Rattle.std.proofs.lemmas.Str.{IsUtf8-from_ascii}
use Rattle.stream_prefix.specs.StreamPrefix.{StreamPrefix}
use Rattle.stream_prefix.specs.Tree.{prefix_of}
use Rattle.stream_prefix.proofs.Rows.{prefix_of-star}
use Rattle.hist_value.specs.Wholes.{value_of}
use Rattle.table_feed.specs.Rows.{IsWholeTable, rows_text, row_numbers, table_rows}
use Rattle.table_feed.specs.Written.{IsWholeRow}
use Rattle.table_feed.proofs.WholeRows.{whole_table}
use Rattle.table_feed.proofs.writing.rows_text.Goals as goal

pub write_rows-requires : goal.write_rows-requires
write_rows-requires c =
    let form = ap prefix_of c.in-Star.is ∙ prefix_of-star c.in-Star.rows c.in-Star.field-1 in
    let whole = whole_table (map prefix_of c.in-Star.rows.items) c.in-Star.field-1 (subst IsWholeTable form c.requires) in
    subst (All IsWholeRow) (ap (map prefix_of) (sym c.deref.ensures.value)) whole.rows

pub unreachable-requires : goal.unreachable-requires
unreachable-requires c =
    let text = IsUtf8-from_ascii c.in_ok-bytes-in-Star.bytes.items c.in_ok-bytes-in-Star.ensures.ascii in
    cc (c.in-Err.ensures.succeeds text)

pub returns : goal.returns
returns c =
    let form = ap prefix_of c.in-Star.is ∙ prefix_of-star c.in-Star.rows c.in-Star.field-1 in
    let whole = whole_table (map prefix_of c.in-Star.rows.items) c.in-Star.field-1 (subst IsWholeTable form c.requires) in
    ap (λ v. v.items) c.in-Ok.ensures.ok
    ∙ c.in_ok-bytes-in-Star.ensures.text
    ∙ ap (λ (ps : List StreamPrefix). rows_text (map (λ p. row_numbers (value_of p)) ps)) (ap (map prefix_of) c.deref.ensures.value)
    ∙ ap rows_text (sym whole.text ∙ ap (λ (p : StreamPrefix). table_rows (value_of p)) (sym form))
