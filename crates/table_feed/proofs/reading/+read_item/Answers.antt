-- A number, and then the others of its row.
use Rattle.std.proofs.Common.{◌≡◌, ◌+◌, ℤ, drop, length, ap, ap₂, ◌∙◌, sym, subst, arith, rules}
use Rattle.std.specs.Int.{w64}
use Rattle.std.proofs.lemmas.Int.{to_z-of_z}
use Rattle.csv.specs.Records.{fields_of}
use Rattle.stream_type.specs.StreamType.{StreamType, type_of, int, cat}
use Rattle.stream_prefix.specs.StreamPrefix.{StreamPrefix, cat_both, int_full}
use Rattle.hist_value.specs.Wholes.{full}
use Rattle.table_feed.specs.RowType.{IsItemType, item_columns}
use Rattle.table_feed.specs.Tables.{numbers_of, row_value}
use Rattle.table_feed.proofs.Values.{column_within, first_is_int, number_before}
use Rattle.table_feed.proofs.reading.+read_item.Goals as goal

pub read_number-requires : goal.read_number-requires
read_number-requires t c = column_within (type_of c.args.item.now) (fields_of c.args.fields.now) c.args.place.column c.requires.columns

pub returns-in_ok-before-in-Cat-clause-row : goal.returns-in_ok-before-in-Cat-clause-row
returns-in_ok-before-in-Cat-clause-row t c =
    let rest = type_of c.in-Cat.rest.value in
    let fields = drop c.args.place.column (fields_of c.args.fields.now) in
    let behind = drop (c.args.place.column + 1) (fields_of c.args.fields.now) in
    let is_item = subst IsItemType (ap type_of c.in-Cat.is) c.requires.item in
    let kind : type_of c.args.item.now ≡ cat int rest = ap type_of c.in-Cat.is ∙ ap (λ (s : StreamType). cat s rest) (first_is_int (type_of c.in-Cat.field-0.value) rest is_item) in
    let first = c.in_ok-number.ensures.number in
    let columns : length fields ≡ 1 + item_columns rest = c.requires.columns ∙ ap item_columns kind in
    let len : length behind ≡ item_columns rest = omega (arith, columns, ap length first.split) in
    c.in_ok-before-in-Cat.ensures
    ∙ ap₂ (λ (n : ℤ) (p : StreamPrefix). cat_both (int_full n) p) (to_z-of_z w64 c.in_ok-number.number (search rules)) (c.in_ok-rest-in-Cat.ensures.row ∙ ap (λ (s : StreamType). full s (row_value (numbers_of behind))) (ap type_of c.deref.ensures))
    ∙ sym (number_before rest fields behind c.in_ok-number.number first len)
    ∙ ap (λ (s : StreamType). full s (row_value (numbers_of fields))) (sym kind)
