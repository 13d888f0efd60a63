-- The rows are of a row's type, and a good table is a whole prefix of its type.
use Rattle.std.proofs.Common.{◌≡◌, ap, ◌∙◌, sym, subst}
use Rattle.std.specs.Prelude.{IsTrue}
use Rattle.stream_type.specs.StreamType.{StreamType, type_of, star}
use Rattle.stream_prefix.specs.StreamPrefix.{IsPrefix, is_maximal}
use Rattle.stream_prefix.specs.Tree.{prefix_of}
use Rattle.table_feed.specs.RowType.{IsItemType}
use Rattle.table_feed.proofs.Values.{row_of_table, rows_are_whole, if_ok_both}
use Rattle.table_feed.proofs.reading.table.Goals as goal

pub read_rows-requires-clause-item : goal.read_rows-requires-clause-item
read_rows-requires-clause-item c =
    subst IsItemType (sym (ap type_of c.deref.ensures)) (row_of_table (type_of c.args.t.now) (type_of c.in-Star.item.value) c.requires (ap type_of c.in-Star.is))

pub returns-clause-prefix : goal.returns-clause-prefix
returns-clause-prefix c =
    let item = type_of c.deref.result.now in
    let kind : type_of c.args.t.now ≡ star item = ap type_of c.in-Star.is ∙ ap star (sym (ap type_of c.deref.ensures)) in
    let is_item = row_of_table (type_of c.args.t.now) item c.requires kind in
    if_ok_both c.read_rows.result _ _ _ (λ p e good. subst (λ (s : StreamType). IsPrefix s (prefix_of p)) (sym kind) (subst (IsPrefix (star item)) (sym e) (rows_are_whole item c.args.file c.args.bytes.now is_item good).is_prefix)) c.read_rows.ensures.table c.read_rows.ensures.good

pub returns-clause-whole : goal.returns-clause-whole
returns-clause-whole c =
    let item = type_of c.deref.result.now in
    let kind : type_of c.args.t.now ≡ star item = ap type_of c.in-Star.is ∙ ap star (sym (ap type_of c.deref.ensures)) in
    let is_item = row_of_table (type_of c.args.t.now) item c.requires kind in
    if_ok_both c.read_rows.result _ _ _ (λ p e good. subst (λ q. IsTrue (is_maximal q)) (sym e) (rows_are_whole item c.args.file c.args.bytes.now is_item good).maximal) c.read_rows.ensures.table c.read_rows.ensures.good
