-- So many good records were read, and stand as rows.
use Rattle.std.proofs.Common.{◌≡◌, ◌<◌, ℕ, List, Some, None, map, length}
use Rattle.csv.specs.Reading.{Reached, Ready, default_config, source_of, strip_bom}
use Rattle.csv.specs.declared.parser.State.TheVariants as st
use Rattle.csv.specs.declared.reader.Trim.TheVariants as trim
use Rattle.stream_type.specs.StreamType.{type_of}
use Rattle.stream_prefix.specs.Tree.{prefix_of}
use Rattle.hist_value.specs.Wholes.{full}
use Rattle.table_feed.specs.RowType.{item_columns}
use Rattle.table_feed.specs.Tables.{numbers_of, row_value, records_fault}
use Rattle.table_feed.proofs.reading.read_rows.Given as goal

abbrev pub invariant-loop-record : goal.invariant-loop-record
invariant-loop-record l = record {
  trim : l.record-iterator.rdr.trim ≡ trim.None;
  ready : Ready l.record-iterator.rdr;
  turns : 0 < l.record-iterator.left;
  config : l.record-iterator.rdr.config ≡ default_config;
  unread : List ℕ;
  source : source_of (λ s. Some s.now) l.record-iterator.rdr ≡ Some unread;
  came : List (List (List ℕ));
  reached : Reached default_config st.StartRecord (strip_bom l.fn.bytes) came l.record-iterator.rdr.state unread;
  good : records_fault (item_columns (type_of l.item)) l.file 0 came ≡ None;
  len : length l.rows.items ≡ length came;
  whole : map prefix_of l.rows.items ≡ map (λ fields. full (type_of l.item) (row_value (numbers_of fields))) came;
}
