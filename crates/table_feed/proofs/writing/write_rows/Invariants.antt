-- So many lines were written, and no more.
use Rattle.std.proofs.Common.{◌≡◌, map, take, false}
use Rattle.std.specs.Str.{IsAscii}
use Rattle.csv.specs.Writing.{default_writer, fields_written, has_written, writer_setup}
use Rattle.stream_prefix.specs.Tree.{prefix_of}
use Rattle.hist_value.specs.Wholes.{value_of}
use Rattle.table_feed.specs.Rows.{row_numbers, rows_text}
use Rattle.table_feed.specs.Written.{written}
use Rattle.table_feed.proofs.writing.write_rows.Given as goal

abbrev pub invariant-loop-row : goal.invariant-loop-row
invariant-loop-row l = record {
  text : written l.writer ≡ rows_text (map (λ p. row_numbers (value_of p)) (map prefix_of (take l.row-index l.rows)));
  setup : writer_setup l.writer ≡ default_writer;
  fields : fields_written l.writer ≡ 0;
  wrote : has_written l.writer ≡ false;
  ascii : IsAscii (written l.writer);
}
