-- The records come one after another, and each is a row.
use Rattle.std.proofs.Common.{Bor, List, ℕ, ◌≡◌, ◌∙◌, sym, refl, ap, ap₂, inl, inr, map, length, Some, ◌∷◌, ◌++◌, [], length-append, arith}
use Rattle.std.proofs.lemmas.List.{map-append}
use Rattle.std.proofs.lemmas.Result.{err_from_is_err_and}
use Rattle.csv.specs.Reading.{Reached, default_config, strip_bom}
use Rattle.csv.specs.Records.{fields_of}
use Rattle.csv.specs.declared.parser.State.TheVariants as st
use Rattle.csv.proofs.ReadFacts.{rows-end, rows-more}
use Rattle.stream_type.specs.StreamType.{type_of, star}
use Rattle.stream_prefix.specs.StreamPrefix.{StreamPrefix, star_done}
use Rattle.stream_prefix.specs.Tree.{prefix_of, star_of}
use Rattle.stream_prefix.specs.declared.prefix.StarEnd.TheVariants.{Done}
use Rattle.stream_prefix.proofs.Rows.{prefix_of-star}
use Rattle.hist_value.specs.Wholes.{full}
use Rattle.table_feed.specs.RowType.{item_columns}
use Rattle.table_feed.specs.Tables.{numbers_of, row_value, records_fault, records_of, table_value}
use Rattle.table_feed.proofs.CsvRecords.{all_records, records_begin, reached_came, last_is_few, length-strip_bom}
use Rattle.table_feed.proofs.Faults.{still_good, first_fault}
use Rattle.table_feed.proofs.Values.{rows_whole}
use Rattle.table_feed.proofs.reading.read_rows.Goals as goal

pub loop-record-init : goal.loop-record-init
unfolding Reached
loop-record-init c =
    let fr = c.from_reader.ensures in
    let f = c.flexible.ensures in
    let e = c.has_headers.ensures in
    let start = c.into_iter-record-iterator.ensures.into_iter_gives ∙ refl in
    let rdr = c.into_byte_records-records.ensures.rdr in
    rw (start, rdr, c.new-rows.ensures.items) (record {
      trim = rw (f, e) at fr.trim ∙ c.new.ensures.trim;
      ready = inr (inr (rw (f, e) at fr.has_headers, fr.headers));
      turns = c.into_byte_records-records.ensures.left;
      config = rw (f, e) at fr.config ∙ c.new.ensures.config;
      unread = strip_bom c.args.bytes.now;
      source = fr.source;
      came = [];
      reached = (sym fr.state, refl);
      good = refl;
      len = refl;
      whole = refl;
    })

pub overflow_cast-len : goal.overflow_cast-len
overflow_cast-len c =
    let inv = c.loop-record.invariant in
    let came = reached_came st.StartRecord (strip_bom c.args.bytes.now) inv.came c.loop-record.record-iterator.rdr.state inv.unread refl inv.reached in
    omega (arith, c.len.ensures, inv.len, came.len, length-strip_bom c.args.bytes.now, c.requires.bytes)

pub read_row-requires-clause-few : goal.read_row-requires-clause-few
read_row-requires-clause-few c =
    let inv = c.loop-record.invariant in
    let s = rw (c.in-Some.is, c.in-Ok.is) at ((c.next.ensures.steps inv.turns inv.trim).0 inv.ready) in
    let m = rows-more (λ (s : Bor (List ℕ)). Some s.now) c.loop-record.record-iterator.rdr c.next.new.self.rdr (fields_of c.in-Ok.record) default_config st.StartRecord (strip_bom c.args.bytes.now) inv.unread inv.came inv.config inv.source inv.reached s.0 in
    let few = last_is_few st.StartRecord (strip_bom c.args.bytes.now) inv.came (fields_of c.in-Ok.record) c.next.new.self.rdr.state m.0 refl m.2 in
    omega (arith, few, length-strip_bom c.args.bytes.now, c.requires.bytes)

pub returns-in_err-row-clause-fault : goal.returns-in_err-row-clause-fault
returns-in_err-row-clause-fault c =
    let inv = c.loop-record.invariant in
    let columns = item_columns (type_of c.args.item.now) in
    let s = rw (c.in-Some.is, c.in-Ok.is) at ((c.next.ensures.steps inv.turns inv.trim).0 inv.ready) in
    let m = rows-more (λ (s : Bor (List ℕ)). Some s.now) c.loop-record.record-iterator.rdr c.next.new.self.rdr (fields_of c.in-Ok.record) default_config st.StartRecord (strip_bom c.args.bytes.now) inv.unread inv.came inv.config inv.source inv.reached s.0 in
    let begins = records_begin (strip_bom c.args.bytes.now) (inv.came ++ fields_of c.in-Ok.record ∷ []) c.next.new.self.rdr.state m.0 m.2 in
    let count : c.len.result ≡ length inv.came = omega (arith, c.len.ensures, inv.len) in
    let exit = err_from_is_err_and c.from_residual.result c.from_residual.ensures.1 in
    rw (exit.1, exit.2) (elim c.in_err-row.ensures.fault [
      | inl memory ↦ inl memory
      | inr fault ↦ inr (first_fault columns c.args.file c.len.result inv.came (fields_of c.in-Ok.record) begins.0 (records_of c.args.bytes.now) c.in_err-row.field-0.0 count inv.good fault begins.1)
    ])

pub loop-record-preserved : goal.loop-record-preserved
loop-record-preserved c =
    let inv = c.loop-record.invariant in
    let columns = item_columns (type_of c.args.item.now) in
    let f = fields_of c.in-Ok.record in
    let s = rw (c.in-Some.is, c.in-Ok.is) at ((c.next.ensures.steps inv.turns inv.trim).0 inv.ready) in
    let m = rows-more (λ (s : Bor (List ℕ)). Some s.now) c.loop-record.record-iterator.rdr c.next.new.self.rdr f default_config st.StartRecord (strip_bom c.args.bytes.now) inv.unread inv.came inv.config inv.source inv.reached s.0 in
    let count : c.len.result ≡ length inv.came = omega (arith, c.len.ensures, inv.len) in
    let longer : length c.push.new.rows.items ≡ length (inv.came ++ f ∷ []) = omega (arith, ap length c.in_ok-push.ensures, length-append c.loop-record.rows.items (c.in_ok-row.row ∷ []), length-append inv.came (f ∷ []), inv.len) in
    let row = λ (fields : List (List ℕ)). full (type_of c.args.item.now) (row_value (numbers_of fields)) in
    record {
      trim = s.0.3 ∙ inv.trim;
      ready = inl s.1;
      turns = s.2;
      config = s.0.2 ∙ inv.config;
      unread = m.0;
      source = m.1;
      came = inv.came ++ f ∷ [];
      reached = m.2;
      good = still_good columns c.args.file c.len.result inv.came f count inv.good c.in_ok-row.ensures.good;
      len = longer;
      whole = ap (map prefix_of) c.in_ok-push.ensures ∙ map-append prefix_of c.loop-record.rows.items (c.in_ok-row.row ∷ []) ∙ ap₂ (λ (ps : List StreamPrefix) (p : StreamPrefix). ps ++ p ∷ []) inv.whole c.in_ok-row.ensures.row ∙ sym (map-append row inv.came (f ∷ []));
    }

pub returns-clause-table : goal.returns-clause-table
returns-clause-table c =
    let inv = c.loop-record.invariant in
    let s = rw c.in-None.is at ((c.next.ensures.steps inv.turns inv.trim).0 inv.ready) in
    let none = rows-end (λ (s : Bor (List ℕ)). Some s.now) c.loop-record.record-iterator.rdr c.next.new.self.rdr [] default_config inv.unread inv.config inv.source s in
    let all = all_records (strip_bom c.args.bytes.now) inv.came c.loop-record.record-iterator.rdr.state inv.unread inv.reached none in
    prefix_of-star c.loop-record.rows Done
    ∙ ap (λ (ps : List StreamPrefix). star_of ps star_done) inv.whole
    ∙ sym (rows_whole (type_of c.args.item.now) inv.came)
    ∙ ap (λ (rows : List (List (List ℕ))). full (star (type_of c.args.item.now)) (table_value (map numbers_of rows))) (sym all)

pub returns-clause-good : goal.returns-clause-good
returns-clause-good c =
    let inv = c.loop-record.invariant in
    let s = rw c.in-None.is at ((c.next.ensures.steps inv.turns inv.trim).0 inv.ready) in
    let none = rows-end (λ (s : Bor (List ℕ)). Some s.now) c.loop-record.record-iterator.rdr c.next.new.self.rdr [] default_config inv.unread inv.config inv.source s in
    let all = all_records (strip_bom c.args.bytes.now) inv.came c.loop-record.record-iterator.rdr.state inv.unread inv.reached none in
    ap (records_fault (item_columns (type_of c.args.item.now)) c.args.file 0) all ∙ inv.good
