-- The numbers, and then the end of the line.
use Rattle.std.proofs.Common.{ℕ, List, [], ◌∷◌, ◌++◌, ap, ◌∙◌, sym, subst, append_assoc, arith}
use Rattle.std.specs.Prelude.{◌==◌, IsAscii}
use Rattle.std.proofs.lemmas.Str.Ascii.{IsAscii-push}
use Rattle.stream_prefix.specs.Tree.{prefix_of}
use Rattle.hist_value.specs.Wholes.{value_of}
use Rattle.csv.specs.Writing.{fields_written}
use Rattle.table_feed.specs.Rows.{row_numbers}
use Rattle.table_feed.specs.Written.{written, with_commas}
use Rattle.table_feed.proofs.WholeRows.{on_ok_then, line-joined}
use Rattle.table_feed.proofs.writing.write_row.Goals as goal

pub returns-clause-text : goal.returns-clause-text
returns-clause-text c =
    let numbers = row_numbers (value_of (prefix_of c.args.row.now)) in
    let first = ap (λ (k : ℕ). with_commas (k == 0) numbers) c.requires.fields in
    let whole = ap (λ (t : List ℕ). t ++ 10 ∷ []) c.in_ok-write_numbers.ensures.text
    ∙ append_assoc (written c.args.writer.now) (with_commas (fields_written c.args.writer.now == 0) numbers) (10 ∷ [])
    ∙ ap (λ (t : List ℕ). written c.args.writer.now ++ t) (ap (λ (t : List ℕ). t ++ 10 ∷ []) first ∙ line-joined numbers) in
    on_ok_then c.end_row.result _ _ (λ e. e ∙ whole) c.end_row.ensures.text

pub returns-clause-ascii : goal.returns-clause-ascii
returns-clause-ascii c =
    on_ok_then c.end_row.result _ _ (λ e before. subst IsAscii (sym e) (IsAscii-push (written c.write_numbers.new.writer) 10 (c.in_ok-write_numbers.ensures.ascii before) (omega arith))) c.end_row.ensures.text
