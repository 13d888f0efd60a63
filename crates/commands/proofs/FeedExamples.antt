-- Worked examples: two tables of one column, what is wrong with such tables, and a program that gives one of them.
use Rattle.std.proofs.Common.{◌≡◌, pos, [], ◌∷◌, Some, None, refl, codes}
use Rattle.stream_type.specs.StreamType.{int, par, star}
use Rattle.stream_prefix.specs.StreamPrefix.{int_full, par_both, star_done, star_rest}
use Rattle.event_word.specs.declared.event.Step.TheVariants.{Left, Right}
use Rattle.event_word.specs.declared.event.Leaf.TheVariants.{End}
use Rattle.event_word.specs.StreamEvent.{leaf_of, under}
use Rattle.csv.proofs.OnLiterals.{csv_on_literals}
use Rattle.table_feed.specs.declared.fault.FeedFault.TheVariants.{BadNumber, Ragged}
use Rattle.table_feed.specs.Mixing.{beside}
use Rattle.delta_end.specs.declared.objection.TableName.TheVariants as table
use Rattle.delta_end.specs.declared.objection.Objection.TheVariants.{Table}
use Rattle.delta_end.specs.declared.end.End.TheVariants.{Objected}
use Rattle.commands.specs.Tables.{whole_tables, tables_fault, told_as, tables_word}

-- the whole of two tables, side by side
side_by_side : beside (whole_tables (par (star int) (star int)) (codes "1\n" ∷ codes "2\n" ∷ []))
    ≡ par_both (star_rest (int_full (pos 1)) star_done) (star_rest (int_full (pos 2)) star_done)
unfolding csv_on_literals
side_by_side = refl

-- nothing is wrong with these
good : tables_fault 0 (par (star int) (star int)) (codes "1\n" ∷ codes "2\n" ∷ []) ≡ None
unfolding csv_on_literals
good = refl

-- the lowest file is told, also where a later one is wrong in a lower row
lowest_file : tables_fault 0 (par (star int) (star int)) (codes "1\nx\n" ∷ codes "1,2\n" ∷ []) ≡ Some (BadNumber 0 1 0)
unfolding csv_on_literals
lowest_file = refl

second_file : tables_fault 0 (par (star int) (star int)) (codes "1\n" ∷ codes "1,2\n" ∷ []) ≡ Some (Ragged 1 0)
unfolding csv_on_literals
second_file = refl

-- a column isn't told
column_is_left_out : told_as (BadNumber 0 1 3) ≡ Objected (Table table.BadNumber 0 1)
column_is_left_out = refl

-- the events of two tables without rows in two orders
in_turn : tables_word (par (star int) (star int)) (0 ∷ []) ([] ∷ [] ∷ []) ≡ under Left (leaf_of End) ∷ under Right (leaf_of End) ∷ []
unfolding csv_on_literals
in_turn = refl

other_order : tables_word (par (star int) (star int)) (1 ∷ []) ([] ∷ [] ∷ []) ≡ under Right (leaf_of End) ∷ under Left (leaf_of End) ∷ []
unfolding csv_on_literals
other_order = refl
