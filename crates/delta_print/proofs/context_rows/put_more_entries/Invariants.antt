-- What was appended so far, and then the entries that are left.
use Rattle.std.proofs.Common.{◌≡◌, ◌++◌, drop, map}
use Rattle.delta_tree.specs.Tree.{past_of}
use Rattle.delta_print.specs.Rows.{more_entries_row}
use Rattle.delta_print.proofs.context_rows.put_more_entries.Given as goal

abbrev pub invariant-loop-entry : goal.invariant-loop-entry
invariant-loop-entry l =
    l.row.items ++ more_entries_row (map past_of (drop l.entry-index l.entries)) ≡ l.fn.row.items ++ more_entries_row (map past_of l.entries)
