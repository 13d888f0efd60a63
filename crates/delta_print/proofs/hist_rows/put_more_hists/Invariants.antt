-- What was appended so far, and then the expressions that are left.
use Rattle.std.proofs.Common.{◌≡◌, ◌++◌, drop, map}
use Rattle.delta_tree.specs.Tree.{hist_of}
use Rattle.delta_print.specs.Rows.{more_hists_row}
use Rattle.delta_print.proofs.hist_rows.put_more_hists.Given as goal

abbrev pub invariant-loop-hist : goal.invariant-loop-hist
invariant-loop-hist l =
    l.row.items ++ more_hists_row (map hist_of (drop l.hist-index l.hists)) ≡ l.fn.row.items ++ more_hists_row (map hist_of l.hists)
