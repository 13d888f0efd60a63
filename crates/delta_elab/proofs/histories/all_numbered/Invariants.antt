-- The expressions so far stand before those of the arguments left, and their names before those of these.
use Rattle.std.proofs.Common.{◌≡◌, ◌++◌, drop, map, length}
use Rattle.hist_value.specs.HistExpr.{expr_of}
use Rattle.delta_tree.specs.Tree.{hist_of}
use Rattle.delta_meaning.specs.NewNames.{new_in_exprs}
use Rattle.delta_meaning.specs.Elaboration.{numbered_exprs}
use Rattle.delta_elab.specs.Numbering.{origins_of, numbers_in}
use Rattle.delta_elab.proofs.histories.all_numbered.Given as goal

abbrev pub invariant-loop-m : goal.invariant-loop-m
invariant-loop-m l =
    let left = map hist_of (drop l.m-index l.past) in
    (numbered_exprs (map hist_of l.past) (numbers_in l.scope) (length (origins_of l.fn.origins.items))
    ≡ map expr_of l.exprs.items ++ numbered_exprs left (numbers_in l.scope) (length (origins_of l.origins.items)))
    × (origins_of l.fn.origins.items ++ new_in_exprs (map hist_of l.past) ≡ origins_of l.origins.items ++ new_in_exprs left)
