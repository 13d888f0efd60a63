-- The arguments seen so far are inert, so the rest decide.
use Rattle.std.proofs.Common.{◌≡◌, map, drop}
use Rattle.bunch.specs.BunchTree.{tree_of}
use Rattle.core_term.specs.CoreTerm.{term_of, terms_from, core_of, fun_at, leaf_types}
use Rattle.core_term.specs.Inert.{are_inert}
use Rattle.delta_check.specs.Counting.{counts_in}
use Rattle.delta_check.proofs.inertness.+inert.Given as goal

abbrev pub invariant-are_still-loop-i : goal.invariant-are_still-loop-i
invariant-are_still-loop-i l =
    are_inert (fun_at (core_of l.c).funs) (counts_in (core_of l.c).funs l.funs) (terms_from (map term_of (drop l.i l.arguments))) (drop l.i (leaf_types (tree_of l.params)))
    ≡ are_inert (fun_at (core_of l.c).funs) (counts_in (core_of l.c).funs l.funs) (terms_from (map term_of l.arguments)) (leaf_types (tree_of l.params))
