-- Nothing in the functions so far, so the rest decide.
use Rattle.std.proofs.Common.{◌≡◌, drop}
use Rattle.core_term.specs.CoreTerm.{core_of}
use Rattle.core_term.specs.Inert.{is_inert_fun}
use Rattle.delta_bound.specs.Unsized.{unsized_from}
use Rattle.delta_bound.proofs.programs.of_funs.Given as goal

abbrev pub invariant-loop-f : goal.invariant-loop-f
invariant-loop-f l =
    unsized_from (core_of l.c).funs (is_inert_fun (core_of l.c).funs) l.reached l.f (drop l.f l.c.funs.items)
    ≡ unsized_from (core_of l.c).funs (is_inert_fun (core_of l.c).funs) l.reached 0 l.c.funs.items
