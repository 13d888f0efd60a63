-- With the names of the terms left, those found so far are all that the call binds. Each call goes down, or is nearer
-- to one that does.
use Rattle.std.proofs.Common.{◌≡◌, ◌+◌, ◌*◌, max, drop, map, ◌++◌}
use Rattle.bunch.specs.Names.{numbers_of}
use Rattle.hist_value.specs.HistExpr.{expr_of}
use Rattle.core_term.specs.CoreTerm.{term_of, terms_from}
use Rattle.core_term.specs.FreeNames.{bound_in_exprs, bound_in_terms}
use Rattle.core_term.specs.declared.term.Node.{size-Node}
use Rattle.kept_check.proofs.bound.+bound.Given as goal

abbrev pub invariant-add_of_call-loop-term : goal.invariant-add_of_call-loop-term
invariant-add_of_call-loop-term l =
    numbers_of l.found.items ++ bound_in_terms (terms_from (map term_of (drop l.term-index l.arguments)))
    ≡ numbers_of l.fn.found.items ++ (bound_in_exprs (map expr_of l.past) ++ bound_in_terms (terms_from (map term_of l.arguments)))

abbrev pub decreases-add_bound : goal.decreases-add_bound
decreases-add_bound l = 3 * size-Node l.n.now

abbrev pub decreases-add_behind : goal.decreases-add_behind
decreases-add_behind l = 3 * size-Node l.a.now + 1

abbrev pub decreases-add_parts : goal.decreases-add_parts
decreases-add_parts l = max (3 * size-Node l.a.now) (3 * size-Node l.b.now) + 2

abbrev pub decreases-add_of_call : goal.decreases-add_of_call
decreases-add_of_call l = 3 * goal.size-add_of_call l + 1
