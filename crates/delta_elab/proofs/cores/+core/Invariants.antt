-- The cores so far stand before those of the arguments left, and so their places and their names. Each call goes
-- down, or is nearer to one that does.
use Rattle.std.proofs.Common.{◌≡◌, ◌+◌, ◌*◌, ◌++◌, max, drop, map, length}
use Rattle.std.specs.List.{concat}
use Rattle.delta_tree.specs.declared.expressions.Exp.{size-Exp}
use Rattle.delta_tree.specs.declared.expressions.Head.{size-Head}
use Rattle.delta_tree.specs.Tree.{expressions_of}
use Rattle.core_term.specs.CoreTerm.{term_of, places_of}
use Rattle.delta_meaning.specs.NewNames.{new_in_arguments}
use Rattle.delta_meaning.specs.NodePlaces.{argument_places}
use Rattle.delta_elab.specs.Numbering.{origins_of}
use Rattle.delta_elab.specs.Sources.{param_types}
use Rattle.delta_elab.specs.Subjects.{arguments_in}
use Rattle.delta_elab.proofs.Arguments.{terms_then}
use Rattle.delta_elab.proofs.cores.+core.Given as goal

abbrev pub decreases-core : goal.decreases-core
decreases-core l = 4 * size-Exp l.e.now

abbrev pub decreases-both : goal.decreases-both
decreases-both l = max (4 * size-Exp l.a.now) (4 * size-Exp l.b.now) + 1

abbrev pub decreases-core_of_typed : goal.decreases-core_of_typed
decreases-core_of_typed l = 4 * size-Exp l.a.now + 2

abbrev pub decreases-core_of_let : goal.decreases-core_of_let
decreases-core_of_let l = max (4 * size-Head l.h.now) (4 * size-Exp l.b.now) + 2

abbrev pub decreases-core_of_let_par : goal.decreases-core_of_let_par
decreases-core_of_let_par l = max (4 * size-Head l.h.now) (4 * size-Exp l.b.now) + 2

abbrev pub decreases-core_of_let_cat : goal.decreases-core_of_let_cat
decreases-core_of_let_cat l = max (4 * size-Head l.h.now) (4 * size-Exp l.b.now) + 2

abbrev pub decreases-core_of_case_sum : goal.decreases-core_of_case_sum
decreases-core_of_case_sum l = max (4 * size-Head l.h.now) (max (4 * size-Exp l.a.now) (4 * size-Exp l.b.now)) + 2

abbrev pub decreases-core_of_case_star : goal.decreases-core_of_case_star
decreases-core_of_case_star l = max (4 * size-Head l.h.now) (max (4 * size-Exp l.a.now) (4 * size-Exp l.b.now)) + 2

abbrev pub decreases-core_of_wait : goal.decreases-core_of_wait
decreases-core_of_wait l = 4 * size-Exp l.a.now + 2

abbrev pub decreases-core_of_if : goal.decreases-core_of_if
decreases-core_of_if l = max (4 * size-Exp l.a.now) (4 * size-Exp l.b.now) + 2

abbrev pub decreases-head : goal.decreases-head
decreases-head l = 4 * size-Head l.h.now

abbrev pub decreases-subject : goal.decreases-subject
decreases-subject l = 4 * size-Head l.h.now + 1

abbrev pub decreases-call : goal.decreases-call
decreases-call l = 4 * goal.size-call l + 2

abbrev pub decreases-arguments : goal.decreases-arguments
decreases-arguments l = 4 * goal.size-arguments l + 1

abbrev pub invariant-arguments-loop-i : goal.invariant-arguments-loop-i
invariant-arguments-loop-i l =
    let ts = param_types l.function in
    let left = expressions_of (drop l.i l.es) in
    (arguments_in l.setting l.scope (expressions_of l.es) ts (length (origins_of l.fn.origins.items))
    ≡ terms_then (map term_of l.cores.items) (arguments_in l.setting l.scope left (drop l.i ts) (length (origins_of l.origins.items))))
    × (argument_places (expressions_of l.es) ≡ concat (map places_of l.cores.items) ++ argument_places left)
    × (origins_of l.fn.origins.items ++ new_in_arguments (expressions_of l.es) ≡ origins_of l.origins.items ++ new_in_arguments left)
