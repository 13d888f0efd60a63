-- What is left, and the nodes of the terms left, are related as the room and the nodes of all terms.
use Rattle.std.proofs.Common.{◌≡◌, ◌+◌, drop, map}
use Rattle.core_term.specs.CoreTerm.{term_of, terms_from, node_counts}
use Rattle.delta_elab.proofs.counting.+count.Given as goal

abbrev pub invariant-room_after_terms-loop-term : goal.invariant-room_after_terms-loop-term
invariant-room_after_terms-loop-term l =
    l.left + node_counts (terms_from (map term_of l.terms)) ≡ l.room + node_counts (terms_from (map term_of (drop l.term-index l.terms)))
