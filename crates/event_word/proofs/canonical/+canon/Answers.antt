use Rattle.std.proofs.Common.{rules, ◌∙◌}
use Rattle.stream_prefix.specs.declared.prefix.Prefix.{the_lemmas}
use Rattle.stream_prefix.specs.Tree.{prefix_of}
use Rattle.event_word.proofs.Canons.{items_within, end_within, liftable}
use Rattle.event_word.proofs.canonical.+canon.Goals as goal

pub spelled-spelled_items-requires : goal.spelled-spelled_items-requires
spelled-spelled_items-requires t c =
    (search (rules, the_lemmas), rw c.deref-in-Star.ensures.value (items_within c.in-Star.items c.in-Star.end (rw c.in-Star.is at c.requires)))

pub spelled-spelled_end-requires : goal.spelled-spelled_end-requires
spelled-spelled_end-requires t c =
    (search (rules, the_lemmas), end_within c.in-Star.items c.in-Star.end (rw c.in-Star.is at c.requires))

pub spelled_under-lift-requires : goal.spelled_under-lift-requires
spelled_under-lift-requires t c =
    liftable (prefix_of c.args.p.now) c.deref_mut.result.now c.requires (c.deref_mut.ensures.value ∙ c.in_ok-word.ensures)
