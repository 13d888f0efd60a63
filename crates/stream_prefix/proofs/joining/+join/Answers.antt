-- What follows a star fits what comes after its whole items.
use Rattle.std.proofs.Common.{rules}
use Rattle.stream_prefix.specs.declared.prefix.Prefix.{the_lemmas}
use Rattle.stream_prefix.specs.Tree.{prefix_of}
use Rattle.stream_prefix.proofs.Follow.{fits_end}
use Rattle.stream_prefix.proofs.joining.+join.Goals as goal

pub join_fitting-join_end-requires : goal.join_fitting-join_end-requires
join_fitting-join_end-requires t c =
    (search (rules, the_lemmas), fits_end c.in-Star.items c.in-Star.end (prefix_of c.args.q) (rw c.in-Star.is at c.requires))
