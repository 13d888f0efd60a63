-- Of a star nothing has come where it hasn't begun.
use Rattle.std.proofs.Common.{◌≡◌, ◌∙◌, not, map, ap, sym}
use Rattle.stream_prefix.specs.Tree.{prefix_of, end_of, star_of}
use Rattle.stream_prefix.proofs.Rows.{prefix_of-star}
use Rattle.delta_state.specs.StateTyping.{is_empty}
use Rattle.kept_check.proofs.HeldFacts.{not_begun}
use Rattle.kept_check.proofs.holding.+is_nothing.Goals as goal

pub returns-in-Star : goal.returns-in-Star
returns-in-Star t c =
    let whole : prefix_of c.args.p.now ≡ star_of (map prefix_of c.in-Star.items.items) (end_of c.in-Star.end) = rw c.in-Star.is (prefix_of-star c.in-Star.items c.in-Star.end) in
    ap not (rw c.deref-in-Star.ensures.value at c.has_begun.ensures) ∙ (not_begun (map prefix_of c.in-Star.items.items) c.in-Star.end ∙ ap is_empty (sym whole))
