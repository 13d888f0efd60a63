-- A star with an item that is not whole is no prefix.
use Rattle.std.proofs.Common.{◌≡◌, map, rules}
use Rattle.stream_type.specs.StreamType.{type_of, star}
use Rattle.stream_prefix.specs.StreamPrefix.{IsPrefix}
use Rattle.stream_prefix.specs.Tree.{prefix_of, end_of, star_of}
use Rattle.stream_prefix.proofs.Rows.{prefix_of-star, IsPrefix-star_of}
use Rattle.stream_prefix.proofs.table.+is_prefix.Goals as goal

pub is_prefix-returns-else-all_whole : goal.is_prefix-returns-else-all_whole
is_prefix-returns-else-all_whole t c =
    let i : prefix_of c.args.p.now ≡ star_of (map prefix_of c.in-Star.items.items) (end_of c.in-Star.end) = rw c.in-Star.is (prefix_of-star c.in-Star.items c.in-Star.end) in
    let split = IsPrefix-star_of (type_of c.in-Star-t.s.value) (map prefix_of c.in-Star.items.items) (end_of c.in-Star.end) in
    rw (c.in-Star-t.is, i) (λ h. absurd {A = IsPrefix (star (type_of c.in-Star-t.s.value)) (star_of (map prefix_of c.in-Star.items.items) (end_of c.in-Star.end))} (cc (h, c.if-all_whole.false)), λ h. let whole = (split.1 h).0 in search (rules, c.all_whole.ensures.1))
