-- Items put before a star stand before its own items.
use Rattle.std.proofs.Common.{map, ◌≡◌, ◌∙◌}
use Rattle.std.proofs.lemmas.List.{map-append}
use Rattle.stream_prefix.specs.Tree.{prefix_of, end_of, star_of}
use Rattle.stream_prefix.proofs.Rows.{prefix_of-star}
use Rattle.stream_prefix.proofs.Follow.{star_of-append}
use Rattle.stream_prefix.proofs.joining.put_before.Goals as goal

pub returns-in_ok-append-in-Star : goal.returns-in_ok-append-in-Star
returns-in_ok-append-in-Star c =
    let e = end_of c.in-Star.end in
    let rest : prefix_of c.args.rest ≡ star_of (map prefix_of c.in-Star.more.items) e = rw c.in-Star.is (prefix_of-star c.in-Star.more c.in-Star.end) in
    prefix_of-star c.append.new.self c.in-Star.end ∙ rw (rest, c.in_ok-append-in-Star.ensures.items, map-append prefix_of c.args.items.items c.in-Star.more.items, star_of-append)
