-- The items, and after them those of the star.
use Rattle.std.proofs.Common.{◌∙◌, map, ap, sym}
use Rattle.stream_prefix.specs.Tree.{prefix_of, end_of, star_of}
use Rattle.stream_prefix.proofs.Rows.{prefix_of-star}
use Rattle.delta_code.proofs.Gains.{star_more}
use Rattle.delta_code.proofs.way.behind_items.Goals as goal

pub returns-in_ok-new-in-Star : goal.returns-in_ok-new-in-Star
returns-in_ok-new-in-Star c =
    let more = c.in-Star.more in
    let end = c.in-Star.end in
    let items = c.args.items.items in
    ap prefix_of c.in_ok-new-in-Star.ensures.ok
    ∙ (prefix_of-star c.append.new.self end
    ∙ (star_more items more.items c.append.new.self.items (end_of end) c.in_ok-append-in-Star.ensures.items
    ∙ ap (star_of (map prefix_of items)) (sym (prefix_of-star more end) ∙ ap prefix_of (sym c.in-Star.is ∙ c.into_inner.ensures))))
