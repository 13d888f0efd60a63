-- The value of a star is made of its items' values.
use Rattle.std.proofs.Common.{◌≡◌, map, sym, ap, ◌∙◌}
use Rattle.stream_prefix.specs.Tree.{prefix_of, star_of, end_of}
use Rattle.stream_prefix.proofs.Rows.{prefix_of-star}
use Rattle.hist_value.specs.HistValue.{hist_value_of, list_of}
use Rattle.hist_value.specs.Wholes.{value_of}
use Rattle.hist_value.proofs.Rows.{hist_value_of-list}
use Rattle.hist_value.proofs.Lists.{value_of-star_of}
use Rattle.hist_value.proofs.wholes.+value_of.Goals as goal

pub value_of-returns-in_ok-values_of-in-Star : goal.value_of-returns-in_ok-values_of-in-Star
value_of-returns-in_ok-values_of-in-Star t c =
    let k : prefix_of c.args.p.now ≡ star_of (map prefix_of c.in-Star.items.items) (end_of c.in-Star.field-1) = rw c.in-Star.is (prefix_of-star c.in-Star.items c.in-Star.field-1) in
    let e : map hist_value_of c.in_ok-values_of-in-Star.field-0.items ≡ map value_of (map prefix_of c.in-Star.items.items) = cc (c.in_ok-values_of-in-Star.ensures, c.deref-in-Star.ensures.value) in
    hist_value_of-list c.in_ok-values_of-in-Star.field-0 ∙ (ap list_of e ∙ (sym (value_of-star_of (map prefix_of c.in-Star.items.items) c.in-Star.field-1) ∙ sym (ap value_of k)))
