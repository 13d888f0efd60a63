-- Nothing came of a star.
use Rattle.std.proofs.Common.{◌∙◌, map, ap, sym}
use Rattle.stream_type.specs.declared.ty.Ty.{Ty}
use Rattle.stream_type.specs.StreamType.{type_of}
use Rattle.stream_prefix.specs.StreamPrefix.{emp}
use Rattle.stream_prefix.specs.Tree.{prefix_of, end_of, star_of}
use Rattle.stream_prefix.proofs.Rows.{prefix_of-star}
use Rattle.delta_code.proofs.touched.+is_still.Goals as goal

pub returns-in-Star-p : goal.returns-in-Star-p
returns-in-Star-p t c h =
    let end = c.in-Star-p.end in
    ap prefix_of c.in-Star-p.is
    ∙ (prefix_of-star c.in-Star-p.items end
    ∙ (ap (λ (ps : _). star_of (map prefix_of ps) (end_of end)) (sym c.deref-in-Star-p.ensures.value)
    ∙ (c.none_came.ensures h ∙ sym (ap (λ (s : Ty). emp (type_of s)) c.in-Star.is))))
