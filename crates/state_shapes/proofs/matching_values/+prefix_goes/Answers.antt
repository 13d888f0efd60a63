-- Each form of a prefix, laid on its shape.
use Rattle.std.proofs.Common.{◌≡◌, ◌∷◌, ap, ap₂, refl, sym, rules, ◌∙◌, map}
use Rattle.stream_prefix.specs.StreamPrefix.{par_both, cat_fst, cat_both, in_left, in_right, star_first}
use Rattle.stream_prefix.specs.Tree.{prefix_of, star_of, end_of}
use Rattle.stream_prefix.proofs.Rows.{prefix_of-star}
use Rattle.state_shapes.specs.From.{prefix_from}
use Rattle.state_shapes.proofs.Rows.{exchanged-star_of}
use Rattle.state_shapes.proofs.Growing.{stops, goes_if, goes_first, goes_so, goes_then, goes_no_further, goes_further, goes_last, one_more, none_left}
use Rattle.state_shapes.proofs.matching_values.+prefix_goes.Goals as goal

pub prefix_goes-returns-in-Par-Par : goal.prefix_goes-returns-in-Par-Par
prefix_goes-returns-in-Par-Par t c =
    rw (c.in-Par-Par.is-0, c.in-Par-Par.is-1)
    (goes_then _ (goes_first (c.goes_on.ensures.0 c.if-not-goes_on.false) (rw (c.deref.ensures, c.deref-in-Par-Par.ensures) at c.prefix_goes.ensures))
    (rw (c.deref-in-Par-Par-2.ensures, c.deref-in-Par-Par-3.ensures) at c.prefix_goes-in-Par-Par.ensures) (λ x e f. ap₂ par_both e f))

pub prefix_goes-returns-in-CatFst-CatFst : goal.prefix_goes-returns-in-CatFst-CatFst
prefix_goes-returns-in-CatFst-CatFst t c =
    rw (c.in-CatFst-CatFst.is-0, c.in-CatFst-CatFst.is-1)
    (goes_so _ (goes_first (c.goes_on.ensures.0 c.if-not-goes_on.false) (rw (c.deref-in-CatFst-CatFst.ensures, c.deref-in-CatFst-CatFst-2.ensures) at c.prefix_goes-in-CatFst-CatFst.ensures))
    (λ x e. ap cat_fst e))

pub prefix_goes-returns-in-CatBoth-CatBoth : goal.prefix_goes-returns-in-CatBoth-CatBoth
prefix_goes-returns-in-CatBoth-CatBoth t c =
    rw (c.in-CatBoth-CatBoth.is-0, c.in-CatBoth-CatBoth.is-1)
    (goes_then _
    (goes_first (c.goes_on.ensures.0 c.if-not-goes_on.false) (rw (c.deref-in-CatBoth-CatBoth.ensures, c.deref-in-CatBoth-CatBoth-2.ensures) at c.prefix_goes-in-CatBoth-CatBoth.ensures))
    (rw (c.deref-in-CatBoth-CatBoth-3.ensures, c.deref-in-CatBoth-CatBoth-4.ensures) at c.prefix_goes-in-CatBoth-CatBoth-2.ensures) (λ x e f. ap₂ cat_both e f))

pub prefix_goes-returns-in-Inl-Inl : goal.prefix_goes-returns-in-Inl-Inl
prefix_goes-returns-in-Inl-Inl t c =
    rw (c.in-Inl-Inl.is-0, c.in-Inl-Inl.is-1)
    (goes_so _ (goes_first (c.goes_on.ensures.0 c.if-not-goes_on.false) (rw (c.deref-in-Inl-Inl.ensures, c.deref-in-Inl-Inl-2.ensures) at c.prefix_goes-in-Inl-Inl.ensures)) (λ x e. ap in_left e))

pub prefix_goes-returns-in-Inr-Inr : goal.prefix_goes-returns-in-Inr-Inr
prefix_goes-returns-in-Inr-Inr t c =
    rw (c.in-Inr-Inr.is-0, c.in-Inr-Inr.is-1)
    (goes_so _ (goes_first (c.goes_on.ensures.0 c.if-not-goes_on.false) (rw (c.deref-in-Inr-Inr.ensures, c.deref-in-Inr-Inr-2.ensures) at c.prefix_goes-in-Inr-Inr.ensures)) (λ x e. ap in_right e))

pub prefix_goes-returns-in-Star-Star : goal.prefix_goes-returns-in-Star-Star
prefix_goes-returns-in-Star-Star t c =
    rw (c.in-Star-Star.is-0, c.in-Star-Star.is-1, prefix_of-star c.in-Star-Star.items c.in-Star-Star.end, prefix_of-star c.in-Star-Star.others c.in-Star-Star.other)
    (goes_then _
    (goes_first (c.goes_on.ensures.0 c.if-not-goes_on.false) (rw (c.deref-in-Star-Star.ensures.value, c.deref-in-Star-Star-2.ensures.value) at c.prefixes_go.ensures)) c.end_goes.ensures
    (λ x e f. ap₂ star_of e f ∙ sym (exchanged-star_of _ (map prefix_of c.in-Star-Star.items.items) (end_of c.in-Star-Star.end))))

pub prefixes_go-loop-shape-init : goal.prefixes_go-loop-shape-init
prefixes_go-loop-shape-init t c = goes_if _ refl (λ e x k h. h)

pub prefixes_go-returns-then-not-goes_on : goal.prefixes_go-returns-then-not-goes_on
prefixes_go-returns-then-not-goes_on t c = goes_no_further c.if-not-goes_on.ensures.1 c.loop-shape.invariant c.prefix_goes-so_far.ensures

pub prefixes_go-loop-shape-preserved : goal.prefixes_go-loop-shape-preserved
prefixes_go-loop-shape-preserved t c =
    let opened : c.loop-shape.others.now ≡ c.in-Some.p.now ∷ c.in-Some.rest.now = search rules in
    goes_further _ (c.goes_on.ensures.0 c.if-not-goes_on.false) c.loop-shape.invariant c.prefix_goes-so_far.ensures
    (λ x f g k. f (one_more prefix_of (prefix_from x) c.args.shapes.now c.loop-shape.others.now c.in-Some.rest.now c.loop-shape.shape-index c.shape-item.result c.in-Some.p.now opened c.loop-shape-test.true c.shape-item.is g k))

pub end_goes-returns-in-First-First : goal.end_goes-returns-in-First-First
end_goes-returns-in-First-First t c =
    rw (c.in-First-First.is-0, c.in-First-First.is-1)
    (goes_so _ (goes_first (c.goes_on.ensures.0 c.if-not-goes_on.false) (rw (c.deref.ensures, c.deref-in-First-First.ensures) at c.prefix_goes.ensures)) (λ x e. ap star_first e))

pub prefixes_go-returns : goal.prefixes_go-returns
prefixes_go-returns t c = goes_last _ c.loop-shape.invariant (λ e x f. f (none_left prefix_of (prefix_from x) c.args.shapes.now c.loop-shape.others.now c.loop-shape.shape-index c.is_empty.ensures c.loop-shape-test.false e))

pub prefix_goes-returns-then-not-goes_on : goal.prefix_goes-returns-then-not-goes_on
prefix_goes-returns-then-not-goes_on t c = stops c.if-not-goes_on.ensures.1

pub end_goes-returns-then-not-goes_on : goal.end_goes-returns-then-not-goes_on
end_goes-returns-then-not-goes_on t c = stops c.if-not-goes_on.ensures.1
