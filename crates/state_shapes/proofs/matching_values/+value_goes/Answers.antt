-- Each form of a value, laid on its shape.
use Rattle.std.proofs.Common.{◌≡◌, ◌∷◌, ap, ap₂, refl, sym, rules, ◌∙◌, map}
use Rattle.hist_value.specs.HistValue.{hist_value_of, pair_of, left_of, right_of, list_of}
use Rattle.hist_value.proofs.Rows.{hist_value_of-list}
use Rattle.state_shapes.specs.From.{value_from}
use Rattle.state_shapes.proofs.Rows.{exchanged_value-list_of}
use Rattle.state_shapes.proofs.Growing.{stops, goes_if, goes_first, goes_so, goes_then, goes_no_further, goes_further, goes_last, one_more, none_left}
use Rattle.state_shapes.proofs.matching_values.+value_goes.Goals as goal

pub value_goes-returns-then-not-goes_on : goal.value_goes-returns-then-not-goes_on
value_goes-returns-then-not-goes_on t c = stops c.if-not-goes_on.ensures.1

pub value_goes-returns-in-Unit-Unit : goal.value_goes-returns-in-Unit-Unit
value_goes-returns-in-Unit-Unit t c =
    rw (c.in-Unit-Unit.is-0, c.in-Unit-Unit.is-1) (goes_if _ (c.goes_on.ensures.0 c.if-not-goes_on.false) (λ e x k. refl))

pub value_goes-returns-in-Pair-Pair : goal.value_goes-returns-in-Pair-Pair
value_goes-returns-in-Pair-Pair t c =
    rw (c.in-Pair-Pair.is-0, c.in-Pair-Pair.is-1)
    (goes_then _ (goes_first (c.goes_on.ensures.0 c.if-not-goes_on.false) (rw (c.deref.ensures, c.deref-in-Pair-Pair.ensures) at c.value_goes.ensures))
    (rw (c.deref-in-Pair-Pair-2.ensures, c.deref-in-Pair-Pair-3.ensures) at c.value_goes-in-Pair-Pair.ensures) (λ x e f. ap₂ pair_of e f))

pub value_goes-returns-in-Inl-Inl : goal.value_goes-returns-in-Inl-Inl
value_goes-returns-in-Inl-Inl t c =
    rw (c.in-Inl-Inl.is-0, c.in-Inl-Inl.is-1)
    (goes_so _ (goes_first (c.goes_on.ensures.0 c.if-not-goes_on.false) (rw (c.deref-in-Inl-Inl.ensures, c.deref-in-Inl-Inl-2.ensures) at c.value_goes-in-Inl-Inl.ensures)) (λ x e. ap left_of e))

pub value_goes-returns-in-Inr-Inr : goal.value_goes-returns-in-Inr-Inr
value_goes-returns-in-Inr-Inr t c =
    rw (c.in-Inr-Inr.is-0, c.in-Inr-Inr.is-1)
    (goes_so _ (goes_first (c.goes_on.ensures.0 c.if-not-goes_on.false) (rw (c.deref-in-Inr-Inr.ensures, c.deref-in-Inr-Inr-2.ensures) at c.value_goes-in-Inr-Inr.ensures)) (λ x e. ap right_of e))

pub value_goes-returns-in-List-List : goal.value_goes-returns-in-List-List
value_goes-returns-in-List-List t c =
    rw (c.in-List-List.is-0, c.in-List-List.is-1, hist_value_of-list c.in-List-List.items, hist_value_of-list c.in-List-List.others)
    (goes_so _ (goes_first (c.goes_on.ensures.0 c.if-not-goes_on.false) (rw (c.deref-in-List-List.ensures.value, c.deref-in-List-List-2.ensures.value) at c.values_go.ensures))
    (λ x e. ap list_of e ∙ sym (exchanged_value-list_of _ (map hist_value_of c.in-List-List.items.items))))

pub values_go-loop-shape-init : goal.values_go-loop-shape-init
values_go-loop-shape-init t c = goes_if _ refl (λ e x k h. h)

pub values_go-returns-then-not-goes_on : goal.values_go-returns-then-not-goes_on
values_go-returns-then-not-goes_on t c = goes_no_further c.if-not-goes_on.ensures.1 c.loop-shape.invariant c.value_goes-so_far.ensures

pub values_go-loop-shape-preserved : goal.values_go-loop-shape-preserved
values_go-loop-shape-preserved t c =
    let opened : c.loop-shape.others.now ≡ c.in-Some.v.now ∷ c.in-Some.rest.now = search rules in
    goes_further _ (c.goes_on.ensures.0 c.if-not-goes_on.false) c.loop-shape.invariant c.value_goes-so_far.ensures
    (λ x f g k. f (one_more hist_value_of (value_from x) c.args.shapes.now c.loop-shape.others.now c.in-Some.rest.now c.loop-shape.shape-index c.shape-item.result c.in-Some.v.now opened c.loop-shape-test.true c.shape-item.is g k))

pub values_go-returns : goal.values_go-returns
values_go-returns t c = goes_last _ c.loop-shape.invariant (λ e x f. f (none_left hist_value_of (value_from x) c.args.shapes.now c.loop-shape.others.now c.loop-shape.shape-index c.is_empty.ensures c.loop-shape-test.false e))
