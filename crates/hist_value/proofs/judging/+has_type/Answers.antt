-- Whether a value has a type, by its form and its parts.
use Rattle.hist_value.specs.HistType.{hist_type_of}
use Rattle.hist_value.proofs.TypedForms.{unit_fits, unit_off, int_fits, int_off, pair_fits, pair_fails, pair_off, left_fits, left_off, right_fits, right_off, list_fits, list_off, items_fail, items_turn, items_end}
use Rattle.hist_value.proofs.judging.+has_type.Goals as goal

pub has_type-returns-in-Unit-matches : goal.has_type-returns-in-Unit-matches
has_type-returns-in-Unit-matches t c = unit_fits _ _ c.in-Unit.is c.in-Unit-matches.is

pub has_type-returns-in_default : goal.has_type-returns-in_default
has_type-returns-in_default t c = unit_off _ _ c.in-Unit.is c.in_default.not-Unit

pub has_type-returns-in-Int-matches : goal.has_type-returns-in-Int-matches
has_type-returns-in-Int-matches t c = int_fits _ _ _ c.in-Int.is c.in-Int-matches.is

pub has_type-returns-in_default-matches : goal.has_type-returns-in_default-matches
has_type-returns-in_default-matches t c = int_off _ _ _ c.in-Int.is c.in_default-matches.not-Int

pub has_type-returns-then-has_type : goal.has_type-returns-then-has_type
has_type-returns-then-has_type t c =
    pair_fits c.has_type.result c.has_type-then-has_type.result _ _ _ _ _ _ c.deref.result.now c.deref-in-Pair-t.result.now c.deref-then-has_type.result.now c.deref-then-has_type-2.result.now c.in-Pair.is c.in-Pair-t.is
    c.deref.ensures c.deref-in-Pair-t.ensures c.deref-then-has_type.ensures c.deref-then-has_type-2.ensures c.has_type.ensures c.if-has_type.true c.has_type-then-has_type.ensures

pub has_type-returns-else-has_type : goal.has_type-returns-else-has_type
has_type-returns-else-has_type t c =
    pair_fails c.has_type.result _ _ _ _ _ _ c.deref.result.now c.deref-in-Pair-t.result.now c.in-Pair.is c.in-Pair-t.is c.deref.ensures c.deref-in-Pair-t.ensures c.has_type.ensures c.if-has_type.false

pub has_type-returns-in_default-t : goal.has_type-returns-in_default-t
has_type-returns-in_default-t t c = pair_off _ _ _ _ c.in-Pair.is c.in_default-t.not-Pair

pub has_type-returns-in-Sum : goal.has_type-returns-in-Sum
has_type-returns-in-Sum t c = left_fits c.has_type-in-Sum.result _ _ _ _ _ c.deref-in-Sum.result.now c.deref-in-Sum-2.result.now c.in-Inl.is c.in-Sum.is c.deref-in-Sum.ensures c.deref-in-Sum-2.ensures c.has_type-in-Sum.ensures

pub has_type-returns-in_default-t-2 : goal.has_type-returns-in_default-t-2
has_type-returns-in_default-t-2 t c = left_off _ _ _ c.in-Inl.is c.in_default-t-2.not-Sum

pub has_type-returns-in-Sum-t : goal.has_type-returns-in-Sum-t
has_type-returns-in-Sum-t t c = right_fits c.has_type-in-Sum-t.result _ _ _ _ _ c.deref-in-Sum-t.result.now c.deref-in-Sum-t-2.result.now c.in-Inr.is c.in-Sum-t.is c.deref-in-Sum-t.ensures c.deref-in-Sum-t-2.ensures c.has_type-in-Sum-t.ensures

pub has_type-returns-in_default-t-3 : goal.has_type-returns-in_default-t-3
has_type-returns-in_default-t-3 t c = right_off _ _ _ c.in-Inr.is c.in_default-t-3.not-Sum

pub has_type-returns-in-List-t : goal.has_type-returns-in-List-t
has_type-returns-in-List-t t c = list_fits c.all_have.result _ _ _ _ c.deref-in-List-t.result.now c.deref-in-List-t-2.result.now c.in-List.is c.in-List-t.is c.deref-in-List-t.ensures.value c.deref-in-List-t-2.ensures c.all_have.ensures

pub has_type-returns-in_default-t-4 : goal.has_type-returns-in_default-t-4
has_type-returns-in_default-t-4 t c = list_off _ _ _ c.in-List.is c.in_default-t-4.not-List

pub all_have-loop-item-init : goal.all_have-loop-item-init
all_have-loop-item-init t c = (λ h. h, λ h. h)

pub all_have-returns-then-not-has_type : goal.all_have-returns-then-not-has_type
all_have-returns-then-not-has_type t c = items_fail (hist_type_of c.args.s.now) c.args.items.now c.loop-item.item-index c.item-item.result c.loop-item-test.true c.item-item.is c.loop-item.invariant c.if-not-has_type.ensures

pub all_have-loop-item-preserved : goal.all_have-loop-item-preserved
all_have-loop-item-preserved t c = items_turn (hist_type_of c.args.s.now) c.args.items.now c.loop-item.item-index c.item-item.result c.loop-item-test.true c.item-item.is c.loop-item.invariant c.if-not-has_type.ensures

pub all_have-returns : goal.all_have-returns
all_have-returns t c = items_end (hist_type_of c.args.s.now) c.args.items.now c.loop-item.item-index c.loop-item-test.false c.loop-item.invariant
