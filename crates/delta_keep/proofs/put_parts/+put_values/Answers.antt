-- Values by their forms: their bytes, and the sizes of their numbers.
use Rattle.std.proofs.Common.{ap, sym, map, ◌∙◌, subst}
use Rattle.hist_value.specs.HistValue.{hist_value_of}
use Rattle.kept_state.specs.KeptBytes.{value_bytes, list_bytes}
use Rattle.kept_state.specs.KeptSizes.{FitsValue}
use Rattle.delta_keep.proofs.PutInTurn.{puts_same, puts_2, puts_3}
use Rattle.delta_keep.proofs.Trees.{list_value_bytes}
use Rattle.delta_keep.proofs.PutSizes.{some_more, some_all, value_filled, both, fits_as}
use Rattle.delta_keep.proofs.Sizes.{list_fits}
use Rattle.delta_keep.proofs.put_parts.+put_values.Goals as goal

pub put_values-loop-item-preserved : goal.put_values-loop-item-preserved
put_values-loop-item-preserved t c = some_more value_bytes hist_value_of FitsValue c.args.items.now c.loop-item.item-index c.item-item.result c.loop-item-test.true c.item-item.is c.loop-item.invariant c.put_value.ensures.puts c.put_value.ensures.sizes

pub put_value-returns-in-List-clause-puts : goal.put_value-returns-in-List-clause-puts
put_value-returns-in-List-clause-puts t c =
    puts_same (sym (ap (λ w. value_bytes (hist_value_of w)) c.in-List.is ∙ list_value_bytes c.in-List.items))
    (puts_2 c.put_byte-in-List.ensures (puts_same (ap (λ ys. list_bytes value_bytes (map hist_value_of ys)) c.deref-in-List.ensures.value) c.put_values.ensures.puts))

pub put_values-returns-clause-sizes : goal.put_values-returns-clause-sizes
put_values-returns-clause-sizes t c = some_all value_bytes hist_value_of FitsValue c.args.items.now c.loop-item.item-index value_filled c.loop-item-test.false c.loop-item.invariant

pub put_value-returns-in-List-clause-sizes : goal.put_value-returns-in-List-clause-sizes
put_value-returns-in-List-clause-sizes t c n =
    let items = rw c.deref-in-List.ensures.value at c.put_values.ensures.sizes in
    subst (λ w. FitsValue (hist_value_of w)) (sym c.in-List.is) (list_fits c.in-List.items (items n))

pub put_value-returns-in-Unit-clause-puts : goal.put_value-returns-in-Unit-clause-puts
put_value-returns-in-Unit-clause-puts t c = rw c.in-Unit.is c.put_byte.ensures

pub put_value-returns-in-Unit-clause-sizes : goal.put_value-returns-in-Unit-clause-sizes
put_value-returns-in-Unit-clause-sizes t c = fits_as (λ v. FitsValue (hist_value_of v)) c.in-Unit.is (λ n. tt)

pub put_value-returns-in-Pair-clause-puts : goal.put_value-returns-in-Pair-clause-puts
put_value-returns-in-Pair-clause-puts t c = rw c.in-Pair.is (puts_3 c.put_byte-in-Pair.ensures (rw c.deref.ensures at c.put_value.ensures.puts) (rw c.deref-in-Pair.ensures at c.put_value-in-Pair.ensures.puts))

pub put_value-returns-in-Pair-clause-sizes : goal.put_value-returns-in-Pair-clause-sizes
put_value-returns-in-Pair-clause-sizes t c = fits_as (λ v. FitsValue (hist_value_of v)) c.in-Pair.is (both (rw c.deref.ensures at c.put_value.ensures.sizes) (rw c.deref-in-Pair.ensures at c.put_value-in-Pair.ensures.puts) (rw c.deref-in-Pair.ensures at c.put_value-in-Pair.ensures.sizes))

pub put_value-returns-in-Inl-clause-puts : goal.put_value-returns-in-Inl-clause-puts
put_value-returns-in-Inl-clause-puts t c = rw c.in-Inl.is (puts_2 c.put_byte-in-Inl.ensures (rw c.deref-in-Inl.ensures at c.put_value-in-Inl.ensures.puts))

pub put_value-returns-in-Inl-clause-sizes : goal.put_value-returns-in-Inl-clause-sizes
put_value-returns-in-Inl-clause-sizes t c = fits_as (λ v. FitsValue (hist_value_of v)) c.in-Inl.is (rw c.deref-in-Inl.ensures at c.put_value-in-Inl.ensures.sizes)

pub put_value-returns-in-Inr-clause-puts : goal.put_value-returns-in-Inr-clause-puts
put_value-returns-in-Inr-clause-puts t c = rw c.in-Inr.is (puts_2 c.put_byte-in-Inr.ensures (rw c.deref-in-Inr.ensures at c.put_value-in-Inr.ensures.puts))

pub put_value-returns-in-Inr-clause-sizes : goal.put_value-returns-in-Inr-clause-sizes
put_value-returns-in-Inr-clause-sizes t c = fits_as (λ v. FitsValue (hist_value_of v)) c.in-Inr.is (rw c.deref-in-Inr.ensures at c.put_value-in-Inr.ensures.sizes)
