-- Each form of a value, filled.
use Rattle.std.proofs.Common.{refl, sym, ap}
use Rattle.std.proofs.lemmas.Result.{IfOk-weaker}
use Rattle.hist_value.specs.declared.history.Value.{Value}
use Rattle.hist_value.specs.HistValue.{hist_value_of}
use Rattle.hist_value.proofs.Rows.{hist_value_of-list}
use Rattle.filled_states.specs.Filled.{filled_value}
use Rattle.template_state.proofs.Making.{makes_same}
use Rattle.state_shapes.proofs.Rows.{exchanged_value-list_of}
use Rattle.state_shapes.proofs.filling_values.+fill_value.Goals as goal

pub fill_value-returns-in-Pair : goal.fill_value-returns-in-Pair
fill_value-returns-in-Pair t c =
    makes_same hist_value_of c.two_of.result _ _ (sym (ap (λ (v : Value). filled_value c.args.keys.now c.args.numbers.now (hist_value_of v)) c.in-Pair.is))
    (c.two_of.ensures _ _ (rw c.deref.ensures at c.fill_boxed.ensures) (rw c.deref-in-Pair.ensures at c.fill_boxed-in-Pair.ensures))

pub fill_value-returns-in-Inl : goal.fill_value-returns-in-Inl
fill_value-returns-in-Inl t c =
    makes_same hist_value_of c.first_of.result _ _ (sym (ap (λ (v : Value). filled_value c.args.keys.now c.args.numbers.now (hist_value_of v)) c.in-Inl.is))
    (c.first_of.ensures _ (rw c.deref-in-Inl.ensures at c.fill_boxed-in-Inl.ensures))

pub fill_value-returns-in-Inr : goal.fill_value-returns-in-Inr
fill_value-returns-in-Inr t c =
    makes_same hist_value_of c.second_of.result _ _ (sym (ap (λ (v : Value). filled_value c.args.keys.now c.args.numbers.now (hist_value_of v)) c.in-Inr.is))
    (c.second_of.ensures _ (rw c.deref-in-Inr.ensures at c.fill_boxed-in-Inr.ensures))

pub fill_value-returns-in-List : goal.fill_value-returns-in-List
fill_value-returns-in-List t c =
    rw (c.in-List.is, hist_value_of-list c.in-List.items, exchanged_value-list_of) (c.items_of.ensures _ (rw c.deref-in-List.ensures.value at c.fill_items.ensures))

pub fill_value-returns-in-Unit : goal.fill_value-returns-in-Unit
fill_value-returns-in-Unit t c = rw c.in-Unit.is refl

pub fill_boxed-returns : goal.fill_boxed-returns
fill_boxed-returns t c = IfOk-weaker c.boxed.result _ _ (λ r h. rw h at c.fill_value.ensures) c.boxed.ensures
