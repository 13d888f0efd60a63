-- Each form of a prefix, filled.
use Rattle.std.proofs.Common.{refl, sym, ap}
use Rattle.std.proofs.lemmas.Result.{IfOk-weaker}
use Rattle.stream_prefix.specs.declared.prefix.Prefix.{Prefix}
use Rattle.stream_prefix.specs.Tree.{prefix_of}
use Rattle.stream_prefix.proofs.Rows.{prefix_of-star}
use Rattle.filled_states.specs.Filled.{filled_prefix}
use Rattle.template_state.proofs.Making.{makes_same}
use Rattle.state_shapes.proofs.Rows.{exchanged-star_of}
use Rattle.state_shapes.proofs.filling_values.+fill_prefix.Goals as goal

pub fill_prefix-returns-in-Par : goal.fill_prefix-returns-in-Par
fill_prefix-returns-in-Par t c =
    makes_same prefix_of c.par_of.result _ _ (sym (ap (λ (p : Prefix). filled_prefix c.args.keys.now c.args.numbers.now (prefix_of p)) c.in-Par.is))
    (c.par_of.ensures _ _ (rw c.deref.ensures at c.fill_part.ensures) (rw c.deref-in-Par.ensures at c.fill_part-in-Par.ensures))

pub fill_prefix-returns-in-CatFst : goal.fill_prefix-returns-in-CatFst
fill_prefix-returns-in-CatFst t c =
    makes_same prefix_of c.begun_of.result _ _ (sym (ap (λ (p : Prefix). filled_prefix c.args.keys.now c.args.numbers.now (prefix_of p)) c.in-CatFst.is))
    (c.begun_of.ensures _ (rw c.deref-in-CatFst.ensures at c.fill_part-in-CatFst.ensures))

pub fill_prefix-returns-in-CatBoth : goal.fill_prefix-returns-in-CatBoth
fill_prefix-returns-in-CatBoth t c =
    makes_same prefix_of c.cat_of.result _ _ (sym (ap (λ (p : Prefix). filled_prefix c.args.keys.now c.args.numbers.now (prefix_of p)) c.in-CatBoth.is))
    (c.cat_of.ensures _ _ (rw c.deref-in-CatBoth.ensures at c.fill_part-in-CatBoth.ensures) (rw c.deref-in-CatBoth-2.ensures at c.fill_part-in-CatBoth-2.ensures))

pub fill_prefix-returns-in-Inl : goal.fill_prefix-returns-in-Inl
fill_prefix-returns-in-Inl t c =
    makes_same prefix_of c.inl_of.result _ _ (sym (ap (λ (p : Prefix). filled_prefix c.args.keys.now c.args.numbers.now (prefix_of p)) c.in-Inl.is))
    (c.inl_of.ensures _ (rw c.deref-in-Inl.ensures at c.fill_part-in-Inl.ensures))

pub fill_prefix-returns-in-Inr : goal.fill_prefix-returns-in-Inr
fill_prefix-returns-in-Inr t c =
    makes_same prefix_of c.inr_of.result _ _ (sym (ap (λ (p : Prefix). filled_prefix c.args.keys.now c.args.numbers.now (prefix_of p)) c.in-Inr.is))
    (c.inr_of.ensures _ (rw c.deref-in-Inr.ensures at c.fill_part-in-Inr.ensures))

pub fill_prefix-returns-in-Star : goal.fill_prefix-returns-in-Star
fill_prefix-returns-in-Star t c =
    rw (c.in-Star.is, prefix_of-star c.in-Star.items c.in-Star.end, exchanged-star_of) (c.star_with.ensures _ _ (rw c.deref-in-Star.ensures.value at c.fill_whole.ensures) c.fill_end.ensures)

pub fill_end-returns-in-First : goal.fill_end-returns-in-First
fill_end-returns-in-First t c = rw c.in-First.is (c.item_of.ensures _ (rw c.deref.ensures at c.fill_part.ensures))

pub fill_prefix-returns-in-EpsEmp : goal.fill_prefix-returns-in-EpsEmp
fill_prefix-returns-in-EpsEmp t c = rw c.in-EpsEmp.is refl

pub fill_prefix-returns-in-OneEmp : goal.fill_prefix-returns-in-OneEmp
fill_prefix-returns-in-OneEmp t c = rw c.in-OneEmp.is refl

pub fill_prefix-returns-in-OneFull : goal.fill_prefix-returns-in-OneFull
fill_prefix-returns-in-OneFull t c = rw c.in-OneFull.is refl

pub fill_prefix-returns-in-IntEmp : goal.fill_prefix-returns-in-IntEmp
fill_prefix-returns-in-IntEmp t c = rw c.in-IntEmp.is refl

pub fill_prefix-returns-in-SumEmp : goal.fill_prefix-returns-in-SumEmp
fill_prefix-returns-in-SumEmp t c = rw c.in-SumEmp.is refl

pub fill_end-returns-in-Emp : goal.fill_end-returns-in-Emp
fill_end-returns-in-Emp t c = rw c.in-Emp.is refl

pub fill_end-returns-in-Done : goal.fill_end-returns-in-Done
fill_end-returns-in-Done t c = rw c.in-Done.is refl

pub fill_part-returns : goal.fill_part-returns
fill_part-returns t c = IfOk-weaker c.boxed.result _ _ (λ r h. rw h at c.fill_prefix.ensures) c.boxed.ensures
