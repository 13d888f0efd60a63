-- Each form, filled.
use Rattle.std.proofs.Common.{sym, ap}
use Rattle.delta_state.specs.StateTree.{StateTree}
use Rattle.template_state.specs.declared.live.Live.{Live}
use Rattle.template_state.specs.Readers.{state_in}
use Rattle.state_shapes.specs.RegisterLists.{RegisterLists, lists_of}
use Rattle.state_shapes.specs.From.{state_from}
use Rattle.state_shapes.specs.Makes.{boxed_state}
use Rattle.template_state.proofs.Making.{makes_same}
use Rattle.state_shapes.proofs.filling.+fill.Goals as goal

-- what is made of a state
abbrev filled_of : RegisterLists → Live → StateTree
filled_of l s = state_from l (state_in s)

pub fill_state-returns-in-Sink : goal.fill_state-returns-in-Sink
fill_state-returns-in-Sink t c = makes_same boxed_state c.finished.result _ _ (sym (ap (filled_of (lists_of c.args.r.now)) c.in-Sink.is)) c.finished.ensures

pub fill_state-returns-in-Var : goal.fill_state-returns-in-Var
fill_state-returns-in-Var t c = makes_same boxed_state c.made.result _ _ (sym (ap (filled_of (lists_of c.args.r.now)) c.in-Var.is)) c.made.ensures

pub fill_state-returns-in-Par : goal.fill_state-returns-in-Par
fill_state-returns-in-Par t c = makes_same boxed_state c.par_of.result _ _ (sym (ap (filled_of (lists_of c.args.r.now)) c.in-Par.is)) (c.par_of.ensures _ _ (rw c.deref.ensures at c.fill_state.ensures) (rw c.deref-in-Par.ensures at c.fill_state-in-Par.ensures))

pub fill_state-returns-in-Cat : goal.fill_state-returns-in-Cat
fill_state-returns-in-Cat t c = makes_same boxed_state c.row.result _ _ (sym (ap (filled_of (lists_of c.args.r.now)) c.in-Cat.is)) (c.row.ensures _ (rw c.deref-in-Cat.ensures at c.fill_state-in-Cat.ensures))

pub fill_state-returns-in-Let : goal.fill_state-returns-in-Let
fill_state-returns-in-Let t c = makes_same boxed_state c.bound.result _ _ (sym (ap (filled_of (lists_of c.args.r.now)) c.in-Let.is)) (c.bound.ensures _ _ (rw c.deref-in-Let.ensures at c.fill_state-in-Let.ensures) (rw c.deref-in-Let-2.ensures at c.fill_state-in-Let-2.ensures))

pub fill_state-returns-in-LetPar : goal.fill_state-returns-in-LetPar
fill_state-returns-in-LetPar t c = makes_same boxed_state c.let_par_of.result _ _ (sym (ap (filled_of (lists_of c.args.r.now)) c.in-LetPar.is)) (c.let_par_of.ensures _ (rw c.deref-in-LetPar.ensures at c.fill_state-in-LetPar.ensures))

pub fill_state-returns-in-LetCat : goal.fill_state-returns-in-LetCat
fill_state-returns-in-LetCat t c = makes_same boxed_state c.let_cat_of.result _ _ (sym (ap (filled_of (lists_of c.args.r.now)) c.in-LetCat.is)) (c.let_cat_of.ensures _ (rw c.deref-in-LetCat.ensures at c.fill_state-in-LetCat.ensures))

pub fill_state-returns-in-CaseSum : goal.fill_state-returns-in-CaseSum
fill_state-returns-in-CaseSum t c = makes_same boxed_state c.on_sum.result _ _ (sym (ap (filled_of (lists_of c.args.r.now)) c.in-CaseSum.is)) (rw c.deref-in-CaseSum.ensures.value at c.on_sum.ensures)

pub fill_state-returns-in-CaseStar : goal.fill_state-returns-in-CaseStar
fill_state-returns-in-CaseStar t c = makes_same boxed_state c.on_star.result _ _ (sym (ap (filled_of (lists_of c.args.r.now)) c.in-CaseStar.is)) (rw c.deref-in-CaseStar.ensures.value at c.on_star.ensures)

pub fill_state-returns-in-Wait : goal.fill_state-returns-in-Wait
fill_state-returns-in-Wait t c = makes_same boxed_state c.waiting.result _ _ (sym (ap (filled_of (lists_of c.args.r.now)) c.in-Wait.is)) (rw c.deref-in-Wait.ensures.value at c.waiting.ensures)

pub fill_state-returns-in-Frame : goal.fill_state-returns-in-Frame
fill_state-returns-in-Frame t c = makes_same boxed_state c.framed.result _ _ (sym (ap (filled_of (lists_of c.args.r.now)) c.in-Frame.is)) (c.framed.ensures _ _ (rw c.deref-in-Frame.ensures at c.fill_arguments.ensures) (rw c.deref-in-Frame-2.ensures at c.fill_state-in-Frame.ensures))

pub fill_arguments-returns-in-Before : goal.fill_arguments-returns-in-Before
fill_arguments-returns-in-Before t c = rw c.in-Before.is (c.one_more.ensures _ _ (rw c.deref.ensures at c.fill_state-state.ensures) (rw c.deref-in-Before.ensures at c.fill_arguments.ensures))
