-- Each form, without its marks.
use Rattle.std.proofs.Common.{sym, ap}
use Rattle.delta_state.specs.PlainState.{PlainState, without_marks}
use Rattle.template_state.specs.declared.live.Live.{Live}
use Rattle.template_state.specs.Readers.{state_in}
use Rattle.template_state.specs.Makes.{boxed_state}
use Rattle.template_state.proofs.Making.{makes_same}
use Rattle.template_state.proofs.without_marks.+plain.Goals as goal

-- what is made of a state
abbrev plain_of : Live → PlainState
plain_of s = without_marks (state_in s)

pub plain-returns-in-Sink : goal.plain-returns-in-Sink
plain-returns-in-Sink t c = makes_same boxed_state c.finished.result _ _ (sym (ap plain_of c.in-Sink.is)) c.finished.ensures

pub plain-returns-in-Var : goal.plain-returns-in-Var
plain-returns-in-Var t c = makes_same boxed_state c.made.result _ _ (sym (ap plain_of c.in-Var.is)) c.made.ensures

pub plain-returns-in-Par : goal.plain-returns-in-Par
plain-returns-in-Par t c = makes_same boxed_state c.par_of.result _ _ (sym (ap plain_of c.in-Par.is)) (c.par_of.ensures _ _ (rw c.deref.ensures at c.plain.ensures) (rw c.deref-in-Par.ensures at c.plain-in-Par.ensures))

pub plain-returns-in-Cat : goal.plain-returns-in-Cat
plain-returns-in-Cat t c = makes_same boxed_state c.row.result _ _ (sym (ap plain_of c.in-Cat.is)) (c.row.ensures _ (rw c.deref-in-Cat.ensures at c.plain-in-Cat.ensures))

pub plain-returns-in-Let : goal.plain-returns-in-Let
plain-returns-in-Let t c = makes_same boxed_state c.bound.result _ _ (sym (ap plain_of c.in-Let.is)) (c.bound.ensures _ _ (rw c.deref-in-Let.ensures at c.plain-in-Let.ensures) (rw c.deref-in-Let-2.ensures at c.plain-in-Let-2.ensures))

pub plain-returns-in-LetPar : goal.plain-returns-in-LetPar
plain-returns-in-LetPar t c = makes_same boxed_state c.let_par_of.result _ _ (sym (ap plain_of c.in-LetPar.is)) (c.let_par_of.ensures _ (rw c.deref-in-LetPar.ensures at c.plain-in-LetPar.ensures))

pub plain-returns-in-LetCat : goal.plain-returns-in-LetCat
plain-returns-in-LetCat t c = makes_same boxed_state c.let_cat_of.result _ _ (sym (ap plain_of c.in-LetCat.is)) (c.let_cat_of.ensures _ (rw c.deref-in-LetCat.ensures at c.plain-in-LetCat.ensures))

pub plain-returns-in-CaseSum : goal.plain-returns-in-CaseSum
plain-returns-in-CaseSum t c = makes_same boxed_state c.on_sum.result _ _ (sym (ap plain_of c.in-CaseSum.is)) (rw c.deref-in-CaseSum.ensures.value at c.on_sum.ensures)

pub plain-returns-in-CaseStar : goal.plain-returns-in-CaseStar
plain-returns-in-CaseStar t c = makes_same boxed_state c.on_star.result _ _ (sym (ap plain_of c.in-CaseStar.is)) (rw c.deref-in-CaseStar.ensures.value at c.on_star.ensures)

pub plain-returns-in-Wait : goal.plain-returns-in-Wait
plain-returns-in-Wait t c = makes_same boxed_state c.waiting.result _ _ (sym (ap plain_of c.in-Wait.is)) (rw c.deref-in-Wait.ensures.value at c.waiting.ensures)

pub plain-returns-in-Frame : goal.plain-returns-in-Frame
plain-returns-in-Frame t c = makes_same boxed_state c.framed.result _ _ (sym (ap plain_of c.in-Frame.is)) (c.framed.ensures _ _ (rw c.deref-in-Frame.ensures at c.plain_all.ensures) (rw c.deref-in-Frame-2.ensures at c.plain-in-Frame.ensures))

pub plain_all-returns-in-Before : goal.plain_all-returns-in-Before
plain_all-returns-in-Before t c = rw c.in-Before.is (c.one_more.ensures _ _ (rw c.deref.ensures at c.plain.ensures) (rw c.deref-in-Before.ensures at c.plain_all.ensures))
