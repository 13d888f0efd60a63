-- Each form, kept, and one argument before others.
use Rattle.std.proofs.Common.{sym, ap}
use Rattle.template_state.specs.Readers.{state_in}
use Rattle.machine_kept.specs.Makes.{kept_in}
use Rattle.template_state.proofs.Making.{makes_same}
use Rattle.machine_kept.proofs.kept_states.+keep.Goals as goal

pub keep-returns-in-Sink : goal.keep-returns-in-Sink
keep-returns-in-Sink t c = makes_same kept_in c.finished.result _ _ (sym (ap state_in c.in-Sink.is)) c.finished.ensures

pub keep-returns-in-Var : goal.keep-returns-in-Var
keep-returns-in-Var t c = makes_same kept_in c.made.result _ _ (sym (ap state_in c.in-Var.is)) c.made.ensures

pub keep-returns-in-Par : goal.keep-returns-in-Par
keep-returns-in-Par t c = makes_same kept_in c.par_of.result _ _ (sym (ap state_in c.in-Par.is)) (c.par_of.ensures _ _ (rw c.deref.ensures at c.keep.ensures) (rw c.deref-in-Par.ensures at c.keep-in-Par.ensures))

pub keep-returns-in-Cat : goal.keep-returns-in-Cat
keep-returns-in-Cat t c = makes_same kept_in c.row.result _ _ (sym (ap state_in c.in-Cat.is)) (c.row.ensures _ (rw c.deref-in-Cat.ensures at c.keep-in-Cat.ensures))

pub keep-returns-in-Let : goal.keep-returns-in-Let
keep-returns-in-Let t c = makes_same kept_in c.bound.result _ _ (sym (ap state_in c.in-Let.is)) (c.bound.ensures _ _ (rw c.deref-in-Let.ensures at c.keep-in-Let.ensures) (rw c.deref-in-Let-2.ensures at c.keep-in-Let-2.ensures))

pub keep-returns-in-LetPar : goal.keep-returns-in-LetPar
keep-returns-in-LetPar t c = makes_same kept_in c.let_par_of.result _ _ (sym (ap state_in c.in-LetPar.is)) (c.let_par_of.ensures _ (rw c.deref-in-LetPar.ensures at c.keep-in-LetPar.ensures))

pub keep-returns-in-LetCat : goal.keep-returns-in-LetCat
keep-returns-in-LetCat t c = makes_same kept_in c.let_cat_of.result _ _ (sym (ap state_in c.in-LetCat.is)) (c.let_cat_of.ensures _ (rw c.deref-in-LetCat.ensures at c.keep-in-LetCat.ensures))

pub keep-returns-in-CaseSum : goal.keep-returns-in-CaseSum
keep-returns-in-CaseSum t c = makes_same kept_in c.on_sum.result _ _ (sym (ap state_in c.in-CaseSum.is)) (rw c.deref-in-CaseSum.ensures.value at c.on_sum.ensures)

pub keep-returns-in-CaseStar : goal.keep-returns-in-CaseStar
keep-returns-in-CaseStar t c = makes_same kept_in c.on_star.result _ _ (sym (ap state_in c.in-CaseStar.is)) (rw c.deref-in-CaseStar.ensures.value at c.on_star.ensures)

pub keep-returns-in-Wait : goal.keep-returns-in-Wait
keep-returns-in-Wait t c = makes_same kept_in c.waiting.result _ _ (sym (ap state_in c.in-Wait.is)) (rw c.deref-in-Wait.ensures.value at c.waiting.ensures)

pub keep-returns-in-Frame : goal.keep-returns-in-Frame
keep-returns-in-Frame t c = makes_same kept_in c.framed.result _ _ (sym (ap state_in c.in-Frame.is)) (c.framed.ensures _ _ (rw c.deref-in-Frame.ensures at c.keep_all.ensures) (rw c.deref-in-Frame-2.ensures at c.keep-in-Frame.ensures))

pub keep_all-returns-in-Before : goal.keep_all-returns-in-Before
keep_all-returns-in-Before t c = rw c.in-Before.is (c.before-in-Before.ensures _ _ (rw c.deref.ensures at c.keep.ensures) (rw c.deref-in-Before.ensures at c.keep_all.ensures))
