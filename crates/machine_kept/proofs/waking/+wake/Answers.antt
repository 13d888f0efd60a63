-- Each form, woken, and one argument before others.
use Rattle.std.proofs.Common.{sym, ap, ◌∙◌}
use Rattle.delta_state.specs.StateTree.{frame_state}
use Rattle.delta_keep.specs.KeptView.{state_of}
use Rattle.machine_kept.specs.Makes.{live_in}
use Rattle.template_state.proofs.Making.{makes_same}
use Rattle.delta_keep.proofs.ArgumentRows.{arguments_of-hidden}
use Rattle.machine_kept.proofs.waking.+wake.Goals as goal

pub wake-returns-in-Sink : goal.wake-returns-in-Sink
wake-returns-in-Sink t c = makes_same live_in c.finished.result _ _ (sym (ap state_of c.in-Sink.is)) (rw c.deref.ensures at c.finished.ensures)

pub wake-returns-in-Var : goal.wake-returns-in-Var
wake-returns-in-Var t c = makes_same live_in c.made.result _ _ (sym (ap state_of c.in-Var.is)) c.made.ensures

pub wake-returns-in-Par : goal.wake-returns-in-Par
wake-returns-in-Par t c = makes_same live_in c.par_of.result _ _ (sym (ap state_of c.in-Par.is)) (c.par_of.ensures _ _ (rw c.deref-in-Par.ensures at c.wake.ensures) (rw c.deref-in-Par-2.ensures at c.wake-in-Par.ensures))

pub wake-returns-in-Cat : goal.wake-returns-in-Cat
wake-returns-in-Cat t c = makes_same live_in c.row.result _ _ (sym (ap state_of c.in-Cat.is)) (rw c.deref-in-Cat-2.ensures at (c.row.ensures _ (rw c.deref-in-Cat.ensures at c.wake-in-Cat.ensures)))

pub wake-returns-in-Let : goal.wake-returns-in-Let
wake-returns-in-Let t c = makes_same live_in c.bound.result _ _ (sym (ap state_of c.in-Let.is)) (rw c.deref-in-Let.ensures at (c.bound.ensures _ _ (rw c.deref-in-Let-2.ensures at c.wake-in-Let.ensures) (rw c.deref-in-Let-3.ensures at c.wake-in-Let-2.ensures)))

pub wake-returns-in-LetPar : goal.wake-returns-in-LetPar
wake-returns-in-LetPar t c = makes_same live_in c.let_par_of.result _ _ (sym (ap state_of c.in-LetPar.is)) (c.let_par_of.ensures _ (rw c.deref-in-LetPar.ensures at c.wake-in-LetPar.ensures))

pub wake-returns-in-LetCat : goal.wake-returns-in-LetCat
wake-returns-in-LetCat t c = makes_same live_in c.let_cat_of.result _ _ (sym (ap state_of c.in-LetCat.is)) (c.let_cat_of.ensures _ (rw c.deref-in-LetCat.ensures at c.wake-in-LetCat.ensures))

pub wake-returns-in-CaseSum : goal.wake-returns-in-CaseSum
wake-returns-in-CaseSum t c = makes_same live_in c.on_sum.result _ _ (sym (ap state_of c.in-CaseSum.is)) (rw (c.deref-in-CaseSum.ensures, c.deref-in-CaseSum-2.ensures.value, c.deref-in-CaseSum-3.ensures, c.deref-in-CaseSum-4.ensures) at c.on_sum.ensures)

pub wake-returns-in-CaseStar : goal.wake-returns-in-CaseStar
wake-returns-in-CaseStar t c = makes_same live_in c.on_star.result _ _ (sym (ap state_of c.in-CaseStar.is)) (rw (c.deref-in-CaseStar.ensures, c.deref-in-CaseStar-2.ensures.value, c.deref-in-CaseStar-3.ensures, c.deref-in-CaseStar-4.ensures) at c.on_star.ensures)

pub wake-returns-in-Wait : goal.wake-returns-in-Wait
wake-returns-in-Wait t c = makes_same live_in c.waiting.result _ _ (sym (ap state_of c.in-Wait.is)) (rw (c.deref-in-Wait.ensures, c.deref-in-Wait-2.ensures.value, c.deref-in-Wait-3.ensures) at c.waiting.ensures)

pub wake-returns-in-Frame : goal.wake-returns-in-Frame
wake-returns-in-Frame t c =
    makes_same live_in c.framed.result _ _ (sym (ap state_of c.in-Frame.is ∙ ap (λ args. frame_state args (state_of c.in-Frame.a.value)) (arguments_of-hidden c.in-Frame.args)))
    (c.framed.ensures _ _ (rw c.deref-in-Frame.ensures.value at c.wake_all.ensures) (rw c.deref-in-Frame-2.ensures at c.wake-in-Frame.ensures))

pub wake_all-returns-in-Some : goal.wake_all-returns-in-Some
wake_all-returns-in-Some t c =
    rw c.in-Some.ensures.cases.0 (rw c.deref-in-Some.ensures at (c.before-in-Some.ensures _ _ (rw c.deref.ensures at c.wake-state.ensures) c.wake_all.ensures))
