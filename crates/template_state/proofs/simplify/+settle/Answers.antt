-- Each form, put into a simpler one.
use Rattle.std.proofs.lemmas.Result.{on_ok_weaker}
use Rattle.state_rewriting.specs.Rewriting.{as_they_are}
use Rattle.template_state.proofs.Settling.{simpler_same, simpler_par, simpler_cat, simpler_let, simpler_let_par, simpler_let_cat, simpler_frame, simpler_before, made_ok}
use Rattle.std.proofs.Common.{refl}
use Rattle.template_state.proofs.simplify.+settle.Goals as goal

pub settle-returns-in-Cat : goal.settle-returns-in-Cat
settle-returns-in-Cat t c = rw c.in-Cat.is (on_ok_weaker c.settle-in-Cat.result (λ h. simpler_cat c.cat_types.ensures.first h) (rw c.deref_mut-in-Cat.ensures.value at c.settle-in-Cat.ensures))

pub settle-returns-in-LetPar : goal.settle-returns-in-LetPar
settle-returns-in-LetPar t c = rw c.in-LetPar.is (on_ok_weaker c.pair_done.result (λ k. simpler_let_par (made_ok c.settle-pair.result k.0 (rw c.deref_mut-in-LetPar.ensures.value at c.settle-pair.ensures)) k.1) c.pair_done.ensures)

pub settle-returns-in-LetCat : goal.settle-returns-in-LetCat
settle-returns-in-LetCat t c = rw c.in-LetCat.is (on_ok_weaker c.row_done.result (λ k. simpler_let_cat (made_ok c.settle-row.result k.0 (rw c.deref_mut-in-LetCat.ensures.value at c.settle-row.ensures)) k.1) c.row_done.ensures)

pub settle-returns-in-Sink : goal.settle-returns-in-Sink
settle-returns-in-Sink t c = simpler_same refl

pub settle-returns-in-Sink-2 : goal.settle-returns-in-Sink-2
settle-returns-in-Sink-2 t c = simpler_same refl

pub settle-returns-in-Sink-3 : goal.settle-returns-in-Sink-3
settle-returns-in-Sink-3 t c = simpler_same refl

pub settle-returns-in-Sink-4 : goal.settle-returns-in-Sink-4
settle-returns-in-Sink-4 t c = simpler_same refl

pub settle-returns-in-Sink-5 : goal.settle-returns-in-Sink-5
settle-returns-in-Sink-5 t c = simpler_same refl

pub settle-returns-in-Ok : goal.settle-returns-in-Ok
settle-returns-in-Ok t c =
    let first = rw (c.in-Ok.is, c.deref_mut.ensures.value) at c.settle.ensures in
    rw c.in-Par.is (on_ok_weaker c.settle-in-Ok.result (λ k. simpler_par c.par_types.ensures.left c.par_types.ensures.right first k) (rw c.deref_mut-in-Ok.ensures.value at c.settle-in-Ok.ensures))

pub settle-returns-in-Ok-settle : goal.settle-returns-in-Ok-settle
settle-returns-in-Ok-settle t c =
    let first = rw (c.in-Ok-settle.is, c.deref_mut-in-Let.ensures.value) at c.settle-in-Let.ensures in
    let body = rw c.deref_mut-in-Ok-settle.ensures.value at c.settle-body.ensures in
    rw c.in-Let.is (on_ok_weaker c.let_done.result (λ k. simpler_let first (made_ok c.settle-body.result k.0 body) k.1) c.let_done.ensures)

pub settle-returns-in-Ok-settle_all : goal.settle-returns-in-Ok-settle_all
settle-returns-in-Ok-settle_all t c =
    let first = rw (c.in-Ok-settle_all.is, c.deref_mut-in-Frame.ensures.value) at c.settle_all.ensures in
    let body = rw c.deref_mut-in-Ok-settle_all.ensures.value at c.settle-called.ensures in
    rw c.in-Frame.is (on_ok_weaker c.frame_done.result (λ k. simpler_frame first (made_ok c.settle-called.result k.0 body) k.1) c.frame_done.ensures)

pub settle_all-returns-in-Ok : goal.settle_all-returns-in-Ok
settle_all-returns-in-Ok t c =
    let first = rw (c.in-Ok.is, c.deref_mut.ensures.value) at c.settle.ensures in
    rw c.in-Before.is (on_ok_weaker c.settle_all.result (λ k. simpler_before first k) (rw c.deref_mut-in-Ok.ensures.value at c.settle_all.ensures))

pub settle_all-returns-in-None : goal.settle_all-returns-in-None
settle_all-returns-in-None t c = as_they_are
