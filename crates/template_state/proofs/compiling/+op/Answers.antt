-- The template of each form.
use Rattle.std.proofs.Common.{sym, ap, ◌∙◌}
use Rattle.core_term.specs.CoreTerm.{term_in, term_of}
use Rattle.core_term.proofs.Rows.{term_in-call}
use Rattle.template_state.specs.Readers.{shared_term}
use Rattle.template_state.proofs.Making.{makes_same, makes_both, made_next, made_whole}
use Rattle.template_state.proofs.compiling.+op.Goals as goal

pub op-returns-in-Var : goal.op-returns-in-Var
op-returns-in-Var t c = makes_same shared_term c.made.result _ _ (sym (ap term_in c.in-Var.is)) c.made.ensures

pub op-returns-in-Eps : goal.op-returns-in-Eps
op-returns-in-Eps t c = makes_same shared_term c.made-in-Eps.result _ _ (sym (ap term_in c.in-Eps.is)) c.made-in-Eps.ensures

pub op-returns-in-Unit : goal.op-returns-in-Unit
op-returns-in-Unit t c = makes_same shared_term c.made-in-Unit.result _ _ (sym (ap term_in c.in-Unit.is)) c.made-in-Unit.ensures

pub op-returns-in-Past : goal.op-returns-in-Past
op-returns-in-Past t c = makes_same shared_term c.past_of.result _ _ (sym (ap term_in c.in-Past.is)) c.past_of.ensures

pub op-returns-in-Par : goal.op-returns-in-Par
op-returns-in-Par t c = makes_same shared_term c.par_of.result _ _ (sym (ap term_in c.in-Par.is)) (c.par_of.ensures _ _ (rw (c.deref.ensures, c.deref-in-Par.ensures) at c.both.ensures))

pub op-returns-in-Cat : goal.op-returns-in-Cat
op-returns-in-Cat t c = makes_same shared_term c.cat_of.result _ _ (sym (ap term_in c.in-Cat.is)) (c.cat_of.ensures _ _ (rw (c.deref-in-Cat.ensures, c.deref-in-Cat-2.ensures) at c.both-in-Cat.ensures))

pub op-returns-in-Inl : goal.op-returns-in-Inl
op-returns-in-Inl t c = makes_same shared_term c.inl_of.result _ _ (sym (ap term_in c.in-Inl.is)) (c.inl_of.ensures _ (rw c.deref-in-Inl.ensures at c.op.ensures))

pub op-returns-in-Inr : goal.op-returns-in-Inr
op-returns-in-Inr t c = makes_same shared_term c.inr_of.result _ _ (sym (ap term_in c.in-Inr.is)) (c.inr_of.ensures _ (rw c.deref-in-Inr.ensures at c.op-in-Inr.ensures))

pub op-returns-in-Nil : goal.op-returns-in-Nil
op-returns-in-Nil t c = makes_same shared_term c.made-in-Nil.result _ _ (sym (ap term_in c.in-Nil.is)) c.made-in-Nil.ensures

pub op-returns-in-Cons : goal.op-returns-in-Cons
op-returns-in-Cons t c = makes_same shared_term c.cons_of.result _ _ (sym (ap term_in c.in-Cons.is)) (c.cons_of.ensures _ _ (rw (c.deref-in-Cons.ensures, c.deref-in-Cons-2.ensures) at c.both-in-Cons.ensures))

pub op-returns-in-Let : goal.op-returns-in-Let
op-returns-in-Let t c = makes_same shared_term c.let_of.result _ _ (sym (ap term_in c.in-Let.is)) (c.let_of.ensures _ _ (rw (c.deref-in-Let.ensures, c.deref-in-Let-2.ensures) at c.both-in-Let.ensures))

pub op-returns-in-LetPar : goal.op-returns-in-LetPar
op-returns-in-LetPar t c = makes_same shared_term c.let_par_of.result _ _ (sym (ap term_in c.in-LetPar.is)) (c.let_par_of.ensures _ (rw c.deref-in-LetPar.ensures at c.op-in-LetPar.ensures))

pub op-returns-in-LetCat : goal.op-returns-in-LetCat
op-returns-in-LetCat t c = makes_same shared_term c.let_cat_of.result _ _ (sym (ap term_in c.in-LetCat.is)) (c.let_cat_of.ensures _ (rw c.deref-in-LetCat.ensures at c.op-in-LetCat.ensures))

pub op-returns-in-CaseSum : goal.op-returns-in-CaseSum
op-returns-in-CaseSum t c = makes_same shared_term c.sum_of.result _ _ (sym (ap term_in c.in-CaseSum.is)) (c.sum_of.ensures _ _ (rw (c.deref-in-CaseSum.ensures, c.deref-in-CaseSum-2.ensures) at c.both-in-CaseSum.ensures))

pub op-returns-in-CaseStar : goal.op-returns-in-CaseStar
op-returns-in-CaseStar t c = makes_same shared_term c.star_of.result _ _ (sym (ap term_in c.in-CaseStar.is)) (c.star_of.ensures _ _ (rw (c.deref-in-CaseStar.ensures, c.deref-in-CaseStar-2.ensures) at c.both-in-CaseStar.ensures))

pub op-returns-in-Wait : goal.op-returns-in-Wait
op-returns-in-Wait t c = makes_same shared_term c.wait_of.result _ _ (sym (ap term_in c.in-Wait.is)) (c.wait_of.ensures _ (rw c.deref-in-Wait.ensures at c.op-in-Wait.ensures))

pub op-returns-in-Call : goal.op-returns-in-Call
op-returns-in-Call t c =
    makes_same shared_term c.call_of.result _ _ (sym (ap term_in c.in-Call.is ∙ term_in-call c.in-Call.f c.in-Call.ms c.in-Call.es))
    (rw c.deref-in-Call.ensures.value at (c.call_of.ensures _ (rw c.deref-in-Call-2.ensures.value at c.ops.ensures)))

pub both-returns : goal.both-returns
both-returns t c = makes_both shared_term c.op.result c.op-2.result c.pair.result _ _ c.op.ensures c.op-2.ensures c.pair.ensures

pub ops-loop-node-preserved : goal.ops-loop-node-preserved
ops-loop-node-preserved t c =
    made_next shared_term term_of c.loop-node.made.items _ c.args.nodes.now c.loop-node.node-index c.node-item.result c.op.result c.loop-node-test.true c.node-item.is c.op.ensures c.in_ok-made.ensures c.loop-node.invariant

pub ops-returns : goal.ops-returns
ops-returns t c = made_whole shared_term term_of c.loop-node.made.items c.args.nodes.now c.loop-node.node-index c.loop-node-test.false c.loop-node.invariant
