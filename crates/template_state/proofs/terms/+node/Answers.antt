-- The term of each form.
use Rattle.std.proofs.Common.{sym, ap}
use Rattle.std.proofs.lemmas.Result.{IfOk-weaker}
use Rattle.template_state.specs.Readers.{op_term}
use Rattle.template_state.specs.Makes.{boxed_term}
use Rattle.template_state.proofs.Making.{makes_same}
use Rattle.template_state.proofs.terms.+node.Goals as goal

pub node-returns-in-Var : goal.node-returns-in-Var
node-returns-in-Var t c = makes_same boxed_term c.placed.result _ _ (sym (ap op_term c.in-Var.is)) c.placed.ensures

pub node-returns-in-Eps : goal.node-returns-in-Eps
node-returns-in-Eps t c = makes_same boxed_term c.placed-in-Eps.result _ _ (sym (ap op_term c.in-Eps.is)) c.placed-in-Eps.ensures

pub node-returns-in-Unit : goal.node-returns-in-Unit
node-returns-in-Unit t c = makes_same boxed_term c.placed-in-Unit.result _ _ (sym (ap op_term c.in-Unit.is)) c.placed-in-Unit.ensures

pub node-returns-in-Past : goal.node-returns-in-Past
node-returns-in-Past t c = makes_same boxed_term c.past_of.result _ _ (sym (ap op_term c.in-Past.is)) c.past_of.ensures

pub node-returns-in-Par : goal.node-returns-in-Par
node-returns-in-Par t c = makes_same boxed_term c.par_of.result _ _ (sym (ap op_term c.in-Par.is)) (c.par_of.ensures _ _ (rw (c.deref.ensures, c.deref-in-Par.ensures) at c.both.ensures))

pub node-returns-in-Cat : goal.node-returns-in-Cat
node-returns-in-Cat t c = makes_same boxed_term c.cat_of.result _ _ (sym (ap op_term c.in-Cat.is)) (c.cat_of.ensures _ _ (rw (c.deref-in-Cat.ensures, c.deref-in-Cat-2.ensures) at c.both-in-Cat.ensures))

pub node-returns-in-Inl : goal.node-returns-in-Inl
node-returns-in-Inl t c = makes_same boxed_term c.inl_of.result _ _ (sym (ap op_term c.in-Inl.is)) (c.inl_of.ensures _ (rw c.deref-in-Inl.ensures at c.node.ensures))

pub node-returns-in-Inr : goal.node-returns-in-Inr
node-returns-in-Inr t c = makes_same boxed_term c.inr_of.result _ _ (sym (ap op_term c.in-Inr.is)) (c.inr_of.ensures _ (rw c.deref-in-Inr.ensures at c.node-in-Inr.ensures))

pub node-returns-in-Nil : goal.node-returns-in-Nil
node-returns-in-Nil t c = makes_same boxed_term c.placed-in-Nil.result _ _ (sym (ap op_term c.in-Nil.is)) c.placed-in-Nil.ensures

pub node-returns-in-Cons : goal.node-returns-in-Cons
node-returns-in-Cons t c = makes_same boxed_term c.cons_of.result _ _ (sym (ap op_term c.in-Cons.is)) (c.cons_of.ensures _ _ (rw (c.deref-in-Cons.ensures, c.deref-in-Cons-2.ensures) at c.both-in-Cons.ensures))

pub node-returns-in-Let : goal.node-returns-in-Let
node-returns-in-Let t c = makes_same boxed_term c.let_of.result _ _ (sym (ap op_term c.in-Let.is)) (c.let_of.ensures _ _ (rw (c.deref-in-Let.ensures, c.deref-in-Let-2.ensures) at c.both-in-Let.ensures))

pub node-returns-in-LetPar : goal.node-returns-in-LetPar
node-returns-in-LetPar t c = makes_same boxed_term c.let_par_of.result _ _ (sym (ap op_term c.in-LetPar.is)) (c.let_par_of.ensures _ (rw c.deref-in-LetPar.ensures at c.node-in-LetPar.ensures))

pub node-returns-in-LetCat : goal.node-returns-in-LetCat
node-returns-in-LetCat t c = makes_same boxed_term c.let_cat_of.result _ _ (sym (ap op_term c.in-LetCat.is)) (c.let_cat_of.ensures _ (rw c.deref-in-LetCat.ensures at c.node-in-LetCat.ensures))

pub node-returns-in-CaseSum : goal.node-returns-in-CaseSum
node-returns-in-CaseSum t c = makes_same boxed_term c.sum_of.result _ _ (sym (ap op_term c.in-CaseSum.is)) (c.sum_of.ensures _ _ (rw (c.deref-in-CaseSum.ensures, c.deref-in-CaseSum-2.ensures) at c.both-in-CaseSum.ensures))

pub node-returns-in-CaseStar : goal.node-returns-in-CaseStar
node-returns-in-CaseStar t c = makes_same boxed_term c.star_of.result _ _ (sym (ap op_term c.in-CaseStar.is)) (c.star_of.ensures _ _ (rw (c.deref-in-CaseStar.ensures, c.deref-in-CaseStar-2.ensures) at c.both-in-CaseStar.ensures))

pub node-returns-in-Wait : goal.node-returns-in-Wait
node-returns-in-Wait t c = makes_same boxed_term c.wait_of.result _ _ (sym (ap op_term c.in-Wait.is)) (c.wait_of.ensures _ (rw c.deref-in-Wait.ensures at c.node-in-Wait.ensures))

pub node-returns-in-Call : goal.node-returns-in-Call
node-returns-in-Call t c = makes_same boxed_term c.call_of.result _ _ (sym (ap op_term c.in-Call.is)) (rw c.deref-in-Call.ensures.value at (c.call_of.ensures _ (rw c.deref-in-Call-2.ensures at c.nodes.ensures)))

pub nodes-returns-in-Before : goal.nodes-returns-in-Before
nodes-returns-in-Before t c = rw c.in-Before.is (c.one_more.ensures _ _ (rw c.deref.ensures at c.node.ensures) (rw c.deref-in-Before.ensures at c.nodes.ensures))

pub both-returns : goal.both-returns
both-returns t c = IfOk-weaker c.pair.result _ _ (λ p h. (rw h.0 at c.node.ensures, rw h.1 at c.node-2.ensures)) c.pair.ensures
