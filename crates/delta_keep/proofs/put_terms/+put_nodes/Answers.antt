-- Terms by their forms: their bytes, and the sizes of their numbers.
use Rattle.std.proofs.Common.{sym, ap, ◌∙◌, ◌++◌, subst}
use Rattle.stream_type.specs.StreamType.{type_of}
use Rattle.core_term.specs.CoreTerm.{term_in}
use Rattle.kept_state.specs.KeptBytes.{short_bytes, type_bytes}
use Rattle.kept_state.specs.KeptSizes.{FitsTerm}
use Rattle.delta_keep.specs.Written.{written_node, written_term}
use Rattle.delta_keep.specs.Reads.{FitsNode}
use Rattle.delta_keep.proofs.PutInTurn.{puts_same, puts_2, puts_3, puts_4, puts_formed, puts_named}
use Rattle.delta_keep.proofs.Trees.{call_bytes}
use Rattle.delta_keep.proofs.PutSizes.{some_more, all_themselves, node_filled, before, both, fits_as}
use Rattle.delta_keep.proofs.Sizes.{call_fits}
use Rattle.delta_keep.proofs.put_terms.+put_nodes.Goals as goal

pub put_nodes-loop-node-preserved : goal.put_nodes-loop-node-preserved
put_nodes-loop-node-preserved t c = some_more written_node (λ n. n) FitsNode c.args.nodes.now c.loop-node.node-index c.node-item.result c.loop-node-test.true c.node-item.is c.loop-node.invariant c.put_node.ensures.puts c.put_node.ensures.sizes

pub put_case_star-returns-clause-puts : goal.put_case_star-returns-clause-puts
put_case_star-returns-clause-puts t c =
    puts_formed 14 (short_bytes c.args.z.0) (type_bytes (type_of c.args.t.now)) (written_node c.args.a.now ++ (short_bytes c.args.y.0 ++ (short_bytes c.args.ys.0 ++ written_node c.args.b.now))) c.put_form_name_type.ensures.puts
    (puts_4 c.put_node.ensures.puts c.put_name.ensures.puts c.put_name-2.ensures.puts c.put_node-2.ensures.puts)

pub put_term-returns-in-Call-clause-puts : goal.put_term-returns-in-Call-clause-puts
put_term-returns-in-Call-clause-puts t c =
    puts_same (sym (ap written_term c.in-Call.is ∙ call_bytes c.in-Call.f c.in-Call.ms c.in-Call.es))
    (rw (c.deref-in-Call.ensures.value, c.deref-in-Call-2.ensures.value) at c.put_call.ensures.puts)

pub put_node-returns-clause-puts : goal.put_node-returns-clause-puts
put_node-returns-clause-puts t c = puts_2 c.put_short.ensures.puts c.put_term.ensures.puts

pub put_one_node-returns-clause-puts : goal.put_one_node-returns-clause-puts
put_one_node-returns-clause-puts t c = puts_2 c.put_byte.ensures c.put_node.ensures.puts

pub put_two_nodes-returns-clause-puts : goal.put_two_nodes-returns-clause-puts
put_two_nodes-returns-clause-puts t c = puts_3 c.put_byte.ensures c.put_node.ensures.puts c.put_node-2.ensures.puts

pub put_case_sum-returns-clause-puts : goal.put_case_sum-returns-clause-puts
put_case_sum-returns-clause-puts t c =
    puts_formed 13 (short_bytes c.args.z.0) (type_bytes (type_of c.args.t.now)) (short_bytes c.args.x.0 ++ (written_node c.args.a.now ++ (short_bytes c.args.y.0 ++ written_node c.args.b.now))) c.put_form_name_type.ensures.puts
    (puts_4 c.put_name.ensures.puts c.put_node.ensures.puts c.put_name-2.ensures.puts c.put_node-2.ensures.puts)

pub put_call-returns-clause-puts : goal.put_call-returns-clause-puts
put_call-returns-clause-puts t c = puts_4 c.put_byte.ensures c.put_short.ensures.puts c.put_exprs.ensures.puts c.put_nodes.ensures.puts

pub put_term-returns-in-Var-clause-puts : goal.put_term-returns-in-Var-clause-puts
put_term-returns-in-Var-clause-puts t c = rw c.in-Var.is (puts_2 c.put_byte.ensures c.put_name.ensures.puts)

pub put_term-returns-in-Eps-clause-puts : goal.put_term-returns-in-Eps-clause-puts
put_term-returns-in-Eps-clause-puts t c = rw c.in-Eps.is c.put_byte-in-Eps.ensures

pub put_term-returns-in-Unit-clause-puts : goal.put_term-returns-in-Unit-clause-puts
put_term-returns-in-Unit-clause-puts t c = rw c.in-Unit.is c.put_byte-in-Unit.ensures

pub put_term-returns-in-Past-clause-puts : goal.put_term-returns-in-Past-clause-puts
put_term-returns-in-Past-clause-puts t c = rw c.in-Past.is (puts_2 c.put_byte-in-Past.ensures c.put_expr.ensures.puts)

pub put_term-returns-in-Par-clause-puts : goal.put_term-returns-in-Par-clause-puts
put_term-returns-in-Par-clause-puts t c = rw c.in-Par.is (rw (c.deref.ensures, c.deref-in-Par.ensures) at c.put_two_nodes.ensures.puts)

pub put_term-returns-in-Cat-clause-puts : goal.put_term-returns-in-Cat-clause-puts
put_term-returns-in-Cat-clause-puts t c = rw c.in-Cat.is (rw (c.deref-in-Cat.ensures, c.deref-in-Cat-2.ensures) at c.put_two_nodes-in-Cat.ensures.puts)

pub put_term-returns-in-Inl-clause-puts : goal.put_term-returns-in-Inl-clause-puts
put_term-returns-in-Inl-clause-puts t c = rw c.in-Inl.is (rw c.deref-in-Inl.ensures at c.put_one_node.ensures.puts)

pub put_term-returns-in-Inr-clause-puts : goal.put_term-returns-in-Inr-clause-puts
put_term-returns-in-Inr-clause-puts t c = rw c.in-Inr.is (rw c.deref-in-Inr.ensures at c.put_one_node-in-Inr.ensures.puts)

pub put_term-returns-in-Nil-clause-puts : goal.put_term-returns-in-Nil-clause-puts
put_term-returns-in-Nil-clause-puts t c = rw c.in-Nil.is c.put_byte-in-Nil.ensures

pub put_term-returns-in-Cons-clause-puts : goal.put_term-returns-in-Cons-clause-puts
put_term-returns-in-Cons-clause-puts t c = rw c.in-Cons.is (rw (c.deref-in-Cons.ensures, c.deref-in-Cons-2.ensures) at c.put_two_nodes-in-Cons.ensures.puts)

pub put_term-returns-in-Let-clause-puts : goal.put_term-returns-in-Let-clause-puts
put_term-returns-in-Let-clause-puts t c =
    rw c.in-Let.is
    (puts_formed 10 (short_bytes c.in-Let.x.0) (type_bytes (type_of c.in-Let.s)) (written_node c.in-Let.a.value ++ written_node c.in-Let.b.value) c.put_form_name_type.ensures.puts
    (puts_2 (rw c.deref-in-Let.ensures at c.put_node.ensures.puts) (rw c.deref-in-Let-2.ensures at c.put_node-in-Let.ensures.puts)))

pub put_term-returns-in-LetPar-clause-puts : goal.put_term-returns-in-LetPar-clause-puts
put_term-returns-in-LetPar-clause-puts t c =
    rw c.in-LetPar.is
    (puts_named 11 (short_bytes c.in-LetPar.x.0) (short_bytes c.in-LetPar.y.0) (short_bytes c.in-LetPar.z.0) (written_node c.in-LetPar.a.value) c.put_form_names.ensures.puts (rw c.deref-in-LetPar.ensures at c.put_node-in-LetPar.ensures.puts))

pub put_term-returns-in-LetCat-clause-puts : goal.put_term-returns-in-LetCat-clause-puts
put_term-returns-in-LetCat-clause-puts t c =
    rw c.in-LetCat.is
    (puts_named 12 (short_bytes c.in-LetCat.x.0) (short_bytes c.in-LetCat.y.0) (short_bytes c.in-LetCat.z.0) (written_node c.in-LetCat.a.value) c.put_form_names-in-LetCat.ensures.puts (rw c.deref-in-LetCat.ensures at c.put_node-in-LetCat.ensures.puts))

pub put_term-returns-in-CaseSum-clause-puts : goal.put_term-returns-in-CaseSum-clause-puts
put_term-returns-in-CaseSum-clause-puts t c = rw c.in-CaseSum.is (rw (c.deref-in-CaseSum.ensures, c.deref-in-CaseSum-2.ensures) at c.put_case_sum.ensures.puts)

pub put_term-returns-in-CaseStar-clause-puts : goal.put_term-returns-in-CaseStar-clause-puts
put_term-returns-in-CaseStar-clause-puts t c = rw c.in-CaseStar.is (rw (c.deref-in-CaseStar.ensures, c.deref-in-CaseStar-2.ensures) at c.put_case_star.ensures.puts)

pub put_term-returns-in-Wait-clause-puts : goal.put_term-returns-in-Wait-clause-puts
put_term-returns-in-Wait-clause-puts t c =
    rw c.in-Wait.is
    (puts_formed 15 (short_bytes c.in-Wait.x.0) (type_bytes (type_of c.in-Wait.t)) (written_node c.in-Wait.a.value) c.put_form_name_type-in-Wait.ensures.puts (rw c.deref-in-Wait.ensures at c.put_node-in-Wait.ensures.puts))

pub put_nodes-returns-clause-sizes : goal.put_nodes-returns-clause-sizes
put_nodes-returns-clause-sizes t c = all_themselves written_node FitsNode c.args.nodes.now c.loop-node.node-index node_filled c.loop-node-test.false c.loop-node.invariant

pub put_term-returns-in-Call-clause-sizes : goal.put_term-returns-in-Call-clause-sizes
put_term-returns-in-Call-clause-sizes t c n =
    let parts = rw (c.deref-in-Call.ensures.value, c.deref-in-Call-2.ensures.value) at c.put_call.ensures.sizes in
    subst (λ e. FitsTerm (term_in e)) (sym c.in-Call.is) (call_fits c.in-Call.f c.in-Call.ms c.in-Call.es (parts n))

pub put_node-returns-clause-sizes : goal.put_node-returns-clause-sizes
put_node-returns-clause-sizes t c = c.put_term.ensures.sizes

pub put_one_node-returns-clause-sizes : goal.put_one_node-returns-clause-sizes
put_one_node-returns-clause-sizes t c = c.put_node.ensures.sizes

pub put_two_nodes-returns-clause-sizes : goal.put_two_nodes-returns-clause-sizes
put_two_nodes-returns-clause-sizes t c = both c.put_node.ensures.sizes c.put_node-2.ensures.puts c.put_node-2.ensures.sizes

pub put_case_sum-returns-clause-sizes : goal.put_case_sum-returns-clause-sizes
put_case_sum-returns-clause-sizes t c n =
    let with_first = before c.put_name-2.ensures.puts (before c.put_node-2.ensures.puts n) in
    (c.put_form_name_type.ensures.sizes, c.put_name.ensures.sizes, c.put_node.ensures.sizes with_first, c.put_name-2.ensures.sizes, c.put_node-2.ensures.sizes n)

pub put_case_star-returns-clause-sizes : goal.put_case_star-returns-clause-sizes
put_case_star-returns-clause-sizes t c n =
    let with_first = before c.put_name.ensures.puts (before c.put_name-2.ensures.puts (before c.put_node-2.ensures.puts n)) in
    (c.put_form_name_type.ensures.sizes, c.put_node.ensures.sizes with_first, c.put_name.ensures.sizes, c.put_name-2.ensures.sizes, c.put_node-2.ensures.sizes n)

pub put_call-returns-clause-sizes : goal.put_call-returns-clause-sizes
put_call-returns-clause-sizes t c n = (c.put_short.ensures.sizes, both c.put_exprs.ensures.sizes c.put_nodes.ensures.puts c.put_nodes.ensures.sizes n)

pub put_term-returns-in-Var-clause-sizes : goal.put_term-returns-in-Var-clause-sizes
put_term-returns-in-Var-clause-sizes t c = fits_as (λ e. FitsTerm (term_in e)) c.in-Var.is (λ n. c.put_name.ensures.sizes)

pub put_term-returns-in-Eps-clause-sizes : goal.put_term-returns-in-Eps-clause-sizes
put_term-returns-in-Eps-clause-sizes t c = fits_as (λ e. FitsTerm (term_in e)) c.in-Eps.is (λ n. tt)

pub put_term-returns-in-Unit-clause-sizes : goal.put_term-returns-in-Unit-clause-sizes
put_term-returns-in-Unit-clause-sizes t c = fits_as (λ e. FitsTerm (term_in e)) c.in-Unit.is (λ n. tt)

pub put_term-returns-in-Nil-clause-sizes : goal.put_term-returns-in-Nil-clause-sizes
put_term-returns-in-Nil-clause-sizes t c = fits_as (λ e. FitsTerm (term_in e)) c.in-Nil.is (λ n. tt)

pub put_term-returns-in-Past-clause-sizes : goal.put_term-returns-in-Past-clause-sizes
put_term-returns-in-Past-clause-sizes t c = fits_as (λ e. FitsTerm (term_in e)) c.in-Past.is (c.put_expr.ensures.sizes)

pub put_term-returns-in-Par-clause-sizes : goal.put_term-returns-in-Par-clause-sizes
put_term-returns-in-Par-clause-sizes t c = fits_as (λ e. FitsTerm (term_in e)) c.in-Par.is (rw (c.deref.ensures, c.deref-in-Par.ensures) at c.put_two_nodes.ensures.sizes)

pub put_term-returns-in-Cat-clause-sizes : goal.put_term-returns-in-Cat-clause-sizes
put_term-returns-in-Cat-clause-sizes t c = fits_as (λ e. FitsTerm (term_in e)) c.in-Cat.is (rw (c.deref-in-Cat.ensures, c.deref-in-Cat-2.ensures) at c.put_two_nodes-in-Cat.ensures.sizes)

pub put_term-returns-in-Inl-clause-sizes : goal.put_term-returns-in-Inl-clause-sizes
put_term-returns-in-Inl-clause-sizes t c = fits_as (λ e. FitsTerm (term_in e)) c.in-Inl.is (rw c.deref-in-Inl.ensures at c.put_one_node.ensures.sizes)

pub put_term-returns-in-Inr-clause-sizes : goal.put_term-returns-in-Inr-clause-sizes
put_term-returns-in-Inr-clause-sizes t c = fits_as (λ e. FitsTerm (term_in e)) c.in-Inr.is (rw c.deref-in-Inr.ensures at c.put_one_node-in-Inr.ensures.sizes)

pub put_term-returns-in-Cons-clause-sizes : goal.put_term-returns-in-Cons-clause-sizes
put_term-returns-in-Cons-clause-sizes t c = fits_as (λ e. FitsTerm (term_in e)) c.in-Cons.is (rw (c.deref-in-Cons.ensures, c.deref-in-Cons-2.ensures) at c.put_two_nodes-in-Cons.ensures.sizes)

pub put_term-returns-in-Let-clause-sizes : goal.put_term-returns-in-Let-clause-sizes
put_term-returns-in-Let-clause-sizes t c =
    let first = rw c.deref-in-Let.ensures at c.put_node.ensures.sizes in
    let puts = rw c.deref-in-Let-2.ensures at c.put_node-in-Let.ensures.puts in
    let second = rw c.deref-in-Let-2.ensures at c.put_node-in-Let.ensures.sizes in
    fits_as (λ e. FitsTerm (term_in e)) c.in-Let.is (λ n. (c.put_form_name_type.ensures.sizes, first (before puts n), second n))

pub put_term-returns-in-LetPar-clause-sizes : goal.put_term-returns-in-LetPar-clause-sizes
put_term-returns-in-LetPar-clause-sizes t c =
    let names = c.put_form_names.ensures.sizes in
    let part = rw c.deref-in-LetPar.ensures at c.put_node-in-LetPar.ensures.sizes in
    fits_as (λ e. FitsTerm (term_in e)) c.in-LetPar.is (λ n. (names.0, names.1, names.2, part n))

pub put_term-returns-in-LetCat-clause-sizes : goal.put_term-returns-in-LetCat-clause-sizes
put_term-returns-in-LetCat-clause-sizes t c =
    let names = c.put_form_names-in-LetCat.ensures.sizes in
    let part = rw c.deref-in-LetCat.ensures at c.put_node-in-LetCat.ensures.sizes in
    fits_as (λ e. FitsTerm (term_in e)) c.in-LetCat.is (λ n. (names.0, names.1, names.2, part n))

pub put_term-returns-in-CaseSum-clause-sizes : goal.put_term-returns-in-CaseSum-clause-sizes
put_term-returns-in-CaseSum-clause-sizes t c = fits_as (λ e. FitsTerm (term_in e)) c.in-CaseSum.is (rw (c.deref-in-CaseSum.ensures, c.deref-in-CaseSum-2.ensures) at c.put_case_sum.ensures.sizes)

pub put_term-returns-in-CaseStar-clause-sizes : goal.put_term-returns-in-CaseStar-clause-sizes
put_term-returns-in-CaseStar-clause-sizes t c = fits_as (λ e. FitsTerm (term_in e)) c.in-CaseStar.is (rw (c.deref-in-CaseStar.ensures, c.deref-in-CaseStar-2.ensures) at c.put_case_star.ensures.sizes)

pub put_term-returns-in-Wait-clause-sizes : goal.put_term-returns-in-Wait-clause-sizes
put_term-returns-in-Wait-clause-sizes t c =
    let part = rw c.deref-in-Wait.ensures at c.put_node-in-Wait.ensures.sizes in
    fits_as (λ e. FitsTerm (term_in e)) c.in-Wait.is (λ n. (c.put_form_name_type-in-Wait.ensures.sizes, part n))
