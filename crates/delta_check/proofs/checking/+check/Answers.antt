-- The parts of a term, one after the other.
use Rattle.std.proofs.Common.{◌≡◌, ◌+◌, ◌<◌, ◌++◌, map, ap, sym, refl, subst, ◌∙◌, rules}
use Rattle.std.specs.List.{concat}
use Rattle.std.proofs.lemmas.Result.{err_from_is_err_and}
use Rattle.stream_type.specs.StreamType.{type_of}
use Rattle.hist_value.specs.HistExpr.{expr_of}
use Rattle.bunch.specs.BunchTree.{tree_of}
use Rattle.core_term.specs.declared.term.Term.{the_lemmas}
use Rattle.core_term.specs.CoreTerm.{core_of, call_term, par_term, cat_term, cons_term, inl_term, inr_term, let_term, let_par_term, let_cat_term, case_sum_term, case_star_term, wait_term, term_of, term_in, terms_from, places_of, places_in, leaf_types, node_count, node_counts}
use Rattle.core_term.specs.TypeFaults.{nodes_of}
use Rattle.core_term.specs.Typing.{Context, with_name, with_let}
use Rattle.core_term.proofs.Rows.{term_in-call, places_in-call}
use Rattle.delta_check.specs.Checking.{Finds, parts_of}
use Rattle.delta_check.specs.Counting.{counts_in}
use Rattle.delta_check.specs.Scopes.{context_in, place_known}
use Rattle.delta_check.proofs.Joined.{own_first, own_then, finds_first, finds_then, second_fits, call_found}
use Rattle.delta_check.proofs.Firsts.{length-nodes}
use Rattle.delta_check.proofs.NodePlaces.{length-places}
use Rattle.delta_check.proofs.FormParts.{own_fits, first_fits, both_fit, rest_fits, no_parts, none_found, one_fits, two_fit, par_found, cat_found, cons_found, inl_found, inr_found, let_found, let_par_found, let_cat_found, case_sum_found, case_star_found, wait_found}
use Rattle.delta_check.proofs.Turns.{arguments-init, arguments-first, arguments-then, arguments-end}
use Rattle.delta_check.proofs.checking.+check.Goals as goal

pub check_node-check_own-requires : goal.check_node-check_own-requires
check_node-check_own-requires t c = own_fits c.args.number (term_of c.args.n.now) c.requires

pub check_node-returns-in_err-next : goal.check_node-returns-in_err-next
check_node-returns-in_err-next t c =
    let funs = (core_of c.args.c.now).funs in
    let counts = counts_in funs c.args.marks.now in
    let context = context_in c.args.scope.now in
    let exit = err_from_is_err_and c.from_residual.result c.from_residual.ensures.1 in
    rw (exit.1, exit.2)
    (own_first funs counts c.args.number context (term_of c.args.n.now) (type_of c.args.r.now) c.args.n.now.at (places_in c.args.n.now.term) c.in_err-next.field-0.0 c.in_err-next.ensures)

pub check_node-returns : goal.check_node-returns
check_node-returns t c =
    let funs = (core_of c.args.c.now).funs in
    let counts = counts_in funs c.args.marks.now in
    let context = context_in c.args.scope.now in
    own_then funs counts c.args.number c.in_ok-next.next context (term_of c.args.n.now) (type_of c.args.r.now) c.args.n.now.at (places_in c.args.n.now.term) c.check_parts.result c.in_ok-next.ensures
    c.check_parts.ensures

pub check_arguments-returns-in_err-next : goal.check_arguments-returns-in_err-next
check_arguments-returns-in_err-next t c =
    let funs = (core_of c.args.c.now).funs in
    let counts = counts_in funs c.args.marks.now in
    let context = context_in c.args.scope.now in
    let exit = err_from_is_err_and c.from_residual.result c.from_residual.ensures.1 in
    rw (exit.1, exit.2) (arguments-first funs counts context c.args.number c.loop-i.next c.args.arguments.now (leaf_types (tree_of c.args.params.now)) c.loop-i.i c.index-arguments-i.result (type_of c.type_of_param-t.result.now)
    c.loop-i-test.true c.index-arguments-i.is c.type_of_param-t.ensures c.loop-i.invariant c.in_err-next.field-0.0 c.in_err-next.ensures)

pub check_arguments-loop-i-preserved : goal.check_arguments-loop-i-preserved
check_arguments-loop-i-preserved t c =
    let funs = (core_of c.args.c.now).funs in
    let counts = counts_in funs c.args.marks.now in
    let context = context_in c.args.scope.now in
    arguments-then funs counts context c.args.number c.loop-i.next c.args.arguments.now (leaf_types (tree_of c.args.params.now)) c.loop-i.i c.index-arguments-i.result (type_of c.type_of_param-t.result.now)
    c.loop-i-test.true c.index-arguments-i.is c.type_of_param-t.ensures c.loop-i.invariant c.in_ok-next.next c.in_ok-next.ensures

pub check_arguments-returns : goal.check_arguments-returns
check_arguments-returns t c =
    let funs = (core_of c.args.c.now).funs in
    let counts = counts_in funs c.args.marks.now in
    let context = context_in c.args.scope.now in
    arguments-end funs counts context c.args.number c.loop-i.next c.args.arguments.now (leaf_types (tree_of c.args.params.now)) c.loop-i.i c.loop-i-test.false c.loop-i.invariant

pub check_two-returns-in_err-next : goal.check_two-returns-in_err-next
check_two-returns-in_err-next t c =
    let funs = (core_of c.args.c.now).funs in
    let counts = counts_in funs c.args.marks.now in
    let exit = err_from_is_err_and c.from_residual.result c.from_residual.ensures.1 in
    rw (exit.1, exit.2)
    (finds_first funs counts c.args.number (nodes_of funs counts (context_in c.args.first.now) (term_of c.args.a.now) (type_of c.args.s.now)) (nodes_of funs counts (context_in c.args.second.now) (term_of c.args.b.now) (type_of c.args.t.now))
    (places_of c.args.a.now) (places_of c.args.b.now) c.in_err-next.field-0.0 c.in_err-next.ensures)

pub check_two-check_node-requires-2 : goal.check_two-check_node-requires-2
check_two-check_node-requires-2 t c =
    let funs = (core_of c.args.c.now).funs in
    let counts = counts_in funs c.args.marks.now in
    let left = node_count (term_of c.args.b.now) in
    let fits : c.in_ok-next.next + left < 4294967296 =
    second_fits funs counts c.args.number c.in_ok-next.next left (1 + (node_count (term_of c.args.a.now) + left)) (context_in c.args.first.now) (term_of c.args.a.now) (type_of c.args.s.now) (places_of c.args.a.now)
    c.in_ok-next.ensures (both_fit c.args.number (node_count (term_of c.args.a.now)) left c.requires) refl in
    (search rules, fits)

pub check_two-returns : goal.check_two-returns
check_two-returns t c =
    let funs = (core_of c.args.c.now).funs in
    let counts = counts_in funs c.args.marks.now in
    finds_then funs counts c.args.number c.in_ok-next.next (nodes_of funs counts (context_in c.args.first.now) (term_of c.args.a.now) (type_of c.args.s.now)) (nodes_of funs counts (context_in c.args.second.now) (term_of c.args.b.now) (type_of c.args.t.now))
    (places_of c.args.a.now) (places_of c.args.b.now) c.check_node-2.result (length-places c.args.a.now ∙ sym (length-nodes funs counts (context_in c.args.first.now) (term_of c.args.a.now) (type_of c.args.s.now))) c.in_ok-next.ensures c.check_node-2.ensures

pub check_let-returns : goal.check_let-returns
check_let-returns t c =
    let funs = (core_of c.args.c.now).funs in
    let counts = counts_in funs c.args.marks.now in
    let context = context_in c.args.scope.now in
    let s = type_of c.args.s.now in
    let a = term_of c.args.a.now in
    let known = with_name c.args.x.0 s (place_known c.args.x.0 c.in_ok-placed.placed context.order) context in
    let same : known ≡ with_let funs counts c.args.x.0 s a context = c.in_ok-placed.ensures c.args.x.0 in
    subst (λ (d : Context). Finds funs counts c.args.number (nodes_of funs counts context a s ++ nodes_of funs counts d (term_of c.args.b.now) (type_of c.args.r.now)) (places_of c.args.a.now ++ places_of c.args.b.now) c.check_two.result)
    same c.check_two.ensures

pub check_parts-check_arguments-requires : goal.check_parts-check_arguments-requires
check_parts-check_arguments-requires t c =
    let es = c.in-Call.arguments in
    let whole = ap term_in c.in-Call.is ∙ term_in-call c.in-Call.f c.in-Call.field-1 es in
    let count : node_count (term_in c.args.term.now) ≡ 1 + node_counts (terms_from (map term_of c.deref-in-Call.result.now)) =
    ap node_count whole ∙ ap (λ l. 1 + node_counts (terms_from (map term_of l))) (sym c.deref-in-Call.ensures.value) in
    let fits : c.args.number + node_counts (terms_from (map term_of c.deref-in-Call.result.now)) < 4294967296 =
    rest_fits c.args.number (node_count (term_in c.args.term.now)) (node_counts (terms_from (map term_of c.deref-in-Call.result.now))) count c.requires in
    (search (rules, the_lemmas), fits)

pub check_parts-returns-in-Call : goal.check_parts-returns-in-Call
check_parts-returns-in-Call t c =
    let funs = (core_of c.args.c.now).funs in
    let counts = counts_in funs c.args.marks.now in
    let context = context_in c.args.scope.now in
    let f = c.in-Call.f in
    let ms = c.in-Call.field-1 in
    let es = c.in-Call.arguments in
    let now = c.deref-in-Call.result.now in
    let whole : call_term f (map expr_of ms.items) (terms_from (map term_of now)) ≡ term_in c.args.term.now =
    ap (λ l. call_term f (map expr_of ms.items) (terms_from (map term_of l))) c.deref-in-Call.ensures.value ∙ sym (ap term_in c.in-Call.is ∙ term_in-call f ms es) in
    let places : concat (map places_of now) ≡ places_in c.args.term.now =
    ap (λ l. concat (map places_of l)) c.deref-in-Call.ensures.value ∙ sym (ap places_in c.in-Call.is ∙ places_in-call f ms es) in
    call_found funs counts c.args.number context (term_in c.args.term.now) (type_of c.args.r.now) f (map expr_of ms.items) (terms_from (map term_of now))
    (leaf_types (tree_of c.params_of-params.result.now)) (concat (map places_of now)) (places_in c.args.term.now) c.check_arguments.result whole (ap leaf_types c.params_of-params.ensures) places
    c.check_arguments.ensures

pub check_parts-check_two-requires : goal.check_parts-check_two-requires
check_parts-check_two-requires t c =
    (search (rules, the_lemmas), two_fit c.args.number (term_in c.args.term.now) (par_term (term_of c.in-Par.a.value) (term_of c.in-Par.b.value)) c.deref.result.now c.deref-in-Par.result.now c.in-Par.a.value c.in-Par.b.value c.deref.ensures c.deref-in-Par.ensures (ap term_in c.in-Par.is) refl c.requires)

pub check_parts-returns-in-Par : goal.check_parts-returns-in-Par
check_parts-returns-in-Par t c =
    let funs = (core_of c.args.c.now).funs in
    let counts = counts_in funs c.args.marks.now in
    par_found funs counts c.args.number c.check_two.result (context_in c.args.scope.now) (term_in c.args.term.now) c.deref.result.now c.deref-in-Par.result.now c.in-Par.a.value c.in-Par.b.value (type_of c.args.r.now) (type_of c.par_types.result.0.now) (type_of c.par_types.result.1.now) (places_in c.args.term.now)
    c.deref.ensures c.deref-in-Par.ensures (ap term_in c.in-Par.is) (ap places_in c.in-Par.is) c.par_types.ensures.left c.par_types.ensures.right c.check_two.ensures

pub check_parts-check_two-requires-in-Cat : goal.check_parts-check_two-requires-in-Cat
check_parts-check_two-requires-in-Cat t c =
    (search (rules, the_lemmas), two_fit c.args.number (term_in c.args.term.now) (cat_term (term_of c.in-Cat.a.value) (term_of c.in-Cat.b.value)) c.deref-in-Cat.result.now c.deref-in-Cat-2.result.now c.in-Cat.a.value c.in-Cat.b.value c.deref-in-Cat.ensures c.deref-in-Cat-2.ensures (ap term_in c.in-Cat.is) refl c.requires)

pub check_parts-returns-in-Cat : goal.check_parts-returns-in-Cat
check_parts-returns-in-Cat t c =
    let funs = (core_of c.args.c.now).funs in
    let counts = counts_in funs c.args.marks.now in
    cat_found funs counts c.args.number c.check_two-in-Cat.result (context_in c.args.scope.now) (term_in c.args.term.now) c.deref-in-Cat.result.now c.deref-in-Cat-2.result.now c.in-Cat.a.value c.in-Cat.b.value (type_of c.args.r.now) (type_of c.cat_types.result.0.now) (type_of c.cat_types.result.1.now) (places_in c.args.term.now)
    c.deref-in-Cat.ensures c.deref-in-Cat-2.ensures (ap term_in c.in-Cat.is) (ap places_in c.in-Cat.is) c.cat_types.ensures.first c.cat_types.ensures.second c.check_two-in-Cat.ensures

pub check_parts-check_two-requires-in-Cons : goal.check_parts-check_two-requires-in-Cons
check_parts-check_two-requires-in-Cons t c =
    (search (rules, the_lemmas), two_fit c.args.number (term_in c.args.term.now) (cons_term (term_of c.in-Cons.a.value) (term_of c.in-Cons.b.value)) c.deref-in-Cons.result.now c.deref-in-Cons-2.result.now c.in-Cons.a.value c.in-Cons.b.value c.deref-in-Cons.ensures c.deref-in-Cons-2.ensures (ap term_in c.in-Cons.is) refl c.requires)

pub check_parts-returns-in-Cons : goal.check_parts-returns-in-Cons
check_parts-returns-in-Cons t c =
    let funs = (core_of c.args.c.now).funs in
    let counts = counts_in funs c.args.marks.now in
    cons_found funs counts c.args.number c.check_two-in-Cons.result (context_in c.args.scope.now) (term_in c.args.term.now) c.deref-in-Cons.result.now c.deref-in-Cons-2.result.now c.in-Cons.a.value c.in-Cons.b.value (type_of c.args.r.now) (type_of c.star_types.result.0.now) (type_of c.star_types.result.1.now) (places_in c.args.term.now)
    c.deref-in-Cons.ensures c.deref-in-Cons-2.ensures (ap term_in c.in-Cons.is) (ap places_in c.in-Cons.is) c.star_types.ensures.item c.star_types.ensures.items c.check_two-in-Cons.ensures

pub check_parts-check_node-requires : goal.check_parts-check_node-requires
check_parts-check_node-requires t c =
    (search (rules, the_lemmas), one_fits c.args.number (term_in c.args.term.now) (inl_term (term_of c.in-Inl.a.value)) c.deref-in-Inl.result.now c.in-Inl.a.value c.deref-in-Inl.ensures (ap term_in c.in-Inl.is) refl c.requires)

pub check_parts-returns-in-Inl : goal.check_parts-returns-in-Inl
check_parts-returns-in-Inl t c =
    let funs = (core_of c.args.c.now).funs in
    let counts = counts_in funs c.args.marks.now in
    inl_found funs counts c.args.number c.check_node.result (context_in c.args.scope.now) (term_in c.args.term.now) c.deref-in-Inl.result.now c.in-Inl.a.value (type_of c.args.r.now) (type_of c.sum_types.result.0.now) (places_in c.args.term.now)
    c.deref-in-Inl.ensures (ap term_in c.in-Inl.is) (ap places_in c.in-Inl.is) c.sum_types.ensures.left c.check_node.ensures

pub check_parts-check_node-requires-in-Inr : goal.check_parts-check_node-requires-in-Inr
check_parts-check_node-requires-in-Inr t c =
    (search (rules, the_lemmas), one_fits c.args.number (term_in c.args.term.now) (inr_term (term_of c.in-Inr.a.value)) c.deref-in-Inr.result.now c.in-Inr.a.value c.deref-in-Inr.ensures (ap term_in c.in-Inr.is) refl c.requires)

pub check_parts-returns-in-Inr : goal.check_parts-returns-in-Inr
check_parts-returns-in-Inr t c =
    let funs = (core_of c.args.c.now).funs in
    let counts = counts_in funs c.args.marks.now in
    inr_found funs counts c.args.number c.check_node-in-Inr.result (context_in c.args.scope.now) (term_in c.args.term.now) c.deref-in-Inr.result.now c.in-Inr.a.value (type_of c.args.r.now) (type_of c.sum_types-in-Inr.result.1.now) (places_in c.args.term.now)
    c.deref-in-Inr.ensures (ap term_in c.in-Inr.is) (ap places_in c.in-Inr.is) c.sum_types-in-Inr.ensures.right c.check_node-in-Inr.ensures

pub check_parts-check_let-requires : goal.check_parts-check_let-requires
check_parts-check_let-requires t c =
    (search (rules, the_lemmas), two_fit c.args.number (term_in c.args.term.now) (let_term c.in-Let.x.0 (type_of c.in-Let.s) (term_of c.in-Let.a.value) (term_of c.in-Let.b.value)) c.deref-in-Let.result.now c.deref-in-Let-2.result.now c.in-Let.a.value c.in-Let.b.value c.deref-in-Let.ensures c.deref-in-Let-2.ensures (ap term_in c.in-Let.is) refl c.requires)

pub check_parts-returns-in-Let : goal.check_parts-returns-in-Let
check_parts-returns-in-Let t c =
    let funs = (core_of c.args.c.now).funs in
    let counts = counts_in funs c.args.marks.now in
    let_found funs counts c.args.number c.check_let.result (context_in c.args.scope.now) (term_in c.args.term.now) c.in-Let.x.0 (type_of c.in-Let.s) c.deref-in-Let.result.now c.deref-in-Let-2.result.now c.in-Let.a.value c.in-Let.b.value (type_of c.args.r.now) (places_in c.args.term.now)
    c.deref-in-Let.ensures c.deref-in-Let-2.ensures (ap term_in c.in-Let.is) (ap places_in c.in-Let.is) c.check_let.ensures

pub check_parts-check_node-requires-in-Wait : goal.check_parts-check_node-requires-in-Wait
check_parts-check_node-requires-in-Wait t c =
    (search (rules, the_lemmas), one_fits c.args.number (term_in c.args.term.now) (wait_term c.in-Wait.x.0 (type_of c.in-Wait.field-1) (term_of c.in-Wait.a.value)) c.deref-in-Wait.result.now c.in-Wait.a.value c.deref-in-Wait.ensures (ap term_in c.in-Wait.is) refl c.requires)

pub check_parts-returns-in-Wait : goal.check_parts-returns-in-Wait
check_parts-returns-in-Wait t c =
    let funs = (core_of c.args.c.now).funs in
    let counts = counts_in funs c.args.marks.now in
    wait_found funs counts c.args.number c.check_node-in-Wait.result (context_in c.args.scope.now) (term_in c.args.term.now) c.in-Wait.x.0 (type_of c.in-Wait.field-1) c.deref-in-Wait.result.now c.in-Wait.a.value (type_of c.args.r.now) (places_in c.args.term.now)
    c.deref-in-Wait.ensures (ap term_in c.in-Wait.is) (ap places_in c.in-Wait.is) c.check_node-in-Wait.ensures

pub check_parts-check_node-requires-in-LetPar : goal.check_parts-check_node-requires-in-LetPar
check_parts-check_node-requires-in-LetPar t c =
    (search (rules, the_lemmas), one_fits c.args.number (term_in c.args.term.now) (let_par_term c.in-LetPar.x.0 c.in-LetPar.y.0 c.in-LetPar.z.0 (term_of c.in-LetPar.a.value)) c.deref-in-LetPar.result.now c.in-LetPar.a.value c.deref-in-LetPar.ensures (ap term_in c.in-LetPar.is) refl c.requires)

pub check_parts-returns-in-LetPar : goal.check_parts-returns-in-LetPar
check_parts-returns-in-LetPar t c =
    let funs = (core_of c.args.c.now).funs in
    let counts = counts_in funs c.args.marks.now in
    let_par_found funs counts c.args.number c.check_node-in-LetPar.result (context_in c.args.scope.now) (term_in c.args.term.now) c.in-LetPar.x.0 c.in-LetPar.y.0 c.in-LetPar.z.0 c.deref-in-LetPar.result.now c.in-LetPar.a.value (type_of c.args.r.now) (type_of c.type_or.result.now) (type_of c.par_types-in-LetPar.result.0.now) (type_of c.par_types-in-LetPar.result.1.now) (places_in c.args.term.now)
    c.deref-in-LetPar.ensures (ap term_in c.in-LetPar.is) (ap places_in c.in-LetPar.is) c.type_or.ensures c.par_types-in-LetPar.ensures.left c.par_types-in-LetPar.ensures.right c.check_node-in-LetPar.ensures

pub check_parts-check_node-requires-in-LetCat : goal.check_parts-check_node-requires-in-LetCat
check_parts-check_node-requires-in-LetCat t c =
    (search (rules, the_lemmas), one_fits c.args.number (term_in c.args.term.now) (let_cat_term c.in-LetCat.x.0 c.in-LetCat.y.0 c.in-LetCat.z.0 (term_of c.in-LetCat.a.value)) c.deref-in-LetCat.result.now c.in-LetCat.a.value c.deref-in-LetCat.ensures (ap term_in c.in-LetCat.is) refl c.requires)

pub check_parts-returns-in-LetCat : goal.check_parts-returns-in-LetCat
check_parts-returns-in-LetCat t c =
    let funs = (core_of c.args.c.now).funs in
    let counts = counts_in funs c.args.marks.now in
    let_cat_found funs counts c.args.number c.check_node-in-LetCat.result (context_in c.args.scope.now) (term_in c.args.term.now) c.in-LetCat.x.0 c.in-LetCat.y.0 c.in-LetCat.z.0 c.deref-in-LetCat.result.now c.in-LetCat.a.value (type_of c.args.r.now) (type_of c.type_or-in-LetCat.result.now) (type_of c.cat_types-in-LetCat.result.0.now) (type_of c.cat_types-in-LetCat.result.1.now) (places_in c.args.term.now)
    c.deref-in-LetCat.ensures (ap term_in c.in-LetCat.is) (ap places_in c.in-LetCat.is) c.type_or-in-LetCat.ensures c.cat_types-in-LetCat.ensures.first c.cat_types-in-LetCat.ensures.second c.check_node-in-LetCat.ensures

pub check_parts-check_two-requires-in-CaseSum : goal.check_parts-check_two-requires-in-CaseSum
check_parts-check_two-requires-in-CaseSum t c =
    (search (rules, the_lemmas), two_fit c.args.number (term_in c.args.term.now) (case_sum_term c.in-CaseSum.z.0 (type_of c.in-CaseSum.field-1) c.in-CaseSum.x.0 (term_of c.in-CaseSum.a.value) c.in-CaseSum.y.0 (term_of c.in-CaseSum.b.value)) c.deref-in-CaseSum.result.now c.deref-in-CaseSum-2.result.now c.in-CaseSum.a.value c.in-CaseSum.b.value c.deref-in-CaseSum.ensures c.deref-in-CaseSum-2.ensures (ap term_in c.in-CaseSum.is) refl c.requires)

pub check_parts-returns-in-CaseSum : goal.check_parts-returns-in-CaseSum
check_parts-returns-in-CaseSum t c =
    let funs = (core_of c.args.c.now).funs in
    let counts = counts_in funs c.args.marks.now in
    case_sum_found funs counts c.args.number c.check_two-in-CaseSum.result (context_in c.args.scope.now) (term_in c.args.term.now) c.in-CaseSum.z.0 (type_of c.in-CaseSum.field-1) c.in-CaseSum.x.0 c.in-CaseSum.y.0 c.deref-in-CaseSum.result.now c.deref-in-CaseSum-2.result.now c.in-CaseSum.a.value c.in-CaseSum.b.value (type_of c.args.r.now) (type_of c.type_or-in-CaseSum.result.now) (type_of c.sum_types-in-CaseSum.result.0.now) (type_of c.sum_types-in-CaseSum.result.1.now) (places_in c.args.term.now)
    c.deref-in-CaseSum.ensures c.deref-in-CaseSum-2.ensures (ap term_in c.in-CaseSum.is) (ap places_in c.in-CaseSum.is) c.type_or-in-CaseSum.ensures c.sum_types-in-CaseSum.ensures.left c.sum_types-in-CaseSum.ensures.right c.check_two-in-CaseSum.ensures

pub check_parts-check_two-requires-in-CaseStar : goal.check_parts-check_two-requires-in-CaseStar
check_parts-check_two-requires-in-CaseStar t c =
    (search (rules, the_lemmas), two_fit c.args.number (term_in c.args.term.now) (case_star_term c.in-CaseStar.z.0 (type_of c.in-CaseStar.field-1) (term_of c.in-CaseStar.a.value) c.in-CaseStar.y.0 c.in-CaseStar.ys.0 (term_of c.in-CaseStar.b.value)) c.deref-in-CaseStar.result.now c.deref-in-CaseStar-2.result.now c.in-CaseStar.a.value c.in-CaseStar.b.value c.deref-in-CaseStar.ensures c.deref-in-CaseStar-2.ensures (ap term_in c.in-CaseStar.is) refl c.requires)

pub check_parts-returns-in-CaseStar : goal.check_parts-returns-in-CaseStar
check_parts-returns-in-CaseStar t c =
    let funs = (core_of c.args.c.now).funs in
    let counts = counts_in funs c.args.marks.now in
    case_star_found funs counts c.args.number c.check_two-in-CaseStar.result (context_in c.args.scope.now) (term_in c.args.term.now) c.in-CaseStar.z.0 (type_of c.in-CaseStar.field-1) c.in-CaseStar.y.0 c.in-CaseStar.ys.0 c.deref-in-CaseStar.result.now c.deref-in-CaseStar-2.result.now c.in-CaseStar.a.value c.in-CaseStar.b.value (type_of c.args.r.now) (type_of c.type_or-in-CaseStar.result.now) (type_of c.star_types-in-CaseStar.result.0.now) (type_of c.star_types-in-CaseStar.result.1.now) (places_in c.args.term.now)
    c.deref-in-CaseStar.ensures c.deref-in-CaseStar-2.ensures (ap term_in c.in-CaseStar.is) (ap places_in c.in-CaseStar.is) c.type_or-in-CaseStar.ensures c.star_types-in-CaseStar.ensures.item c.star_types-in-CaseStar.ensures.items c.check_two-in-CaseStar.ensures

pub check_parts-par_types-requires : goal.check_parts-par_types-requires
check_parts-par_types-requires t c =
    refl

pub check_parts-cat_types-requires : goal.check_parts-cat_types-requires
check_parts-cat_types-requires t c =
    refl

pub check_parts-star_types-requires : goal.check_parts-star_types-requires
check_parts-star_types-requires t c =
    refl

pub check_parts-sum_types-requires : goal.check_parts-sum_types-requires
check_parts-sum_types-requires t c =
    refl

pub check_parts-sum_types-requires-in-Inr : goal.check_parts-sum_types-requires-in-Inr
check_parts-sum_types-requires-in-Inr t c =
    refl

pub check_parts-type_or-requires : goal.check_parts-type_or-requires
check_parts-type_or-requires t c =
    refl

pub check_parts-par_types-requires-in-LetPar : goal.check_parts-par_types-requires-in-LetPar
check_parts-par_types-requires-in-LetPar t c =
    refl

pub check_parts-type_or-requires-in-LetCat : goal.check_parts-type_or-requires-in-LetCat
check_parts-type_or-requires-in-LetCat t c =
    refl

pub check_parts-cat_types-requires-in-LetCat : goal.check_parts-cat_types-requires-in-LetCat
check_parts-cat_types-requires-in-LetCat t c =
    refl

pub check_parts-type_or-requires-in-CaseSum : goal.check_parts-type_or-requires-in-CaseSum
check_parts-type_or-requires-in-CaseSum t c =
    refl

pub check_parts-sum_types-requires-in-CaseSum : goal.check_parts-sum_types-requires-in-CaseSum
check_parts-sum_types-requires-in-CaseSum t c =
    refl

pub check_parts-type_or-requires-in-CaseStar : goal.check_parts-type_or-requires-in-CaseStar
check_parts-type_or-requires-in-CaseStar t c =
    refl

pub check_parts-star_types-requires-in-CaseStar : goal.check_parts-star_types-requires-in-CaseStar
check_parts-star_types-requires-in-CaseStar t c =
    refl

pub check_parts-params_of-params-requires : goal.check_parts-params_of-params-requires
check_parts-params_of-params-requires t c =
    refl

pub check_let-check_two-requires : goal.check_let-check_two-requires
check_let-check_two-requires t c =
    (search rules, c.requires)

pub check_two-check_node-requires : goal.check_two-check_node-requires
check_two-check_node-requires t c =
    (search rules, first_fits c.args.number (node_count (term_of c.args.a.now)) (node_count (term_of c.args.b.now)) c.requires)

pub check_arguments-loop-i-init : goal.check_arguments-loop-i-init
check_arguments-loop-i-init t c =
    let funs = (core_of c.args.c.now).funs in
    let counts = counts_in funs c.args.marks.now in
    let context = context_in c.args.scope.now in
    arguments-init funs counts context c.args.number c.args.arguments.now (leaf_types (tree_of c.args.params.now))

pub check_arguments-type_of_param-t-requires : goal.check_arguments-type_of_param-t-requires
check_arguments-type_of_param-t-requires t c =
    refl

pub check_arguments-bounds-arguments-i : goal.check_arguments-bounds-arguments-i
check_arguments-bounds-arguments-i t c =
    c.loop-i-test.true

pub check_parts-returns-in-Var : goal.check_parts-returns-in-Var
check_parts-returns-in-Var t c =
    let funs = (core_of c.args.c.now).funs in
    let counts = counts_in funs c.args.marks.now in
    let context = context_in c.args.scope.now in
    none_found funs counts c.args.number (parts_of (nodes_of funs counts context (term_in c.args.term.now) (type_of c.args.r.now))) (places_in c.args.term.now)
    (no_parts funs counts context (type_of c.args.r.now) c.args.term.now c.in-Var.is)
