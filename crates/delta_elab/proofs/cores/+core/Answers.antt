-- Cores by those of their parts: forms that bind names, calls, where the rows of arguments are lists, and the arguments
-- of a call, one after the other.
use Rattle.std.proofs.Common.{◌≡◌, ℕ, List, [], ◌∷◌, ◌++◌, length, map, Some, None, ap, ap₂, sym, subst, length-append, ◌+◌, ◌∙◌, IfOk, OnOk}
use Rattle.std.specs.List.{concat}
use Rattle.std.specs.declared.vec.Vec.{Vec}
use Rattle.std.specs.declared.alloc.Global.{Global}
use Rattle.bunch.specs.declared.name.Name.{Name}
use Rattle.bunch.specs.Names.{put}
use Rattle.stream_type.specs.StreamType.{type_of, eps, one, sum}
use Rattle.hist_value.specs.HistExpr.{expr_of}
use Rattle.delta_tree.specs.declared.expressions.Exp.{Exp}
use Rattle.delta_tree.specs.declared.expressions.Hist.{Hist}
use Rattle.delta_tree.specs.declared.expressions.Form.{Form}
use Rattle.delta_tree.specs.declared.expressions.Form.TheVariants.{Call}
use Rattle.delta_tree.specs.declared.expressions.HeadForm.{HeadForm}
use Rattle.delta_tree.specs.declared.expressions.HeadForm.TheVariants.{Call as HeadCall}
use Rattle.delta_tree.specs.SyntaxTree.{Expression, typed_at, let_at, let_par_at, let_cat_at, case_sum_at, case_star_at, wait_at, if_at, call_at, Head, call_head}
use Rattle.delta_tree.specs.Tree.{type_tree_of, hist_of, expression_of, head_of, expressions_of, expression_form_of, head_form_of}
use Rattle.delta_tree.proofs.Rows.{expression_form_of-call, head_form_of-call}
use Rattle.core_term.specs.CoreTerm.{term_of, places_of, past_term, let_term, case_sum_term, wait_term}
use Rattle.core_term.specs.Parts.{par_left, par_right, cat_first, cat_second, sum_left, sum_right, star_item, star_items}
use Rattle.delta_meaning.specs.KnownTypes.{names_known}
use Rattle.delta_meaning.specs.SourceBody.{function_named, number_named}
use Rattle.delta_meaning.specs.NewNames.{new_in_expr, new_in_exprs, new_in, new_in_head, new_in_subject, new_in_arguments}
use Rattle.delta_meaning.specs.NodePlaces.{node_places, head_places, subject_places, argument_places}
use Rattle.delta_meaning.specs.Elaboration.{numbered_expr, core_at}
use Rattle.delta_elab.specs.Numbering.{origins_of, numbers_in, name_types_in}
use Rattle.delta_elab.specs.Sources.{sources_of, param_types}
use Rattle.delta_elab.specs.Subjects.{core_in, head_in, bound_of, bound_places, rounded}
use Rattle.delta_elab.specs.Wanted.{wanted_of}
use Rattle.delta_elab.proofs.Numbered.{is_made, on_ok, then_more, same₃}
use Rattle.delta_elab.proofs.CoresMade.{core-next, typed-core, let-core, let_par-core, let_cat-core, case_sum-core, case_star-core, if-core}
use Rattle.delta_elab.proofs.ArgumentsInTurn.{places-next, variables-next, cores-next, cores-end}
use Rattle.delta_elab.proofs.cores.+core.Goals as goal

-- a call whose arguments stand in slices
call_read : (at : ℕ) (form : Form) (f : Name) (ms : Vec Hist Global) (es : Vec Exp Global) (past : List Hist) (arguments : List Exp)
    → form ≡ Call f ms es → past ≡ ms.items → arguments ≡ es.items
    → call_at at f.0 (map hist_of past) (expressions_of arguments) ≡ expression_form_of at form
call_read at form f ms es past arguments i p q = rw (i, p, q) (sym (expression_form_of-call at f ms es))

-- the same of a head
head_read : (at : ℕ) (form : HeadForm) (f : Name) (ms : Vec Hist Global) (es : Vec Exp Global) (past : List Hist) (arguments : List Exp)
    → form ≡ HeadCall f ms es → past ≡ ms.items → arguments ≡ es.items
    → call_head at f.0 (map hist_of past) (expressions_of arguments) ≡ head_form_of at form
head_read at form f ms es past arguments i p q = rw (i, p, q) (sym (head_form_of-call at f ms es))

pub core-returns-in-Call-clause-term : goal.core-returns-in-Call-clause-term
core-returns-in-Call-clause-term t c =
    let read : call_at c.args.e.now.at c.in-Call.f.0 (map hist_of c.deref-in-Call.result.now) (expressions_of c.deref-in-Call-2.result.now) ≡ expression_of c.args.e.now =
    call_read _ _ c.in-Call.f c.in-Call.past c.in-Call.es _ _ (sym c.deref.ensures ∙ c.in-Call.is) (cc c.deref-in-Call.ensures.value) (cc c.deref-in-Call-2.ensures.value) in
    let P : Expression → Type 0 = λ e. IfOk c.call.result (λ n. term_of n.value ≡ core_in c.args.setting.now c.args.scope.now e (wanted_of c.args.r) (length (origins_of c.args.origins.now.items))) in
    subst P read c.call.ensures.term

pub core-returns-in-Call-clause-places : goal.core-returns-in-Call-clause-places
core-returns-in-Call-clause-places t c =
    let read : call_at c.args.e.now.at c.in-Call.f.0 (map hist_of c.deref-in-Call.result.now) (expressions_of c.deref-in-Call-2.result.now) ≡ expression_of c.args.e.now =
    call_read _ _ c.in-Call.f c.in-Call.past c.in-Call.es _ _ (sym c.deref.ensures ∙ c.in-Call.is) (cc c.deref-in-Call.ensures.value) (cc c.deref-in-Call-2.ensures.value) in
    let P : Expression → Type 0 = λ e. IfOk c.call.result (λ n. places_of n.value ≡ node_places e) in
    subst P read c.call.ensures.places

pub core-returns-in-Call-clause-next : goal.core-returns-in-Call-clause-next
core-returns-in-Call-clause-next t c =
    let read : call_at c.args.e.now.at c.in-Call.f.0 (map hist_of c.deref-in-Call.result.now) (expressions_of c.deref-in-Call-2.result.now) ≡ expression_of c.args.e.now =
    call_read _ _ c.in-Call.f c.in-Call.past c.in-Call.es _ _ (sym c.deref.ensures ∙ c.in-Call.is) (cc c.deref-in-Call.ensures.value) (cc c.deref-in-Call-2.ensures.value) in
    let P : Expression → Type 0 = λ e. OnOk c.call.result (origins_of c.call.new.origins.items ≡ origins_of c.args.origins.now.items ++ new_in e) in
    subst P read c.call.ensures.next

pub head-returns-in-Call-clause-term : goal.head-returns-in-Call-clause-term
head-returns-in-Call-clause-term t c =
    let read : call_head c.args.h.now.at c.in-Call.f.0 (map hist_of c.deref-in-Call.result.now) (expressions_of c.deref-in-Call-2.result.now) ≡ head_of c.args.h.now =
    head_read _ _ c.in-Call.f c.in-Call.past c.in-Call.es _ _ (sym c.deref.ensures ∙ c.in-Call.is) (cc c.deref-in-Call.ensures.value) (cc c.deref-in-Call-2.ensures.value) in
    let P : Head → Type 0 = λ h. IfOk c.call.result (λ n. term_of n.value ≡ head_in c.args.setting.now c.args.scope.now h (length (origins_of c.args.origins.now.items))) in
    subst P read c.call.ensures.term

pub head-returns-in-Call-clause-places : goal.head-returns-in-Call-clause-places
head-returns-in-Call-clause-places t c =
    let read : call_head c.args.h.now.at c.in-Call.f.0 (map hist_of c.deref-in-Call.result.now) (expressions_of c.deref-in-Call-2.result.now) ≡ head_of c.args.h.now =
    head_read _ _ c.in-Call.f c.in-Call.past c.in-Call.es _ _ (sym c.deref.ensures ∙ c.in-Call.is) (cc c.deref-in-Call.ensures.value) (cc c.deref-in-Call-2.ensures.value) in
    let P : Head → Type 0 = λ h. IfOk c.call.result (λ n. places_of n.value ≡ head_places h) in
    subst P read c.call.ensures.places

pub head-returns-in-Call-clause-next : goal.head-returns-in-Call-clause-next
head-returns-in-Call-clause-next t c =
    let read : call_head c.args.h.now.at c.in-Call.f.0 (map hist_of c.deref-in-Call.result.now) (expressions_of c.deref-in-Call-2.result.now) ≡ head_of c.args.h.now =
    head_read _ _ c.in-Call.f c.in-Call.past c.in-Call.es _ _ (sym c.deref.ensures ∙ c.in-Call.is) (cc c.deref-in-Call.ensures.value) (cc c.deref-in-Call-2.ensures.value) in
    let P : Head → Type 0 = λ h. OnOk c.call.result (origins_of c.call.new.origins.items ≡ origins_of c.args.origins.now.items ++ new_in_head h) in
    subst P read c.call.ensures.next

pub arguments-loop-i-preserved : goal.arguments-loop-i-preserved
arguments-loop-i-preserved t c =
    let bs = sources_of c.args.setting.now.functions.now in
    let scope = c.args.scope.now in
    let ts = param_types c.args.function in
    let e = c.index-es-i.result in
    let after = origins_of c.core.new.origins.items in
    let typed = c.in_ok-core.ensures.term ∙ ap (λ r. core_in c.args.setting.now scope (expression_of e) r (length (origins_of c.loop-i.origins.items))) c.param_type-r.ensures in
    let count : length after ≡ length (origins_of c.loop-i.origins.items) + length (new_in (expression_of e)) = ap length c.in_ok-core.ensures.next ∙ length-append _ _ in
    rw (c.in_ok-push.ensures.items, c.into_inner.ensures) (
      cores-next (function_named bs) (number_named bs) (names_known c.args.setting.now.known.now) (numbers_in scope) (name_types_in scope) c.args.es.now ts c.loop-i.i e c.loop-i.cores.items c.in_ok-core.field-0.value _ _ _
          c.loop-i-test.true c.index-es-i.is c.loop-i.invariant.0 typed count,
      places-next c.args.es.now c.loop-i.i e c.loop-i-test.true c.index-es-i.is c.loop-i.cores.items c.in_ok-core.field-0.value _ c.loop-i.invariant.1 c.in_ok-core.ensures.places,
      variables-next c.args.es.now c.loop-i.i e c.loop-i-test.true c.index-es-i.is (origins_of c.loop-i.origins.items) after _ c.loop-i.invariant.2 c.in_ok-core.ensures.next,
    )

pub arguments-returns-clause-terms : goal.arguments-returns-clause-terms
arguments-returns-clause-terms t c =
    let bs = sources_of c.args.setting.now.functions.now in
    let scope = c.args.scope.now in
    cores-end (function_named bs) (number_named bs) (names_known c.args.setting.now.known.now) (numbers_in scope) (name_types_in scope) c.args.es.now (param_types c.args.function) c.loop-i.i c.loop-i.cores.items _ _ c.loop-i-test.false
    c.loop-i.invariant.0

-- an expression after another
pub both-returns-clause-right : goal.both-returns-clause-right
both-returns-clause-right t c =
    let bs = sources_of c.args.setting.now.functions.now in
    let numbers = numbers_in c.args.scope.now in
    let types = name_types_in c.args.scope.now in
    let first = origins_of c.args.origins.now.items in
    let second = origins_of c.core.new.origins.items in
    core-next (function_named bs) (number_named bs) (names_known c.args.setting.now.known.now) numbers types (expression_of c.args.a.now) (expression_of c.args.b.now) (wanted_of c.args.s) first second (term_of c.in_ok-core.field-0.value)
    c.in_ok-a.ensures.next c.in_ok-core.ensures.term

pub both-returns-clause-places : goal.both-returns-clause-places
both-returns-clause-places t c =
    ap₂ (λ p q. p ++ q) c.in_ok-a.ensures.places c.in_ok-core.ensures.places

pub both-returns-clause-next : goal.both-returns-clause-next
both-returns-clause-next t c =
    then_more (origins_of c.args.origins.now.items) (origins_of c.core.new.origins.items) (origins_of c.core-2.new.origins.items) (new_in (expression_of c.args.a.now)) (new_in (expression_of c.args.b.now))
    c.in_ok-a.ensures.next c.in_ok-core.ensures.next

-- a call
pub call-returns-clause-places : goal.call-returns-clause-places
call-returns-clause-places t c =
    is_made c.call_node.result (λ n. places_of n.value) (c.args.at ∷ concat (map places_of c.in_ok-es.es.items)) (c.args.at ∷ argument_places (expressions_of c.args.es.now))
    (ap (λ l. c.args.at ∷ l) c.in_ok-es.ensures.places) c.call_node.ensures.places

pub call-returns-clause-next : goal.call-returns-clause-next
call-returns-clause-next t c =
    on_ok _ c.call_node.result (then_more (origins_of c.args.origins.now.items) (origins_of c.all_numbered.new.origins.items) (origins_of c.arguments.new.origins.items)
    (new_in_exprs (map hist_of c.args.past.now)) (new_in_arguments (expressions_of c.args.es.now)) c.in_ok-past.ensures.next c.in_ok-es.ensures.next)

-- an expression with its type
pub core_of_typed-returns-clause-term : goal.core_of_typed-returns-clause-term
core_of_typed-returns-clause-term t c =
    let bs = sources_of c.args.setting.now.functions.now in
    let numbers = numbers_in c.args.scope.now in
    let types = name_types_in c.args.scope.now in
    let first = origins_of c.args.origins.now.items in
    let second = origins_of c.added.new.origins.items in
    let s = type_of c.deref.result.now in
    let z = c.in_ok-z.z.0 in
    let a = term_of c.in_ok-a.a.value in
    let e = expression_of c.args.a.now in
    let w = type_tree_of c.args.s.now in
    is_made c.node-2.result (λ n. term_of n.value) (let_term z (type_of c.into_inner.result) a (term_of c.in_ok-whole.whole.value)) (core_in c.args.setting.now c.args.scope.now (typed_at c.args.at e w) eps (length first))
    (ap₂ (λ k b. let_term z k a b) (ap type_of (c.into_inner.ensures ∙ sym c.deref.ensures)) c.in_ok-whole.ensures.term
    ∙ typed-core (function_named bs) (number_named bs) (names_known c.args.setting.now.known.now) numbers types c.args.at e w eps s z first second a c.in_ok-z.ensures.next c.in_ok-z.ensures.number (ap type_of c.deref.ensures ∙ c.in_ok-s.ensures) c.in_ok-a.ensures.term)
    c.node-2.ensures.term

pub core_of_typed-returns-clause-places : goal.core_of_typed-returns-clause-places
core_of_typed-returns-clause-places t c =
    is_made c.node-2.result (λ n. places_of n.value) (c.args.at ∷ (places_of c.in_ok-a.a.value ++ places_of c.in_ok-whole.whole.value)) (c.args.at ∷ (node_places (expression_of c.args.a.now) ++ (c.args.at ∷ [])))
    (ap₂ (λ p q. c.args.at ∷ (p ++ q)) c.in_ok-a.ensures.places c.in_ok-whole.ensures.places) c.node-2.ensures.places

pub core_of_typed-returns-clause-next : goal.core_of_typed-returns-clause-next
core_of_typed-returns-clause-next t c =
    on_ok _ c.node-2.result (then_more (origins_of c.args.origins.now.items) (origins_of c.added.new.origins.items) (origins_of c.core.new.origins.items) (None ∷ []) (new_in (expression_of c.args.a.now))
    c.in_ok-z.ensures.next c.in_ok-a.ensures.next)

-- a `let` of a name
pub core_of_let-returns-clause-term : goal.core_of_let-returns-clause-term
core_of_let-returns-clause-term t c =
    let bs = sources_of c.args.setting.now.functions.now in
    let numbers = numbers_in c.args.scope.now in
    let types = name_types_in c.args.scope.now in
    let first = origins_of c.args.origins.now.items in
    let second = origins_of c.named.new.origins.items in
    let third = origins_of c.head.new.origins.items in
    let s = type_of c.deref.result.now in
    let n = c.in_ok-n.n.0 in
    let a = term_of c.in_ok-a.a.value in
    let b = term_of c.in_ok-b.b.value in
    let h = head_of c.args.h.now in
    let e = expression_of c.args.b.now in
    is_made c.node.result (λ n. term_of n.value) (let_term n (type_of c.into_inner.result) a b) (core_in c.args.setting.now c.args.scope.now (let_at c.args.at c.args.x.0 h e) (wanted_of c.args.r) (length first))
    (ap (λ k. let_term n k a b) (ap type_of (c.into_inner.ensures ∙ sym c.deref.ensures))
    ∙ let-core (function_named bs) (number_named bs) (names_known c.args.setting.now.known.now) numbers types c.args.at c.args.x.0 h e (wanted_of c.args.r) s n first second third a b
    c.in_ok-n.ensures.next c.in_ok-a.ensures.next c.in_ok-n.ensures.number (ap type_of c.deref.ensures ∙ c.in_ok-s.ensures) c.in_ok-a.ensures.term c.in_ok-b.ensures.term)
    c.node.ensures.term

pub core_of_let-returns-clause-places : goal.core_of_let-returns-clause-places
core_of_let-returns-clause-places t c =
    is_made c.node.result (λ n. places_of n.value) (c.args.at ∷ (places_of c.in_ok-a.a.value ++ places_of c.in_ok-b.b.value)) (c.args.at ∷ (head_places (head_of c.args.h.now) ++ node_places (expression_of c.args.b.now)))
    (ap₂ (λ p q. c.args.at ∷ (p ++ q)) c.in_ok-a.ensures.places c.in_ok-b.ensures.places) c.node.ensures.places

pub core_of_let-returns-clause-next : goal.core_of_let-returns-clause-next
core_of_let-returns-clause-next t c =
    let first = origins_of c.args.origins.now.items in
    let second = origins_of c.named.new.origins.items in
    let third = origins_of c.head.new.origins.items in
    let last = origins_of c.core.new.origins.items in
    let h = new_in_head (head_of c.args.h.now) in
    let e = new_in (expression_of c.args.b.now) in
    on_ok _ c.node.result (then_more first second last (Some c.args.x.0 ∷ []) (h ++ e) c.in_ok-n.ensures.next (then_more second third last h e c.in_ok-a.ensures.next c.in_ok-b.ensures.next))

-- a `let` of two names at once
pub core_of_let_par-returns-clause-term : goal.core_of_let_par-returns-clause-term
core_of_let_par-returns-clause-term t c =
    let bs = sources_of c.args.setting.now.functions.now in
    let numbers = numbers_in c.args.scope.now in
    let types = name_types_in c.args.scope.now in
    let first = origins_of c.args.origins.now.items in
    let second = origins_of c.named.new.origins.items in
    let third = origins_of c.named-2.new.origins.items in
    let fourth = origins_of c.subject.new.origins.items in
    let s = type_of c.in_ok-s.s.value in
    let n = c.in_ok-n.n.0 in
    let m = c.in_ok-m.m.0 in
    let z = c.in_ok-z.z.name.0 in
    let bound = bound_of c.in_ok-z.z.bound in
    let b = term_of c.in_ok-b.b.value in
    let h = head_of c.args.h.now in
    let e = expression_of c.args.b.now in
    is_made c.enclosed.result (λ n. term_of n.value) (rounded bound z s (term_of c.in_ok-form.form.value)) (core_in c.args.setting.now c.args.scope.now (let_par_at c.args.at c.args.x.0 c.args.y.0 h e) (wanted_of c.args.r) (length first))
    (ap (rounded bound z s) c.in_ok-form.ensures.term
    ∙ let_par-core (function_named bs) (number_named bs) (names_known c.args.setting.now.known.now) numbers types c.args.at c.args.x.0 c.args.y.0 h e (wanted_of c.args.r) s (wanted_of c.par_left.result) (wanted_of c.par_right.result) n m z first second third fourth bound b
    c.in_ok-n.ensures.next c.in_ok-m.ensures.next c.in_ok-z.ensures.next c.in_ok-n.ensures.number c.in_ok-m.ensures.number c.in_ok-s.ensures c.in_ok-z.ensures.name c.in_ok-z.ensures.bound c.in_ok-b.ensures.term
    (c.par_left.ensures ∙ ap (λ u. par_left (type_of u)) c.deref.ensures) (c.par_right.ensures ∙ ap (λ u. par_right (type_of u)) c.deref-2.ensures))
    c.enclosed.ensures.term

pub core_of_let_par-returns-clause-places : goal.core_of_let_par-returns-clause-places
core_of_let_par-returns-clause-places t c =
    is_made c.enclosed.result (λ n. places_of n.value) (bound_places c.args.h.now.at c.in_ok-z.z.bound ++ places_of c.in_ok-form.form.value) (subject_places (head_of c.args.h.now) ++ (c.args.at ∷ node_places (expression_of c.args.b.now)))
    (ap₂ (λ p q. p ++ q) c.in_ok-z.ensures.places (c.in_ok-form.ensures.places ∙ ap (λ l. c.args.at ∷ l) c.in_ok-b.ensures.places)) c.enclosed.ensures.places

pub core_of_let_par-returns-clause-next : goal.core_of_let_par-returns-clause-next
core_of_let_par-returns-clause-next t c =
    let first = origins_of c.args.origins.now.items in
    let second = origins_of c.named.new.origins.items in
    let third = origins_of c.named-2.new.origins.items in
    let fourth = origins_of c.subject.new.origins.items in
    let last = origins_of c.core.new.origins.items in
    let h = new_in_subject (head_of c.args.h.now) in
    let e = new_in (expression_of c.args.b.now) in
    let x = Some c.args.x.0 in
    let y = Some c.args.y.0 in
    on_ok _ c.enclosed.result
    (then_more first second last (x ∷ []) (y ∷ (h ++ e)) c.in_ok-n.ensures.next
    (then_more second third last (y ∷ []) (h ++ e) c.in_ok-m.ensures.next
    (then_more third fourth last h e c.in_ok-z.ensures.next c.in_ok-b.ensures.next)))

-- a `let` of two names in a row
pub core_of_let_cat-returns-clause-term : goal.core_of_let_cat-returns-clause-term
core_of_let_cat-returns-clause-term t c =
    let bs = sources_of c.args.setting.now.functions.now in
    let numbers = numbers_in c.args.scope.now in
    let types = name_types_in c.args.scope.now in
    let first = origins_of c.args.origins.now.items in
    let second = origins_of c.named.new.origins.items in
    let third = origins_of c.named-2.new.origins.items in
    let fourth = origins_of c.subject.new.origins.items in
    let s = type_of c.in_ok-s.s.value in
    let n = c.in_ok-n.n.0 in
    let m = c.in_ok-m.m.0 in
    let z = c.in_ok-z.z.name.0 in
    let bound = bound_of c.in_ok-z.z.bound in
    let b = term_of c.in_ok-b.b.value in
    let h = head_of c.args.h.now in
    let e = expression_of c.args.b.now in
    is_made c.enclosed.result (λ n. term_of n.value) (rounded bound z s (term_of c.in_ok-form.form.value)) (core_in c.args.setting.now c.args.scope.now (let_cat_at c.args.at c.args.x.0 c.args.y.0 h e) (wanted_of c.args.r) (length first))
    (ap (rounded bound z s) c.in_ok-form.ensures.term
    ∙ let_cat-core (function_named bs) (number_named bs) (names_known c.args.setting.now.known.now) numbers types c.args.at c.args.x.0 c.args.y.0 h e (wanted_of c.args.r) s (wanted_of c.cat_first.result) (wanted_of c.cat_second.result) n m z first second third fourth bound b
    c.in_ok-n.ensures.next c.in_ok-m.ensures.next c.in_ok-z.ensures.next c.in_ok-n.ensures.number c.in_ok-m.ensures.number c.in_ok-s.ensures c.in_ok-z.ensures.name c.in_ok-z.ensures.bound c.in_ok-b.ensures.term
    (c.cat_first.ensures ∙ ap (λ u. cat_first (type_of u)) c.deref.ensures) (c.cat_second.ensures ∙ ap (λ u. cat_second (type_of u)) c.deref-2.ensures))
    c.enclosed.ensures.term

pub core_of_let_cat-returns-clause-places : goal.core_of_let_cat-returns-clause-places
core_of_let_cat-returns-clause-places t c =
    is_made c.enclosed.result (λ n. places_of n.value) (bound_places c.args.h.now.at c.in_ok-z.z.bound ++ places_of c.in_ok-form.form.value) (subject_places (head_of c.args.h.now) ++ (c.args.at ∷ node_places (expression_of c.args.b.now)))
    (ap₂ (λ p q. p ++ q) c.in_ok-z.ensures.places (c.in_ok-form.ensures.places ∙ ap (λ l. c.args.at ∷ l) c.in_ok-b.ensures.places)) c.enclosed.ensures.places

pub core_of_let_cat-returns-clause-next : goal.core_of_let_cat-returns-clause-next
core_of_let_cat-returns-clause-next t c =
    let first = origins_of c.args.origins.now.items in
    let second = origins_of c.named.new.origins.items in
    let third = origins_of c.named-2.new.origins.items in
    let fourth = origins_of c.subject.new.origins.items in
    let last = origins_of c.core.new.origins.items in
    let h = new_in_subject (head_of c.args.h.now) in
    let e = new_in (expression_of c.args.b.now) in
    let x = Some c.args.x.0 in
    let y = Some c.args.y.0 in
    on_ok _ c.enclosed.result
    (then_more first second last (x ∷ []) (y ∷ (h ++ e)) c.in_ok-n.ensures.next
    (then_more second third last (y ∷ []) (h ++ e) c.in_ok-m.ensures.next
    (then_more third fourth last h e c.in_ok-z.ensures.next c.in_ok-b.ensures.next)))

-- a case on a sum
pub core_of_case_sum-returns-clause-term : goal.core_of_case_sum-returns-clause-term
core_of_case_sum-returns-clause-term t c =
    let bs = sources_of c.args.setting.now.functions.now in
    let numbers = numbers_in c.args.scope.now in
    let types = name_types_in c.args.scope.now in
    let first = origins_of c.args.origins.now.items in
    let second = origins_of c.subject.new.origins.items in
    let third = origins_of c.named.new.origins.items in
    let fourth = origins_of c.core.new.origins.items in
    let fifth = origins_of c.named-2.new.origins.items in
    let s = type_of c.in_ok-s.s.value in
    let n = c.in_ok-n.n.0 in
    let m = c.in_ok-m.m.0 in
    let z = c.in_ok-z.z.name.0 in
    let bound = bound_of c.in_ok-z.z.bound in
    let h = head_of c.args.h.now in
    is_made c.enclosed.result (λ n. term_of n.value) (rounded bound z s (term_of c.in_ok-form.form.value)) (core_in c.args.setting.now c.args.scope.now (case_sum_at c.args.at h c.args.x.0 (expression_of c.args.a.now) c.args.y.0 (expression_of c.args.b.now)) (wanted_of c.args.r) (length first))
    (ap (rounded bound z s) c.in_ok-form.ensures.term
    ∙ case_sum-core (function_named bs) (number_named bs) (names_known c.args.setting.now.known.now) numbers types c.args.at c.args.x.0 c.args.y.0 h (expression_of c.args.a.now) (expression_of c.args.b.now) (wanted_of c.args.r) s (wanted_of c.sum_left.result) (wanted_of c.sum_right.result) z n m
    first second third fourth fifth bound (term_of c.in_ok-a.a.value) (term_of c.in_ok-b.b.value)
    c.in_ok-z.ensures.next c.in_ok-n.ensures.next c.in_ok-a.ensures.next c.in_ok-m.ensures.next c.in_ok-s.ensures c.in_ok-z.ensures.name c.in_ok-z.ensures.bound
    c.in_ok-n.ensures.number (c.sum_left.ensures ∙ ap (λ u. sum_left (type_of u)) c.deref.ensures) c.in_ok-a.ensures.term
    c.in_ok-m.ensures.number (c.sum_right.ensures ∙ ap (λ u. sum_right (type_of u)) c.deref-2.ensures) c.in_ok-b.ensures.term)
    c.enclosed.ensures.term

pub core_of_case_sum-returns-clause-places : goal.core_of_case_sum-returns-clause-places
core_of_case_sum-returns-clause-places t c =
    is_made c.enclosed.result (λ n. places_of n.value) (bound_places c.args.h.now.at c.in_ok-z.z.bound ++ places_of c.in_ok-form.form.value)
    (subject_places (head_of c.args.h.now) ++ (c.args.at ∷ (node_places (expression_of c.args.a.now) ++ node_places (expression_of c.args.b.now))))
    (ap₂ (λ p q. p ++ q) c.in_ok-z.ensures.places (c.in_ok-form.ensures.places ∙ ap₂ (λ p q. c.args.at ∷ (p ++ q)) c.in_ok-a.ensures.places c.in_ok-b.ensures.places)) c.enclosed.ensures.places

pub core_of_case_sum-returns-clause-next : goal.core_of_case_sum-returns-clause-next
core_of_case_sum-returns-clause-next t c =
    let first = origins_of c.args.origins.now.items in
    let second = origins_of c.subject.new.origins.items in
    let third = origins_of c.named.new.origins.items in
    let fourth = origins_of c.core.new.origins.items in
    let fifth = origins_of c.named-2.new.origins.items in
    let last = origins_of c.core-2.new.origins.items in
    let h = new_in_subject (head_of c.args.h.now) in
    let a = new_in (expression_of c.args.a.now) in
    let b = new_in (expression_of c.args.b.now) in
    let x = Some c.args.x.0 in
    let y = Some c.args.y.0 in
    on_ok _ c.enclosed.result
    (then_more first second last h (x ∷ (a ++ (y ∷ b))) c.in_ok-z.ensures.next
    (then_more second third last (x ∷ []) (a ++ (y ∷ b)) c.in_ok-n.ensures.next
    (then_more third fourth last a (y ∷ b) c.in_ok-a.ensures.next
    (then_more fourth fifth last (y ∷ []) b c.in_ok-m.ensures.next c.in_ok-b.ensures.next))))

-- a case on a star
pub core_of_case_star-returns-clause-term : goal.core_of_case_star-returns-clause-term
core_of_case_star-returns-clause-term t c =
    let bs = sources_of c.args.setting.now.functions.now in
    let numbers = numbers_in c.args.scope.now in
    let types = name_types_in c.args.scope.now in
    let first = origins_of c.args.origins.now.items in
    let second = origins_of c.subject.new.origins.items in
    let third = origins_of c.core.new.origins.items in
    let fourth = origins_of c.named.new.origins.items in
    let fifth = origins_of c.named-2.new.origins.items in
    let s = type_of c.in_ok-s.s.value in
    let n = c.in_ok-n.n.0 in
    let m = c.in_ok-m.m.0 in
    let z = c.in_ok-z.z.name.0 in
    let bound = bound_of c.in_ok-z.z.bound in
    let h = head_of c.args.h.now in
    is_made c.enclosed.result (λ n. term_of n.value) (rounded bound z s (term_of c.in_ok-form.form.value)) (core_in c.args.setting.now c.args.scope.now (case_star_at c.args.at h (expression_of c.args.a.now) c.args.y.0 c.args.ys.0 (expression_of c.args.b.now)) (wanted_of c.args.r) (length first))
    (ap (rounded bound z s) c.in_ok-form.ensures.term
    ∙ case_star-core (function_named bs) (number_named bs) (names_known c.args.setting.now.known.now) numbers types c.args.at c.args.y.0 c.args.ys.0 h (expression_of c.args.a.now) (expression_of c.args.b.now) (wanted_of c.args.r) s (wanted_of c.star_item.result) (wanted_of c.star_items.result) z n m
    first second third fourth fifth bound (term_of c.in_ok-a.a.value) (term_of c.in_ok-b.b.value)
    c.in_ok-z.ensures.next c.in_ok-a.ensures.next c.in_ok-n.ensures.next c.in_ok-m.ensures.next c.in_ok-s.ensures c.in_ok-z.ensures.name c.in_ok-z.ensures.bound
    c.in_ok-a.ensures.term c.in_ok-n.ensures.number c.in_ok-m.ensures.number
    (c.star_item.ensures ∙ ap (λ u. star_item (type_of u)) c.deref.ensures) (c.star_items.ensures ∙ ap (λ u. star_items (type_of u)) c.deref-2.ensures) c.in_ok-b.ensures.term)
    c.enclosed.ensures.term

pub core_of_case_star-returns-clause-places : goal.core_of_case_star-returns-clause-places
core_of_case_star-returns-clause-places t c =
    is_made c.enclosed.result (λ n. places_of n.value) (bound_places c.args.h.now.at c.in_ok-z.z.bound ++ places_of c.in_ok-form.form.value)
    (subject_places (head_of c.args.h.now) ++ (c.args.at ∷ (node_places (expression_of c.args.a.now) ++ node_places (expression_of c.args.b.now))))
    (ap₂ (λ p q. p ++ q) c.in_ok-z.ensures.places (c.in_ok-form.ensures.places ∙ ap₂ (λ p q. c.args.at ∷ (p ++ q)) c.in_ok-a.ensures.places c.in_ok-b.ensures.places)) c.enclosed.ensures.places

pub core_of_case_star-returns-clause-next : goal.core_of_case_star-returns-clause-next
core_of_case_star-returns-clause-next t c =
    let first = origins_of c.args.origins.now.items in
    let second = origins_of c.subject.new.origins.items in
    let third = origins_of c.core.new.origins.items in
    let fourth = origins_of c.named.new.origins.items in
    let fifth = origins_of c.named-2.new.origins.items in
    let last = origins_of c.core-2.new.origins.items in
    let h = new_in_subject (head_of c.args.h.now) in
    let a = new_in (expression_of c.args.a.now) in
    let b = new_in (expression_of c.args.b.now) in
    let y = Some c.args.y.0 in
    let ys = Some c.args.ys.0 in
    on_ok _ c.enclosed.result
    (then_more first second last h (a ++ (y ∷ (ys ∷ b))) c.in_ok-z.ensures.next
    (then_more second third last a (y ∷ (ys ∷ b)) c.in_ok-a.ensures.next
    (then_more third fourth last (y ∷ []) (ys ∷ b) c.in_ok-n.ensures.next
    (then_more fourth fifth last (ys ∷ []) b c.in_ok-m.ensures.next c.in_ok-b.ensures.next))))

-- a `wait`
pub core_of_wait-returns-clause-term : goal.core_of_wait-returns-clause-term
core_of_wait-returns-clause-term t c =
    let first = origins_of c.args.origins.now.items in
    let numbers = numbers_in c.args.scope.now in
    let a = term_of c.in_ok-a.a.value in
    let e = expression_of c.args.a.now in
    let bs = sources_of c.args.setting.now.functions.now in
    let a' = core_at (function_named bs) (number_named bs) (names_known c.args.setting.now.known.now) e numbers (put c.args.x.0 eps (name_types_in c.args.scope.now)) (wanted_of c.args.r) (length first) in
    is_made c.node.result (λ n. term_of n.value) (wait_term c.number_of.result.0 (type_of c.in_ok-r.r) a) (core_in c.args.setting.now c.args.scope.now (wait_at c.args.at c.args.x.0 e) (wanted_of c.args.r) (length first))
    (same₃ wait_term c.number_of.result.0 (numbers c.args.x.0) (type_of c.in_ok-r.r) (wanted_of c.args.r) a a' c.number_of.ensures c.in_ok-r.ensures c.in_ok-a.ensures.term)
    c.node.ensures.term

pub core_of_wait-returns-clause-places : goal.core_of_wait-returns-clause-places
core_of_wait-returns-clause-places t c =
    is_made c.node.result (λ n. places_of n.value) (c.args.at ∷ places_of c.in_ok-a.a.value) (c.args.at ∷ node_places (expression_of c.args.a.now))
    (ap (λ l. c.args.at ∷ l) c.in_ok-a.ensures.places) c.node.ensures.places

pub core_of_wait-returns-clause-next : goal.core_of_wait-returns-clause-next
core_of_wait-returns-clause-next t c =
    on_ok _ c.node.result c.in_ok-a.ensures.next

-- an `if`
pub core_of_if-returns-clause-term : goal.core_of_if-returns-clause-term
core_of_if-returns-clause-term t c =
    let bs = sources_of c.args.setting.now.functions.now in
    let numbers = numbers_in c.args.scope.now in
    let types = name_types_in c.args.scope.now in
    let first = origins_of c.args.origins.now.items in
    let second = origins_of c.added.new.origins.items in
    let third = origins_of c.added-2.new.origins.items in
    let fourth = origins_of c.added-3.new.origins.items in
    let fifth = origins_of c.numbered.new.origins.items in
    let z = c.in_ok-z.z.0 in
    let n = c.in_ok-n.n.0 in
    let k = c.in_ok-k.k.0 in
    let test = expr_of c.in_ok-m.m.value in
    let a = term_of c.in_ok-a.a.value in
    let b = term_of c.in_ok-a.b.value in
    let m = hist_of c.args.m.now in
    is_made c.if_node.result (λ n. term_of n.value) (let_term z (sum one one) (past_term test) (case_sum_term z (wanted_of c.args.r) n a k b)) (core_in c.args.setting.now c.args.scope.now (if_at c.args.at m (expression_of c.args.a.now) (expression_of c.args.b.now)) (wanted_of c.args.r) (length first))
    (if-core (function_named bs) (number_named bs) (names_known c.args.setting.now.known.now) numbers types c.args.at m (expression_of c.args.a.now) (expression_of c.args.b.now) (wanted_of c.args.r) z n k first second third fourth fifth test a b
    c.in_ok-z.ensures.next c.in_ok-n.ensures.next c.in_ok-k.ensures.next (c.in_ok-m.ensures.next ∙ ap (λ u. fourth ++ new_in_expr (expr_of u)) c.deref.ensures)
    c.in_ok-z.ensures.number c.in_ok-n.ensures.number c.in_ok-k.ensures.number (c.in_ok-m.ensures.expr ∙ ap (λ u. numbered_expr (expr_of u) numbers (length fourth)) c.deref.ensures)
    c.in_ok-a.ensures.left c.in_ok-a.ensures.right)
    c.if_node.ensures.term

pub core_of_if-returns-clause-places : goal.core_of_if-returns-clause-places
core_of_if-returns-clause-places t c =
    is_made c.if_node.result (λ n. places_of n.value) (c.args.at ∷ (c.args.at ∷ (c.args.at ∷ (places_of c.in_ok-a.a.value ++ places_of c.in_ok-a.b.value))))
    (c.args.at ∷ (c.args.at ∷ (c.args.at ∷ (node_places (expression_of c.args.a.now) ++ node_places (expression_of c.args.b.now)))))
    (ap (λ l. c.args.at ∷ (c.args.at ∷ (c.args.at ∷ l))) c.in_ok-a.ensures.places) c.if_node.ensures.places

pub core_of_if-returns-clause-next : goal.core_of_if-returns-clause-next
core_of_if-returns-clause-next t c =
    let first = origins_of c.args.origins.now.items in
    let second = origins_of c.added.new.origins.items in
    let third = origins_of c.added-2.new.origins.items in
    let fourth = origins_of c.added-3.new.origins.items in
    let fifth = origins_of c.numbered.new.origins.items in
    let last = origins_of c.both.new.origins.items in
    let m = new_in_expr (expr_of c.args.m.now.expr.value) in
    let a = new_in (expression_of c.args.a.now) in
    let b = new_in (expression_of c.args.b.now) in
    on_ok _ c.if_node.result
    (then_more first second last (None ∷ []) (None ∷ (None ∷ (m ++ (a ++ b)))) c.in_ok-z.ensures.next
    (then_more second third last (None ∷ []) (None ∷ (m ++ (a ++ b))) c.in_ok-n.ensures.next
    (then_more third fourth last (None ∷ []) (m ++ (a ++ b)) c.in_ok-k.ensures.next
    (then_more fourth fifth last m (a ++ b) (c.in_ok-m.ensures.next ∙ ap (λ u. fourth ++ new_in_expr (expr_of u)) c.deref.ensures) c.in_ok-a.ensures.next))))
