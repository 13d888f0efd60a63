-- The states of a state in turn: those of its parts one after the other.
use Rattle.std.proofs.Common.{◌≡◌, ◌∙◌, ℕ, ◌+◌, ◌-◌, List, ◌++◌, length, take, drop, ap, ap₂, sym, subst, arith, rules}
use Rattle.std.specs.Prelude.{Err}
use Rattle.stream_type.specs.StreamType.{type_of}
use Rattle.bunch.specs.Facts.{Facts}
use Rattle.bunch.specs.Names.{numbers_of}
use Rattle.core_term.specs.CoreTerm.{node_count}
use Rattle.core_term.specs.FreeNames.{is_distinct}
use Rattle.core_term.specs.Typing.{Context, with_name}
use Rattle.delta_check.specs.Scopes.{context_in, context_given, facts_given}
use Rattle.delta_state.specs.StateTree.{StateTree, par_state, cat_state, let_state, let_par_state, let_cat_state, frame_state, argument_before}
use Rattle.delta_state.specs.StateTyping.{context_of_arguments}
use Rattle.kept_state.specs.KeptBytes.{nodes_in_state, nodes_in_arguments}
use Rattle.kept_rules.specs.InTurn.{names_in_turn, states_of, states_of_arguments}
use Rattle.kept_rules.specs.StateRules.{FollowsRule}
use Rattle.delta_keep.specs.KeptView.{state_of, later_of, arguments_from}
use Rattle.kept_check.specs.Sizes.{states_number, states_of_parts, states_in_arguments}
use Rattle.kept_check.specs.Walk.{FindsBad, Finds}
use Rattle.kept_check.specs.Judging.{funs_of}
use Rattle.delta_keep.proofs.ArgumentRows.{arguments_of-hidden}
use Rattle.kept_check.proofs.Lists.{first_and_rest}
use Rattle.kept_check.proofs.Turns.{arguments_found, first_ends, next_number, number_behind, own_ends, own_then, parts_found, still_once, then_body, then_second}
use Rattle.kept_check.proofs.checking.+walk.Goals as goal

pub check_state-check_parts-requires : goal.check_state-check_parts-requires
check_state-check_parts-requires t c =
    let own = c.in-Ok.ensures in (search rules, (omega (arith, c.requires.number), (c.requires.size, (c.requires.judge, (ap is_distinct own.1 ∙ own.0.once, own.0.rule)))))

pub check_state-returns-in-Ok : goal.check_state-returns-in-Ok
check_state-returns-in-Ok t c = own_then _ _ c.args.number (context_in c.args.scope.now) (type_of c.args.r.now) _ _ _ (state_of c.args.s.now) c.check_parts.result c.in-Ok.ensures c.check_parts.ensures

pub check_state-returns-in-Err : goal.check_state-returns-in-Err
check_state-returns-in-Err t c = own_ends _ _ (Unit {0}) c.args.number (context_in c.args.scope.now) (type_of c.args.r.now) (numbers_of c.args.bound.now.items) (numbers_of c.check_own.new.bound.items) _ (state_of c.args.s.now) c.in-Err.stop c.in-Err.ensures

pub check_two-check_state-requires : goal.check_two-check_state-requires
check_two-check_state-requires t c = (search rules, (omega (arith, c.requires.number), (omega (arith, c.requires.size), (c.requires.judge, c.requires.once))))

pub check_two-check_state-requires-in-Ok : goal.check_two-check_state-requires-in-Ok
check_two-check_state-requires-in-Ok t c =
    let first = c.in-Ok.ensures in
    let next = next_number _ _ c.args.number c.in-Ok.next _ _ _ (state_of c.args.a.now) first.found in
    let once = still_once _ _ c.args.number c.in-Ok.next _ _ _ (state_of c.args.a.now) first.found in
    (search rules, (omega (arith, c.requires.number, next), (omega (arith, c.requires.size), (c.requires.judge, ap is_distinct first.bound ∙ once))))

pub check_two-returns-in-Ok : goal.check_two-returns-in-Ok
check_two-returns-in-Ok t c =
    then_second _ _ c.args.number c.in-Ok.next _ (λ l. states_of (context_in c.args.inner.now) (type_of c.args.r.now) l (state_of c.args.b.now)) _ _ _ _ _ c.check_state-in-Ok.result c.in-Ok.ensures c.check_state-in-Ok.ensures

pub check_two-returns-in-Err : goal.check_two-returns-in-Err
check_two-returns-in-Err t c = first_ends _ _ c.args.number _ _ _ _ _ _ _ c.in-Err.stop c.in-Err.ensures

pub check_let-check_two-found-requires : goal.check_let-check_two-found-requires
check_let-check_two-found-requires t c = (search rules, (c.requires.number, (c.requires.size, (c.requires.judge, c.requires.once))))

pub check_let-returns-in-Ok : goal.check_let-returns-in-Ok
check_let-returns-in-Ok t c =
    let names = numbers_of c.args.bound.now.items in
    let a = state_of c.args.a.now in
    let b = state_of c.args.b.now in
    let context = context_in c.args.scope.now in
    let x = c.args.x.0 in
    let s = type_of c.args.t.now in
    subst
    (λ (o : Facts). Finds (funs_of c.args.judge.now) c.args.judge.now.depth c.args.number (states_of context s names a ++ states_of (with_name x s o context) (type_of c.args.r.now) (names ++ names_in_turn a) b)
    names (names_in_turn a ++ names_in_turn b) (numbers_of c.check_two-found.new.bound.items) c.check_two-found.result)
    (c.in-Ok.ensures x) c.check_two-found.ensures

pub check_frame-check_arguments-requires : goal.check_frame-check_arguments-requires
check_frame-check_arguments-requires t c = (search rules, (omega (arith, c.requires.number), (omega (arith, c.requires.size), (c.requires.judge, c.requires.once))))

pub check_frame-check_body-requires : goal.check_frame-check_body-requires
check_frame-check_body-requires t c =
    let next = number_behind _ _ c.args.number c.in-Ok.next _ _ (arguments_from c.args.args.now) c.in-Ok.ensures.found in
    (search rules, (omega (arith, c.requires.number, next), (omega (arith, c.requires.size), (c.requires.judge, c.requires.parameters))))

pub check_frame-returns-in-Ok : goal.check_frame-returns-in-Ok
check_frame-returns-in-Ok t c = then_body _ _ c.args.number c.in-Ok.next _ _ _ _ _ c.check_body.result c.in-Ok.ensures c.check_body.ensures

pub check_frame-returns-in-Err : goal.check_frame-returns-in-Err
check_frame-returns-in-Err t c = first_ends _ _ c.args.number _ _ _ _ _ _ _ c.in-Err.stop c.in-Err.ensures

pub check_body-check_state-found-requires : goal.check_body-check_state-found-requires
check_body-check_state-found-requires t c = (search rules, (c.requires.number, (c.requires.size, (c.requires.judge, ap is_distinct c.in-Ok.ensures.names ∙ c.requires.parameters))))

pub check_body-returns-in-Ok : goal.check_body-returns-in-Ok
check_body-returns-in-Ok t c =
    let args = arguments_from c.args.args.now in
    let context = context_in c.args.scope.now in
    let r = type_of c.args.r.now in
    let s = state_of c.args.s.now in
    let P : Context → Type 0 = λ d. FindsBad (funs_of c.args.judge.now) c.args.judge.now.depth c.args.number (states_of d r (numbers_of c.in-Ok.inside.names.items) s) c.check_state-found.result in
    let Q : List ℕ → Type 0 = λ l. FindsBad (funs_of c.args.judge.now) c.args.judge.now.depth c.args.number (states_of (context_of_arguments context args) r l s) c.check_state-found.result in
    subst Q c.in-Ok.ensures.names (subst P (ap₂ (λ vars facts. context_given vars (facts_given facts)) c.deref.ensures.value c.deref-in-Ok.ensures.value ∙ c.in-Ok.ensures.scope) c.check_state-found.ensures.found)

pub check_arguments-check_state-requires : goal.check_arguments-check_state-requires
check_arguments-check_state-requires t c =
    let a = c.arg-item.result in
    let rest = take (length c.args.args.now - 1) (drop 1 c.args.args.now) in
    let whole = ap arguments_from (first_and_rest c.args.args.now a c.in-len1-up.len_at_least c.arg-item.is) in
    let count : states_in_arguments (arguments_from c.args.args.now) ≡ states_number (state_of c.deref.result.now) + states_in_arguments (arguments_from rest) =
    ap states_in_arguments whole ∙ ap (λ s. states_number (state_of s) + states_in_arguments (arguments_from rest)) (sym c.deref.ensures) in
    let nodes : nodes_in_arguments (arguments_from c.args.args.now) ≡ nodes_in_state (state_of c.deref.result.now) + nodes_in_arguments (arguments_from rest) =
    ap nodes_in_arguments whole ∙ ap (λ s. nodes_in_state (state_of s) + nodes_in_arguments (arguments_from rest)) (sym c.deref.ensures) in
    (search rules, (omega (arith, count, c.requires.number), (omega (arith, nodes, c.requires.size), (c.requires.judge, c.requires.once))))

pub check_arguments-check_arguments-requires : goal.check_arguments-check_arguments-requires
check_arguments-check_arguments-requires t c =
    let context = context_in c.args.scope.now in
    let names = numbers_of c.args.bound.now.items in
    let a = c.arg-item.result in
    let rest = take (length c.args.args.now - 1) (drop 1 c.args.args.now) in
    let s = state_of c.deref.result.now in
    let r = type_of c.deref-in-len1-up.result.now in
    let whole = ap arguments_from (first_and_rest c.args.args.now a c.in-len1-up.len_at_least c.arg-item.is) in
    let count : states_in_arguments (arguments_from c.args.args.now) ≡ states_number s + states_in_arguments (arguments_from rest) =
    ap states_in_arguments whole ∙ ap (λ s. states_number (state_of s) + states_in_arguments (arguments_from rest)) (sym c.deref.ensures) in
    let nodes : nodes_in_arguments (arguments_from c.args.args.now) ≡ nodes_in_state s + nodes_in_arguments (arguments_from rest) =
    ap nodes_in_arguments whole ∙ ap (λ s. nodes_in_state (state_of s) + nodes_in_arguments (arguments_from rest)) (sym c.deref.ensures) in
    let next = next_number _ _ c.args.number c.in-Ok.next context r names s c.in-Ok.ensures.found in
    let once = still_once _ _ c.args.number c.in-Ok.next context r names s c.in-Ok.ensures.found in
    (search rules, (omega (arith, count, c.requires.number, next), (omega (arith, nodes, c.requires.size), (c.requires.judge, ap is_distinct c.in-Ok.ensures.bound ∙ once))))

pub check_arguments-returns-in-Ok : goal.check_arguments-returns-in-Ok
check_arguments-returns-in-Ok t c =
    let context = context_in c.args.scope.now in
    let names = numbers_of c.args.bound.now.items in
    let a = c.arg-item.result in
    let rest = arguments_from (take (length c.args.args.now - 1) (drop 1 c.args.args.now)) in
    let s = state_of c.deref.result.now in
    let whole : arguments_from c.args.args.now ≡ argument_before a.name.0 (type_of c.deref-in-len1-up.result.now) s rest =
    ap arguments_from (first_and_rest c.args.args.now a c.in-len1-up.len_at_least c.arg-item.is)
    ∙ ap₂ (λ x y. argument_before a.name.0 (type_of x) (state_of y) rest) (sym c.deref-in-len1-up.ensures) (sym c.deref.ensures) in
    arguments_found _ _ c.args.number context names _ _ _ c.check_arguments.result whole
    (then_second _ _ c.args.number c.in-Ok.next _ (λ l. states_of_arguments context l rest) _ _ _ _ _ c.check_arguments.result c.in-Ok.ensures c.check_arguments.ensures)

pub check_arguments-returns-in-Err : goal.check_arguments-returns-in-Err
check_arguments-returns-in-Err t c =
    let a = c.arg-item.result in
    let rest = arguments_from (take (length c.args.args.now - 1) (drop 1 c.args.args.now)) in
    let s = state_of c.deref.result.now in
    let whole : arguments_from c.args.args.now ≡ argument_before a.name.0 (type_of c.deref-in-len1-up.result.now) s rest =
    ap arguments_from (first_and_rest c.args.args.now a c.in-len1-up.len_at_least c.arg-item.is)
    ∙ ap₂ (λ x y. argument_before a.name.0 (type_of x) (state_of y) rest) (sym c.deref-in-len1-up.ensures) (sym c.deref.ensures) in
    arguments_found _ _ c.args.number (context_in c.args.scope.now) _ _ _ _ (Err c.in-Err.stop) whole (first_ends _ _ c.args.number _ _ _ _ _ _ _ c.in-Err.stop c.in-Err.ensures)

pub check_sides-returns : goal.check_sides-returns
check_sides-returns t c = rw (c.par_types.ensures.left, c.par_types.ensures.right, c.type_or.ensures) at c.check_state.ensures

pub check_steps-returns : goal.check_steps-returns
check_steps-returns t c = rw (c.cat_types.ensures.first, c.cat_types.ensures.second, c.type_or.ensures) at c.check_state.ensures

pub check_parts-check_two-requires : goal.check_parts-check_two-requires
check_parts-check_two-requires t c =
    let whole : state_of c.args.s.now ≡ par_state (state_of c.deref.result.now) (state_of c.deref-in-Par.result.now) =
    ap state_of c.in-Par.is ∙ ap₂ (λ x y. par_state (state_of x) (state_of y)) (sym c.deref.ensures) (sym c.deref-in-Par.ensures) in
    let count : states_of_parts (state_of c.args.s.now) ≡ states_number (state_of c.deref.result.now) + states_number (state_of c.deref-in-Par.result.now) = ap states_of_parts whole in
    let nodes : nodes_in_state (state_of c.args.s.now) ≡ nodes_in_state (state_of c.deref.result.now) + nodes_in_state (state_of c.deref-in-Par.result.now) = ap nodes_in_state whole in
    (search rules, (omega (arith, count, c.requires.number), (omega (arith, nodes, c.requires.size), (c.requires.judge, c.requires.once))))

pub check_parts-returns-in-Par : goal.check_parts-returns-in-Par
check_parts-returns-in-Par t c =
    let whole : state_of c.args.s.now ≡ par_state (state_of c.deref.result.now) (state_of c.deref-in-Par.result.now) =
    ap state_of c.in-Par.is ∙ ap₂ (λ x y. par_state (state_of x) (state_of y)) (sym c.deref.ensures) (sym c.deref-in-Par.ensures) in
    parts_found _ _ c.args.number (context_in c.args.scope.now) (type_of c.args.r.now) _ _ (state_of c.args.s.now) (par_state (state_of c.deref.result.now) (state_of c.deref-in-Par.result.now)) c.check_two.result whole (rw (c.par_types.ensures.left, c.par_types.ensures.right) at c.check_two.ensures)

pub check_parts-check_state-requires : goal.check_parts-check_state-requires
check_parts-check_state-requires t c =
    let whole : state_of c.args.s.now ≡ cat_state (state_of c.deref-in-Cat.result.now) (later_of c.in-Cat.field-1.value) =
    ap state_of c.in-Cat.is ∙ ap (λ x. cat_state (state_of x) (later_of c.in-Cat.field-1.value)) (sym c.deref-in-Cat.ensures) in
    let count : states_of_parts (state_of c.args.s.now) ≡ states_number (state_of c.deref-in-Cat.result.now) = ap states_of_parts whole in
    let nodes : nodes_in_state (state_of c.args.s.now) ≡ nodes_in_state (state_of c.deref-in-Cat.result.now) + node_count (later_of c.in-Cat.field-1.value).term = ap nodes_in_state whole in
    (search rules, (omega (arith, count, c.requires.number), (omega (arith, nodes, c.requires.size), (c.requires.judge, c.requires.once))))

pub check_parts-returns-in-Cat : goal.check_parts-returns-in-Cat
check_parts-returns-in-Cat t c =
    let whole : state_of c.args.s.now ≡ cat_state (state_of c.deref-in-Cat.result.now) (later_of c.in-Cat.field-1.value) =
    ap state_of c.in-Cat.is ∙ ap (λ x. cat_state (state_of x) (later_of c.in-Cat.field-1.value)) (sym c.deref-in-Cat.ensures) in
    parts_found _ _ c.args.number (context_in c.args.scope.now) (type_of c.args.r.now) _ _ (state_of c.args.s.now) (cat_state (state_of c.deref-in-Cat.result.now) (later_of c.in-Cat.field-1.value)) c.check_state.result whole (rw c.cat_types.ensures.first at c.check_state.ensures)

pub check_parts-check_let-requires : goal.check_parts-check_let-requires
check_parts-check_let-requires t c =
    let whole : state_of c.args.s.now ≡ let_state c.in-Let.x.0 (type_of c.deref-in-Let.result.now) (state_of c.deref-in-Let-2.result.now) (state_of c.deref-in-Let-3.result.now) =
    ap state_of c.in-Let.is ∙ ap (λ u. let_state c.in-Let.x.0 (type_of u) (state_of c.in-Let.a.value) (state_of c.in-Let.b.value)) (sym c.deref-in-Let.ensures)
    ∙ ap₂ (λ x y. let_state c.in-Let.x.0 (type_of c.deref-in-Let.result.now) (state_of x) (state_of y)) (sym c.deref-in-Let-2.ensures) (sym c.deref-in-Let-3.ensures) in
    let count : states_of_parts (state_of c.args.s.now) ≡ states_number (state_of c.deref-in-Let-2.result.now) + states_number (state_of c.deref-in-Let-3.result.now) = ap states_of_parts whole in
    let nodes : nodes_in_state (state_of c.args.s.now) ≡ nodes_in_state (state_of c.deref-in-Let-2.result.now) + nodes_in_state (state_of c.deref-in-Let-3.result.now) = ap nodes_in_state whole in
    (search rules, (omega (arith, count, c.requires.number), (omega (arith, nodes, c.requires.size), (c.requires.judge, c.requires.once))))

pub check_parts-returns-in-Let : goal.check_parts-returns-in-Let
check_parts-returns-in-Let t c =
    let whole : state_of c.args.s.now ≡ let_state c.in-Let.x.0 (type_of c.deref-in-Let.result.now) (state_of c.deref-in-Let-2.result.now) (state_of c.deref-in-Let-3.result.now) =
    ap state_of c.in-Let.is ∙ ap (λ u. let_state c.in-Let.x.0 (type_of u) (state_of c.in-Let.a.value) (state_of c.in-Let.b.value)) (sym c.deref-in-Let.ensures)
    ∙ ap₂ (λ x y. let_state c.in-Let.x.0 (type_of c.deref-in-Let.result.now) (state_of x) (state_of y)) (sym c.deref-in-Let-2.ensures) (sym c.deref-in-Let-3.ensures) in
    parts_found _ _ c.args.number (context_in c.args.scope.now) (type_of c.args.r.now) _ _ (state_of c.args.s.now) (let_state c.in-Let.x.0 (type_of c.deref-in-Let.result.now) (state_of c.deref-in-Let-2.result.now) (state_of c.deref-in-Let-3.result.now)) c.check_let.result whole c.check_let.ensures

pub check_parts-check_sides-requires : goal.check_parts-check_sides-requires
check_parts-check_sides-requires t c =
    let whole : state_of c.args.s.now ≡ let_par_state c.in-LetPar.x.0 c.in-LetPar.y.0 c.in-LetPar.z.0 (state_of c.deref-in-LetPar.result.now) =
    ap state_of c.in-LetPar.is ∙ ap (λ x. let_par_state c.in-LetPar.x.0 c.in-LetPar.y.0 c.in-LetPar.z.0 (state_of x)) (sym c.deref-in-LetPar.ensures) in
    let count : states_of_parts (state_of c.args.s.now) ≡ states_number (state_of c.deref-in-LetPar.result.now) = ap states_of_parts whole in
    let nodes : nodes_in_state (state_of c.args.s.now) ≡ nodes_in_state (state_of c.deref-in-LetPar.result.now) = ap nodes_in_state whole in
    (search rules, (omega (arith, count, c.requires.number), (omega (arith, nodes, c.requires.size), (c.requires.judge, c.requires.once))))

pub check_parts-returns-in-LetPar : goal.check_parts-returns-in-LetPar
check_parts-returns-in-LetPar t c =
    let whole : state_of c.args.s.now ≡ let_par_state c.in-LetPar.x.0 c.in-LetPar.y.0 c.in-LetPar.z.0 (state_of c.deref-in-LetPar.result.now) =
    ap state_of c.in-LetPar.is ∙ ap (λ x. let_par_state c.in-LetPar.x.0 c.in-LetPar.y.0 c.in-LetPar.z.0 (state_of x)) (sym c.deref-in-LetPar.ensures) in
    parts_found _ _ c.args.number (context_in c.args.scope.now) (type_of c.args.r.now) _ _ (state_of c.args.s.now) (let_par_state c.in-LetPar.x.0 c.in-LetPar.y.0 c.in-LetPar.z.0 (state_of c.deref-in-LetPar.result.now)) c.check_sides.result whole c.check_sides.ensures

pub check_parts-check_steps-requires : goal.check_parts-check_steps-requires
check_parts-check_steps-requires t c =
    let whole : state_of c.args.s.now ≡ let_cat_state c.in-LetCat.x.0 c.in-LetCat.y.0 c.in-LetCat.z.0 (state_of c.deref-in-LetCat.result.now) =
    ap state_of c.in-LetCat.is ∙ ap (λ x. let_cat_state c.in-LetCat.x.0 c.in-LetCat.y.0 c.in-LetCat.z.0 (state_of x)) (sym c.deref-in-LetCat.ensures) in
    let count : states_of_parts (state_of c.args.s.now) ≡ states_number (state_of c.deref-in-LetCat.result.now) = ap states_of_parts whole in
    let nodes : nodes_in_state (state_of c.args.s.now) ≡ nodes_in_state (state_of c.deref-in-LetCat.result.now) = ap nodes_in_state whole in
    (search rules, (omega (arith, count, c.requires.number), (omega (arith, nodes, c.requires.size), (c.requires.judge, c.requires.once))))

pub check_parts-returns-in-LetCat : goal.check_parts-returns-in-LetCat
check_parts-returns-in-LetCat t c =
    let whole : state_of c.args.s.now ≡ let_cat_state c.in-LetCat.x.0 c.in-LetCat.y.0 c.in-LetCat.z.0 (state_of c.deref-in-LetCat.result.now) =
    ap state_of c.in-LetCat.is ∙ ap (λ x. let_cat_state c.in-LetCat.x.0 c.in-LetCat.y.0 c.in-LetCat.z.0 (state_of x)) (sym c.deref-in-LetCat.ensures) in
    parts_found _ _ c.args.number (context_in c.args.scope.now) (type_of c.args.r.now) _ _ (state_of c.args.s.now) (let_cat_state c.in-LetCat.x.0 c.in-LetCat.y.0 c.in-LetCat.z.0 (state_of c.deref-in-LetCat.result.now)) c.check_steps.result whole c.check_steps.ensures

pub check_parts-check_frame-requires : goal.check_parts-check_frame-requires
check_parts-check_frame-requires t c =
    let whole : state_of c.args.s.now ≡ frame_state (arguments_from c.deref-in-Frame.result.now) (state_of c.deref-in-Frame-2.result.now) =
    ap state_of c.in-Frame.is ∙ ap (λ u. frame_state u (state_of c.in-Frame.s.value)) (arguments_of-hidden c.in-Frame.args)
    ∙ ap₂ (λ x y. frame_state (arguments_from x) (state_of y)) (sym c.deref-in-Frame.ensures.value) (sym c.deref-in-Frame-2.ensures) in
    let count : states_of_parts (state_of c.args.s.now) ≡ states_in_arguments (arguments_from c.deref-in-Frame.result.now) + states_number (state_of c.deref-in-Frame-2.result.now) = ap states_of_parts whole in
    let nodes : nodes_in_state (state_of c.args.s.now) ≡ nodes_in_arguments (arguments_from c.deref-in-Frame.result.now) + nodes_in_state (state_of c.deref-in-Frame-2.result.now) = ap nodes_in_state whole in
    (search rules, (omega (arith, count, c.requires.number), (omega (arith, nodes, c.requires.size), (c.requires.judge, (c.requires.once, subst (λ (u : StateTree). FollowsRule (funs_of c.args.judge.now) c.args.judge.now.depth (context_in c.args.scope.now) u (type_of c.args.r.now)) whole c.requires.rule)))))

pub check_parts-returns-in-Frame : goal.check_parts-returns-in-Frame
check_parts-returns-in-Frame t c =
    let whole : state_of c.args.s.now ≡ frame_state (arguments_from c.deref-in-Frame.result.now) (state_of c.deref-in-Frame-2.result.now) =
    ap state_of c.in-Frame.is ∙ ap (λ u. frame_state u (state_of c.in-Frame.s.value)) (arguments_of-hidden c.in-Frame.args)
    ∙ ap₂ (λ x y. frame_state (arguments_from x) (state_of y)) (sym c.deref-in-Frame.ensures.value) (sym c.deref-in-Frame-2.ensures) in
    parts_found _ _ c.args.number (context_in c.args.scope.now) (type_of c.args.r.now) _ _ (state_of c.args.s.now) (frame_state (arguments_from c.deref-in-Frame.result.now) (state_of c.deref-in-Frame-2.result.now)) c.check_frame.result whole c.check_frame.ensures
