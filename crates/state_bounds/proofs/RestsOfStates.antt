-- What is left of a state after a step holds no more than the state can.
use Rattle.std.proofs.Common.{◌≡◌, ◌∙◌, ◌≤◌, ⊎_elim, ℕ, Bool, true, true≢false, ◌&&◌, ◌||◌, List, [], ◌∷◌, if◌then◌else◌, ap, refl, subst, sym, arith}
use Rattle.std.specs.Prelude.{Some, is_some, unwrap_or}
use Rattle.std.specs.List.{All}
use Rattle.std.proofs.lemmas.List.Elements.{All-head, All-tail}
use Rattle.stream_type.specs.StreamType.{StreamType, eps, cat, par, sum, star}
use Rattle.stream_prefix.specs.StreamPrefix.{StreamPrefix, eps_emp, emp, is_maximal, der}
use Rattle.stream_prefix.proofs.Derivations.{Derives, derives, is_prefix}
use Rattle.stream_prefix.proofs.Joins.{emp_is_prefix, der-join}
use Rattle.stream_prefix.proofs.Parts.{part_refl}
use Rattle.bunch.specs.Names.{put, holds, value_at}
use Rattle.bunch.specs.Facts.{Facts, place_like, place_let, put_before}
use Rattle.bunch.proofs.Tests.{and_first, and_second}
use Rattle.hist_value.specs.HistType.{past as past_type}
use Rattle.hist_value.specs.Wholes.{value_of}
use Rattle.hist_value.specs.Laws.{HasTypes}
use Rattle.hist_value.proofs.WholeLaws.{value_has_past}
use Rattle.core_term.specs.CoreTerm.{CoreBody, case_sum_term, case_star_term, wait_term, fun_at}
use Rattle.core_term.specs.FreeNames.{free_names, without}
use Rattle.core_term.specs.Environment.{Environment, NameTypes, left_at}
use Rattle.core_term.specs.Agreement.{Agrees}
use Rattle.core_term.specs.Inert.{is_inert_fun}
use Rattle.core_term.specs.Parts.{par_left, par_right, cat_first, cat_second, sum_left, sum_right, star_item, star_items, left_part, right_part, first_part, second_part}
use Rattle.core_term.specs.Run.{sum_run, star_run, wait_run}
use Rattle.core_term.specs.Typing.{Context, type_at, types_of, HasType, IsTypedBody, with_name, with_fact, with_parts}
use Rattle.core_term.proofs.Sides.{holds-head}
use Rattle.core_term.proofs.Placing.{like_agrees, let_agrees, pair_agrees, row_agrees}
use Rattle.core_term.proofs.Agreements.{whole_or_empty}
use Rattle.core_term.proofs.GrowingRuns.{Streams, continues_same, streams_put, streams_put_two, par_parts, cat_parts, par_parts_whole, cat_parts_whole}
use Rattle.core_term.proofs.Monotone.{pasts_put}
use Rattle.core_term.proofs.TypedTerms.{Typed, Extends, type_in, extends_name, derive}
use Rattle.core_term.proofs.TypedRuns.{Any, AreStreams, free_are_streams}
use Rattle.core_term.proofs.WholeRuns.{cat_calls_first}
use Rattle.delta_state.specs.StateTree.{HeldName, LaterTree, StateTree, ArgumentTrees, sink, var_state, par_state, cat_state, let_state, let_par_state, let_cat_state, sum_state, star_state, wait_state, frame_state, no_arguments, argument_before, held_names, argument_names, free_in_state, free_in_arguments, free_in_sum, free_in_star, free_in_wait}
use Rattle.delta_state.specs.StateMeaning.{past_in, knowing, types_held, prefixes_held, with_held, types_of_arguments, run_later, run_state, run_arguments}
use Rattle.delta_state.specs.Apart.{BindsApart}
use Rattle.delta_state.specs.StateTyping.{IsHeld, is_empty, facts_held, context_held, context_of_arguments, with_known, with_past, no_pasts}
use Rattle.delta_state.specs.Rest.{held_more, rest_of, rest_of_arguments, rest_later}
use Rattle.delta_state.proofs.HeldNames.{held_left, held_prefix}
use Rattle.delta_state.proofs.GrowingStates.{known_types, extends_known, extends_past, known_values, held_extend, arguments_run_grow}
use Rattle.delta_state.proofs.WholeStates.{HasDepth}
use Rattle.state_steps.proofs.FactsWithin.{within_itself, within_on_let}
use Rattle.state_steps.proofs.KnownNames.{past_types-same, past_order-same}
use Rattle.state_steps.proofs.NoNewNames.{free_in_step}
use Rattle.state_steps.proofs.Inputs.{Inputs}
use Rattle.state_steps.proofs.HeldForms.{more_holds}
use Rattle.state_steps.proofs.Steps.{by_test, left_emp, right_emp, sequence_calls_second}
use Rattle.state_steps.proofs.PartSteps.{cat_order, par_der}
use Rattle.state_steps.proofs.TermSteps.{some_type}
use Rattle.state_steps.proofs.HeldSteps.{inputs_held}
use Rattle.state_steps.proofs.StateSteps.{IsReady, AreReady, ready_left, ready_right, ready_first, code_is_deep, ready_bound, ready_under, ready_arguments, ready_body, ready_argument, ready_others, state_derives, state_whole, state_nothing, arguments_agree}
use Rattle.state_bounds.specs.Bounds.{Bound, greater, ◌⊑◌}
use Rattle.state_bounds.specs.TermBounds.{case_room, wait_room, body_bound}
use Rattle.state_bounds.specs.StateBounds.{code_bound, state_bound, argument_bounds}
use Rattle.state_bounds.proofs.BoundOrder.{at_most_next, both_at_most, greater_at_most, at_most_left, at_most_right}
use Rattle.state_bounds.proofs.MoreFacts.{Gains, gains_left, gains_right, gains_tail}
use Rattle.state_bounds.proofs.TermsWithMoreFacts.{term_at_most}
use Rattle.state_bounds.proofs.StarItems.{star_none, star_came, star_turn, star_calls}
use Rattle.state_bounds.proofs.LeftNames.{Leaves, leaves_type, nothing_left, gains_held, leaves_put, pair_bound, cut_bound, sum_rest_bound, star_rest_bound}
use Rattle.state_bounds.proofs.LeftParameters.{frame_leaves}
use Rattle.state_bounds.proofs.RestsOfTerms.{rest_at_most}

-- stream names of a context have there the types of all names
gains_own : (xs : List ℕ) (c : Context) (T : NameTypes) → Extends c T no_pasts → AreStreams c xs → Gains xs (types_of c) T c.order c.order
gains_own xs c T w h = record { types = λ x m. ap (λ o. unwrap_or o eps) (some_type (c.types x) (T x) (λ s i. w.stream x s i) (h.at x m)); order = within_itself xs c.order }

-- what came, and then nothing, is an input with two that may follow it
still_at : (T : NameTypes) (O : Facts) (d : Environment) → Streams T d → Agrees T O d → Inputs T O d (λ x. emp (left_at d T x)) (λ x. emp (left_at d T x))
still_at T O d s agrees = record { streams = s; agrees = agrees; next = record { at = λ x. emp_is_prefix (left_at d T x) }; more = record { at = λ x. part_refl (emp_is_prefix (left_at d T x)) } }

-- what a context has of held names after an input is what is left of their types from before anything was held
leaves_held : (c : Context) (T : NameTypes) (free : List ℕ) (held : List HeldName) → Extends c T no_pasts → IsHeld c free held → (d : Environment) → Streams T d → (e : Context) → Leaves free T c.order d e
    → Leaves free (types_held held) (facts_held held c.order) (with_held held d) e
leaves_held c T free held w h d s e k = record {
  types = λ x m.
      let left = held_left c T no_pasts w free held h x m in
      let was = derives (types_held held x) (prefixes_held held x) (held_prefix c T no_pasts w free held h x m) in
      ap Some (der-join was (subst (λ t. Derives t (d x)) left (s.at x)) ∙ ap (der (d x)) (sym left)) ∙ k.types x m;
  order = record {
    at = λ x y m n i. k.order.at x y m n (and_first (c.order x y) (is_maximal (prefixes_held held x) || is_empty (prefixes_held held y))
        (and_second (holds x (held_names held) && holds y (held_names held)) (c.order x y && (is_maximal (prefixes_held held x) || is_empty (prefixes_held held y))) i));
  };
}

module _ (funs : List CoreBody) (all_typed : All (IsTypedBody funs) funs) (all_apart : All (λ b. BindsApart b.body) funs) (numbers : ℕ → Bound)
    (enough : (f : ℕ) → body_bound (fun_at funs) (is_inert_fun funs) numbers (fun_at funs f) ⊑ numbers f) (n : ℕ) where
  -- the functions by their numbers, and which of them are inert
  abbrev F : ℕ → CoreBody
  F = fun_at funs

  abbrev I : ℕ → Bool
  I = is_inert_fun funs

  -- what is left of code that is reached holds no more than the code can,
  code_at_most : (l : LaterTree) (c : Context) (T : NameTypes) (O : Facts) (r : StreamType) → HasType funs I c l.term r → Extends c T (known_types l.past) → c.order ≡ O → BindsApart l.term → HasTypes (known_types l.past) (past_in l.past) → n ≤ l.depth
      → (d : Environment) → Streams T d → Agrees T O d → (run_later F l T r d).calls ≤ n → (e : Context) → Leaves (free_names l.term) T O d e → state_bound funs numbers (rest_later F l T r d) e ⊑ code_bound funs numbers l.term T O
  code_at_most l c T O r h w o a v deep d s agrees le e k =
      rest_at_most funs all_typed all_apart numbers enough l.depth (subst (λ o. Typed F I Any T o (known_types l.past) l.term r) o (derive funs I Any (λ u v. tt) l.term c T (known_types l.past) r w h)) a d l.past s agrees v (omega (arith, deep, le)) e k

  mutual
    -- what is left of a state after a step holds no more than the state can,
    pub step_at_most : (s : StateTree) (c : Context) (T : NameTypes) (r : StreamType) → IsReady funs n c T r s → (d : Environment) → Streams T d → Agrees T c.order d → (run_state F s T r d).calls ≤ n → (e : Context) → Leaves (free_in_state s) T c.order d e
        → state_bound funs numbers (rest_of F s T r d) e ⊑ state_bound funs numbers s c
    step_at_most (sink t) c T r g d s agrees le e k = omega arith
    step_at_most (var_state x) c T r g d s agrees le e k = omega arith
    step_at_most (par_state a b) c T (par u v) g d s agrees le e k =
        both_at_most _ _ _ _
        (step_at_most a c T u (ready_left g) d s agrees (omega (arith, le)) e (gains_left (free_in_state a) (free_in_state b) _ e.types c.order e.order k))
        (step_at_most b c T v (ready_right g) d s agrees (omega (arith, le)) e (gains_right (free_in_state a) (free_in_state b) _ e.types c.order e.order k))
    step_at_most (par_state a b) c T _ g d s agrees le e k = absurd g.typed
    step_at_most (cat_state a l) c T (cat u v) g d s agrees le e k =
        let ga : IsReady funs n c T u a = ready_first g in
        let deep : n ≤ l.depth = code_is_deep g in
        let first = run_state F a T u d in
        let second = run_later F l T v d in
        let m = cat_calls_first first second n le in
        let kl = gains_right (free_in_state a) (free_names l.term) _ e.types c.order e.order k in
        let known = extends_past l.past c T g.extends in
        let streams : AreStreams c (free_names l.term) = record { at = λ x m. ap (λ t. is_some (t x)) (sym (past_types-same l.past c)) ∙ (free_are_streams funs I l.term (with_past l.past c) v g.typed.1.has_type).at x m } in
        let own = term_at_most F I numbers l.term (types_of c) T c.order c.order (gains_own (free_names l.term) c T g.extends streams) in
        by_test (λ w. state_bound funs numbers (if w then rest_later F l T v d else cat_state (rest_of F a T u d) l) e ⊑ greater (state_bound funs numbers a c) (code_bound funs numbers l.term (types_of c) c.order)) (is_maximal (run_state F a T u d).out)
        (λ i. at_most_right _ (state_bound funs numbers a c) (code_bound funs numbers l.term (types_of c) c.order)
        (at_most_next _ (code_bound funs numbers l.term T c.order) _
        (code_at_most l (with_past l.past c) T c.order v g.typed.1.has_type known (past_order-same l.past c) g.typed.1.binds_apart (known_values l.past g.typed.1.has_values) deep d s agrees (let few = sequence_calls_second first second 0 n i (omega (arith, le)) in omega (arith, few)) e kl) own))
        (λ i. greater_at_most _ _ _ _ (step_at_most a c T u ga d s agrees m e (gains_left (free_in_state a) (free_names l.term) _ e.types c.order e.order k))
        (at_most_next _ (code_bound funs numbers l.term T c.order) _ (term_at_most F I numbers l.term T (types_of e) c.order e.order (nothing_left (free_names l.term) T c.order d e
        (⊎_elim (λ w. absurd (true≢false (sym (state_whole funs all_typed n a c T u ga d s (record { at = w }) m) ∙ i))) (λ q. record { at = q })
        (whole_or_empty T d (free_in_state a) (free_names l.term) (λ x y mx my. agrees x y (and_second (is_some (c.types x) && is_some (c.types y)) (c.order x y) (g.typed.2 x y mx my))))) kl)) own))
    step_at_most (cat_state a l) c T _ g d s agrees le e k = absurd g.typed
    step_at_most (let_state x u a b) c T r g d s agrees le e k =
        let ga : IsReady funs n c T u a = ready_bound g in
        let o = place_let x (free_in_state a) true c.order in
        let gb : IsReady funs n (with_name x u o c) (put x u T) r b = ready_under g in
        let p = (run_state F a T u d).out in
        let free = free_in_state (rest_of F a T u d) in
        let m : (run_state F a T u d).calls ≤ n = omega (arith, le) in
        both_at_most _ _ _ _ (step_at_most a c T u ga d s agrees m e (gains_left (free_in_state a) (without x (free_in_state b)) _ e.types c.order e.order k))
        (step_at_most b (with_name x u o c) (put x u T) r gb (put x p d) (streams_put x u p T d (state_derives funs all_typed n a c T u ga d s) s)
        (let_agrees T c.order d x (free_in_state a) true u p agrees (λ v. state_whole funs all_typed n a c T u ga d s (record { at = v }) m) (λ q v. state_nothing funs all_typed n a c T u ga d (record { at = v })))
        (omega (arith, le)) (with_name x (der p u) (place_let x free true e.order) e)
        (leaves_put x u (der p u) p (free_in_state b) T c.order o (place_let x free true e.order) d e refl (gains_right (free_in_state a) (without x (free_in_state b)) _ e.types c.order e.order k)
        (within_on_let x (free_in_state a) free (free_in_state b) true true c.order e.order k.order (free_in_step F a T u d) (λ q. q))))
    step_at_most (let_par_state x y z a) c T r g d s agrees le e k =
        let same = type_in c T no_pasts g.extends z _ g.typed.1 in
        let form : T z ≡ par (par_left (T z)) (par_right (T z)) = subst (λ t. T z ≡ par (par_left t) (par_right t)) same (g.extends.stream z _ g.typed.1) in
        let hz : Derives (par (par_left (T z)) (par_right (T z))) (d z) = subst (λ t. Derives t (d z)) form (s.at z) in
        let q = par_parts hz in
        let inner = put y (par_right (T z)) (put x (par_left (T z)) T) in
        let d1 = put y (right_part (d z)) (put x (left_part (d z)) d) in
        let c1 = with_parts x (par_left (type_at c z)) y (par_right (type_at c z)) z c in
        let w = extends_name _ _ no_pasts y _ _ (place_like y z (place_like x z c.order)) (extends_name c T no_pasts x _ _ (place_like x z c.order) g.extends (ap par_left same)) (ap par_right same) in
        let ga : IsReady funs n c1 inner r a = record { extends = w; typed = g.typed.2; settled = g.settled; deep = g.deep } in
        pair_bound funs numbers x y z (par_left (T z)) (der (left_part (d z)) (par_left (T z))) (par_right (T z)) (der (right_part (d z)) (par_right (T z))) (left_part (d z)) (right_part (d z)) (free_in_state a) T c.order d e (rest_of F a inner r d1) (state_bound funs numbers a c1)
        (leaves_type _ T c.order d e k z (holds-head z _) ∙ ap Some (ap (der (d z)) form ∙ par_der hz)) refl refl k
        (λ e' k'. step_at_most a c1 inner r ga d1 (streams_put_two x y (par_left (T z)) (par_right (T z)) _ _ T d q.0 q.1 s)
        (pair_agrees T c.order d x y z (par_left (T z)) (par_right (T z)) (left_part (d z)) (right_part (d z)) agrees g.typed.0 (λ m. par_parts_whole hz m) (λ m. (ap left_part (m ∙ ap emp form), ap right_part (m ∙ ap emp form)))) le e' k')
    step_at_most (let_cat_state x y z a) c T r g d s agrees le e k =
        let same = type_in c T no_pasts g.extends z _ g.typed.1 in
        let form : T z ≡ cat (cat_first (T z)) (cat_second (T z)) = subst (λ t. T z ≡ cat (cat_first t) (cat_second t)) same (g.extends.stream z _ g.typed.1) in
        let hz : Derives (cat (cat_first (T z)) (cat_second (T z))) (d z) = subst (λ t. Derives t (d z)) form (s.at z) in
        let q = cat_parts hz in
        let inner = put y (cat_second (T z)) (put x (cat_first (T z)) T) in
        let d1 = put y (second_part (cat_second (T z)) (d z)) (put x (first_part (d z)) d) in
        let c1 = with_fact x y (with_parts x (cat_first (type_at c z)) y (cat_second (type_at c z)) z c) in
        let w = extends_name _ _ no_pasts y _ _ (place_like y z (place_like x z c.order)) (extends_name c T no_pasts x _ _ (place_like x z c.order) g.extends (ap cat_first same)) (ap cat_second same) in
        let ga : IsReady funs n c1 inner r a = record { extends = record { stream = w.stream; historical = w.historical }; typed = g.typed.2; settled = g.settled; deep = g.deep } in
        cut_bound funs numbers x y z (T z) (free_in_state a) T c.order d e (rest_of F a inner r d1) (state_bound funs numbers a c1) g.typed.0.from_subject g.typed.0.from_second form refl hz k
        (λ e' k'. step_at_most a c1 inner r ga d1 (streams_put_two x y (cat_first (T z)) (cat_second (T z)) _ _ T d q.0 q.1 s)
        (row_agrees T c.order d x y z (cat_first (T z)) (cat_second (T z)) (first_part (d z)) (second_part (cat_second (T z)) (d z)) agrees g.typed.0.from_subject g.typed.0.from_second (λ m. cat_parts_whole hz m)
        (λ m. (ap first_part (m ∙ ap emp form), ap (second_part (cat_second (T z))) (m ∙ ap emp form))) (cat_order hz)) le e' k')
    step_at_most (sum_state z t held x l y m) c T r g d s agrees le e k =
        let free = free_in_sum z x l y m in
        let B = types_held held in
        let O = facts_held held c.order in
        let p = with_held held d in
        let c' = context_held held c.order in
        let hd = g.typed.1 in
        let K = g.typed.2 in
        let at = inputs_held c T g.extends free held hd d _ _ (still_at T c.order d s agrees) in
        let w = held_extend funs all_typed c held in
        let same = type_in c' B no_pasts w z _ K.subject_typed in
        let form : B z ≡ sum (sum_left (B z)) (sum_right (B z)) = subst (λ u. B z ≡ sum (sum_left u) (sum_right u)) same (w.stream z _ K.subject_typed) in
        let kl = leaves_held c T free held g.extends hd d s e k in
        let runs : StreamPrefix → ℕ = λ o. (sum_run r o (λ u. run_later F l (put x (sum_left (B z)) B) r (put x u p)) (λ u. run_later F m (put y (sum_right (B z)) B) r (put y u p))).calls in
        let left = code_bound funs numbers l.term (put x (sum_left (B z)) B) (place_like x z O) in
        let right = code_bound funs numbers m.term (put y (sum_right (B z)) B) (place_like y z O) in
        let room = case_room B O z free in
        sum_rest_bound funs numbers z x y (B z) (free_names l.term) (free_names m.term) B O p e (sum_state z t (held_more held d) x l y m) (λ u. rest_later F l (put x (sum_left (B z)) B) r (put x u p)) (λ u. rest_later F m (put y (sum_right (B z)) B) r (put y u p))
        (greater room (greater left right)) (subst (λ u. Derives u (p z)) form (at.streams.at z)) kl
        (λ u i q e' k'. at_most_right _ room (greater left right) (at_most_left _ left right
        (code_at_most l _ (put x (sum_left (B z)) B) (place_like x z O) r K.left_typed.has_type (extends_name (with_past l.past c') B (known_types l.past) x _ _ _ (extends_past l.past c' B w) (ap sum_left same)) (ap (place_like x z) (past_order-same l.past c'))
        K.left_typed.binds_apart (known_values l.past K.left_typed.has_values) (All-head (HasDepth n) l (m ∷ []) g.deep) (put x u p) (streams_put x (sum_left (B z)) u B p q at.streams)
        (like_agrees B O p x z (sum_left (B z)) u at.agrees (λ j. sym (ap is_maximal i) ∙ j) (λ j. absurd (left_emp u (sym i ∙ (j ∙ ap emp form))))) (subst (λ o. runs o ≤ n) i le) e' k')))
        (λ u i q e' k'. at_most_right _ room (greater left right) (at_most_right _ left right
        (code_at_most m _ (put y (sum_right (B z)) B) (place_like y z O) r K.right_typed.has_type (extends_name (with_past m.past c') B (known_types m.past) y _ _ _ (extends_past m.past c' B w) (ap sum_right same)) (ap (place_like y z) (past_order-same m.past c'))
        K.right_typed.binds_apart (known_values m.past K.right_typed.has_values) (All-head (HasDepth n) m [] (All-tail (HasDepth n) l (m ∷ []) g.deep)) (put y u p) (streams_put y (sum_right (B z)) u B p q at.streams)
        (like_agrees B O p y z (sum_right (B z)) u at.agrees (λ j. sym (ap is_maximal i) ∙ j) (λ j. absurd (right_emp u (sym i ∙ (j ∙ ap emp form))))) (subst (λ o. runs o ≤ n) i le) e' k')))
        (λ i. term_at_most F I numbers (case_sum_term z t x l.term y m.term) B (types_held (held_more held d)) O (facts_held (held_more held d) e.order) (gains_held free B O e.order p (held_more held d) (more_holds c free held d hd) at.agrees kl.order))
    step_at_most (star_state z t held l y ys m) c T r g d s agrees le e k =
        let free = free_in_star z l y ys m in
        let B = types_held held in
        let O = facts_held held c.order in
        let p = with_held held d in
        let c' = context_held held c.order in
        let hd = g.typed.1 in
        let K = g.typed.2 in
        let at = inputs_held c T g.extends free held hd d _ _ (still_at T c.order d s agrees) in
        let w = held_extend funs all_typed c held in
        let same = type_in c' B no_pasts w z _ K.subject_typed in
        let form : B z ≡ star (star_item (B z)) = subst (λ u. B z ≡ star (star_item u)) same (w.stream z _ K.subject_typed) in
        let items : star_items (B z) ≡ star (star_item (B z)) = ap star_items form in
        let hz : Derives (star (star_item (B z))) (p z) = subst (λ u. Derives u (p z)) form (at.streams.at z) in
        let kl = leaves_held c T free held g.extends hd d s e k in
        let inner = put ys (star_items (B z)) (put y (star_item (B z)) B) in
        let O1 = put_before y ys (place_like ys z (place_like y z O)) in
        let one = extends_name (with_past m.past c') B (known_types m.past) y _ _ (place_like y z (with_past m.past c').order) (extends_past m.past c' B w) (ap star_item same) in
        let two = extends_name _ _ (known_types m.past) ys _ _ (place_like ys z (place_like y z (with_past m.past c').order)) one (ap star_items same) in
        let runs : StreamPrefix → ℕ = λ o. (star_run r o (run_later F l B r p) (λ u v. run_later F m (put ys (star_items (B z)) (put y (star_item (B z)) B)) r (put ys v (put y u p)))).calls in
        let left = code_bound funs numbers l.term B O in
        let right = code_bound funs numbers m.term inner O1 in
        let room = case_room B O z free in
        star_rest_bound funs numbers z y ys (B z) (free_names l.term) (free_names m.term) B O p e (star_state z t (held_more held d) l y ys m) (rest_later F l B r p) (λ u v. rest_later F m inner r (put ys v (put y u p)))
        (greater room (greater left right)) K.item_apart.from_subject K.item_apart.from_second refl form (items ∙ sym form) refl hz kl
        (λ i. at_most_right _ room (greater left right) (at_most_left _ left right
        (code_at_most l (with_past l.past c') B O r K.end_typed.has_type (extends_past l.past c' B w) (past_order-same l.past c') K.end_typed.binds_apart (known_values l.past K.end_typed.has_values) (All-head (HasDepth n) l (m ∷ []) g.deep) p at.streams at.agrees (subst (λ o. runs o ≤ n) i le) e
        (gains_left (free_names l.term) _ _ e.types O e.order (gains_tail z _ _ e.types O e.order kl)))))
        (λ u v i e' k'. at_most_right _ room (greater left right) (at_most_right _ left right
        (let came = star_came (star_item (B z)) (p z) u v hz i in
        code_at_most m _ inner O1 r K.item_typed.has_type (record { stream = two.stream; historical = two.historical }) (ap (λ o. put_before y ys (place_like ys z (place_like y z o))) (past_order-same m.past c'))
        K.item_typed.binds_apart (known_values m.past K.item_typed.has_values) (All-head (HasDepth n) m [] (All-tail (HasDepth n) l (m ∷ []) g.deep)) (put ys v (put y u p))
        (streams_put_two y ys (star_item (B z)) (star_items (B z)) u v B p came.0 (subst (λ q. Derives q v) (sym items) came.1) at.streams)
        (row_agrees B O p y ys z (star_item (B z)) (star_items (B z)) u v at.agrees K.item_apart.from_subject K.item_apart.from_second (λ j. came.2 j) (λ j. absurd (star_none u v (p z) i (j ∙ ap emp form))) (star_turn (star_item (B z)) (star_items (B z)) (p z) u v hz items i))
        (star_calls r n (p z) u v i (run_later F l B r p) (λ u v. run_later F m inner r (put ys v (put y u p))) le) e' k')))
        (λ i. term_at_most F I numbers (case_star_term z t l.term y ys m.term) B (types_held (held_more held d)) O (facts_held (held_more held d) e.order) (gains_held free B O e.order p (held_more held d) (more_holds c free held d hd) at.agrees kl.order))
    step_at_most (wait_state x t held l) c T r g d s agrees le e k =
        let free = free_in_wait x l in
        let B = types_held held in
        let O = facts_held held c.order in
        let p = with_held held d in
        let c' = context_held held c.order in
        let hd = g.typed.1 in
        let K = g.typed.2 in
        let at = inputs_held c T g.extends free held hd d _ _ (still_at T c.order d s agrees) in
        let w = held_extend funs all_typed c held in
        let same = type_in c' B no_pasts w x _ K.subject_typed in
        let kl = leaves_held c T free held g.extends hd d s e k in
        let known = knowing x (B x) (value_of (p x)) l in
        by_test (λ b. state_bound funs numbers (if b then rest_later F known B r p else wait_state x t (held_more held d) l) e ⊑ code_bound funs numbers (wait_term x t l.term) B O) (is_maximal (p x))
        (λ i. at_most_right _ (wait_room B O x free) (code_bound funs numbers l.term B O)
        (code_at_most known (with_known x (type_at c' x) (with_past l.past c')) B O r K.rest_typed.has_type
        (subst (λ u. Extends (with_known x u (with_past l.past c')) B (put x (Some (past_type (B x))) (known_types l.past))) (sym same) (extends_known (with_past l.past c') B (known_types l.past) x (B x) (extends_past l.past c' B w)))
        (past_order-same l.past c') K.rest_typed.binds_apart
        (pasts_put x (past_type (B x)) (value_of (p x)) (known_types l.past) (past_in l.past) (value_has_past (B x) (p x) (is_prefix (at.streams.at x)) i) (known_values l.past K.rest_typed.has_values))
        (All-head (HasDepth n) l [] g.deep) p at.streams at.agrees (subst (λ b. (wait_run r b (run_later F known B r p)).calls ≤ n) i le) e (gains_tail x (free_names l.term) _ e.types O e.order kl)))
        (λ i. term_at_most F I numbers (wait_term x t l.term) B (types_held (held_more held d)) O (facts_held (held_more held d) e.order) (gains_held free B O e.order p (held_more held d) (more_holds c free held d hd) at.agrees kl.order))
    step_at_most (frame_state args b) c T r g d s agrees le e k =
        let U = types_of_arguments args in
        let p = value_at eps_emp (argument_names args) (run_arguments F args T d).outs in
        let ready = ready_arguments g in
        let m : (run_arguments F args T d).calls ≤ n = omega (arith, le) in
        let grow = arguments_run_grow funs all_typed args c T g.extends g.typed.0 d d s (continues_same T d s) in
        let gb : IsReady funs n (context_of_arguments c args) U r b = ready_body g in
        both_at_most _ _ _ _ (steps_at_most args c T ready d s agrees m e k)
        (step_at_most b (context_of_arguments c args) U r gb p grow.streams (arguments_agree funs all_typed n args c T ready d s agrees m) (omega (arith, le)) (context_of_arguments e (rest_of_arguments F args T d))
        (frame_leaves funs args b c T r g.typed.1 d e k))

    -- and what is left of arguments no more than the arguments can
    pub steps_at_most : (args : ArgumentTrees) (c : Context) (T : NameTypes) → AreReady funs n c T args → (d : Environment) → Streams T d → Agrees T c.order d
        → (run_arguments F args T d).calls ≤ n → (e : Context) → Leaves (free_in_arguments args) T c.order d e → argument_bounds funs numbers (rest_of_arguments F args T d) e ⊑ argument_bounds funs numbers args c
    steps_at_most no_arguments c T g d s agrees le e k = omega arith
    steps_at_most (argument_before x t a args) c T g d s agrees le e k =
        both_at_most _ _ _ _
        (step_at_most a c T t (ready_argument g) d s agrees (omega (arith, le)) e (gains_left (free_in_state a) (free_in_arguments args) _ e.types c.order e.order k))
        (steps_at_most args c T (ready_others g) d s agrees (omega (arith, le)) e (gains_right (free_in_state a) (free_in_arguments args) _ e.types c.order e.order k))
