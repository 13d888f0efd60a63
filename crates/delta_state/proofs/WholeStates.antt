-- On whole streams a typed state gives a whole one, if its calls stay within the depths of its code.
use Rattle.std.proofs.Common.{◌≡◌, ◌∙◌, ◌≤◌, ℕ, Bool, true, false, List, [], ◌∷◌, ◌++◌, ◌&&◌, ap, ap₂, refl, sym, subst, arith, eqb, if◌then◌else◌}
use Rattle.std.specs.Prelude.{Some, IsTrue}
use Rattle.std.specs.List.{All}
use Rattle.std.proofs.lemmas.List.Elements.{All-nil, All-cons, All-head, All-tail}
use Rattle.stream_type.specs.StreamType.{StreamType, cat, par, sum, star}
use Rattle.stream_prefix.specs.StreamPrefix.{StreamPrefix, eps_emp, is_maximal}
use Rattle.stream_prefix.proofs.Derivations.{Derives, is_prefix}
use Rattle.stream_prefix.proofs.Joins.{is_maximal-emp}
use Rattle.bunch.specs.Names.{put, value_at}
use Rattle.bunch.specs.Facts.{place_like, place_let}
use Rattle.hist_value.specs.HistType.{past}
use Rattle.hist_value.specs.Wholes.{value_of}
use Rattle.hist_value.proofs.WholeLaws.{value_has_past}
use Rattle.core_term.specs.CoreTerm.{CoreBody, fun_at}
use Rattle.core_term.specs.FreeNames.{free_names, without}
use Rattle.core_term.specs.Environment.{Environment, NameTypes}
use Rattle.core_term.specs.Inert.{is_inert_fun}
use Rattle.core_term.specs.Parts.{par_left, par_right, cat_first, cat_second, sum_left, sum_right, star_item, star_items}
use Rattle.core_term.specs.Typing.{Context, type_at, types_of, IsTypedBody}
use Rattle.core_term.proofs.Sides.{holds-head}
use Rattle.core_term.proofs.TypedTerms.{Extends, type_in, extends_name, derive}
use Rattle.core_term.proofs.GrowingRuns.{Streams, par_parts, cat_parts, par_parts_whole, cat_parts_whole, streams_put, streams_put_two, continues_same}
use Rattle.core_term.proofs.Monotone.{pasts_put}
use Rattle.core_term.proofs.WholeRuns.{WholeOn, whole_put, cat_calls_first, cat_whole, wait_whole, sum_whole, star_whole, run_at_whole, whole_left, whole_right, whole_tail}
use Rattle.core_term.proofs.TypedRuns.{Any, typed_bodies}
use Rattle.delta_state.specs.StateTree.{LaterTree, StateTree, ArgumentTrees, sink, var_state, par_state, cat_state, let_state, let_par_state, let_cat_state, sum_state, star_state, wait_state, frame_state, no_arguments, argument_before, argument_names, free_in_state, free_in_arguments, free_in_sum, free_in_star, free_in_wait, laters_of, laters_in}
use Rattle.delta_state.specs.StateMeaning.{past_in, types_held, with_held, types_of_arguments, knowing, run_later, run_state, run_arguments}
use Rattle.delta_state.specs.StateTyping.{HasStateType, HaveArgumentTypes, IsTypedLater, IsTypedWait, with_known, with_past, context_held, context_of_arguments, no_pasts}
use Rattle.delta_state.specs.Laws.{StateIsWhole}
use Rattle.delta_state.proofs.HeldNames.{held_streams, held_whole, arguments_extend}
use Rattle.delta_state.proofs.GrowingStates.{known_types, extends_known, extends_past, known_values, held_extend, state_run_grows, arguments_run_grow, extends_free, streams_of}

-- what is true of each of two lists in a row is true of each of the first, and of the second
pub all_left : {A : Type 0} (P : A → Type 0) (xs ys : List A) → All P (xs ++ ys) → All P xs
all_left P [] ys h = All-nil P
all_left P (x ∷ xs) ys h = All-cons P x xs (All-head P x (xs ++ ys) h) (all_left P xs ys (All-tail P x (xs ++ ys) h))

pub all_right : {A : Type 0} (P : A → Type 0) (xs ys : List A) → All P (xs ++ ys) → All P ys
all_right P [] ys h = h
all_right P (x ∷ xs) ys h = all_right P xs ys (All-tail P x (xs ++ ys) h)

-- code has this depth or more
abbrev pub HasDepth : ℕ → LaterTree → Type 0
HasDepth n l = n ≤ l.depth

module _ (funs : List CoreBody) (typed : All (IsTypedBody funs) funs) (n : ℕ) where
  later_whole : (c : Context) (inside : Context → Context) (l : LaterTree) (r : StreamType) (T : NameTypes) → IsTypedLater funs (is_inert_fun funs) c inside l r → Extends (inside (with_past l.past c)) T (known_types l.past) → HasDepth n l
      → (d : Environment) → Streams T d → WholeOn (free_names l.term) d → (run_later (fun_at funs) l T r d).calls ≤ n → IsTrue (is_maximal (run_later (fun_at funs) l T r d).out)
  later_whole c inside l r T h x deep d s m le =
      run_at_whole (fun_at funs) (is_inert_fun funs) Any (typed_bodies funs typed) l.depth
      (derive funs (is_inert_fun funs) Any (λ u v. tt) l.term (inside (with_past l.past c)) T (known_types l.past) r x h.has_type) d (past_in l.past) s (known_values l.past h.has_values) m (omega (arith, deep, le))

  waited_whole : (c : Context) (x : ℕ) (l : LaterTree) (r : StreamType) (T : NameTypes) → IsTypedWait funs (is_inert_fun funs) c x l r → Extends c T no_pasts → HasDepth n l
      → (p : StreamPrefix) → Derives (T x) p → IsTrue (is_maximal p) → (d : Environment) → Streams T d → WholeOn (free_names l.term) d
      → (run_later (fun_at funs) (knowing x (T x) (value_of p) l) T r d).calls ≤ n → IsTrue (is_maximal (run_later (fun_at funs) (knowing x (T x) (value_of p) l) T r d).out)
  waited_whole c x l r T h w deep p k m d s f le =
      let same = type_in c T no_pasts w x _ h.subject_typed in
      run_at_whole (fun_at funs) (is_inert_fun funs) Any (typed_bodies funs typed) l.depth
      (derive funs (is_inert_fun funs) Any (λ u v. tt) l.term (with_known x (type_at c x) (with_past l.past c)) T (put x (Some (past (T x))) (known_types l.past)) r
      (subst (λ t. Extends (with_known x t (with_past l.past c)) T (put x (Some (past (T x))) (known_types l.past))) (sym same) (extends_known (with_past l.past c) T (known_types l.past) x (T x) (extends_past l.past c T w)))
      h.rest_typed.has_type) d (put x (value_of p) (past_in l.past)) s
      (pasts_put x (past (T x)) (value_of p) (known_types l.past) (past_in l.past) (value_has_past (T x) p (is_prefix k) m) (known_values l.past h.rest_typed.has_values)) f (omega (arith, deep, le))

  mutual
    pub state_run_whole : (s : StateTree) (c : Context) (T : NameTypes) (r : StreamType) → Extends c T no_pasts → HasStateType funs (is_inert_fun funs) c s r → All (HasDepth n) (laters_of s)
        → (d : Environment) → Streams T d → WholeOn (free_in_state s) d → (run_state (fun_at funs) s T r d).calls ≤ n → IsTrue (is_maximal (run_state (fun_at funs) s T r d).out)
    state_run_whole (sink t) c T r w k deep d s h le = is_maximal-emp t ∙ k.1
    state_run_whole (var_state x) c T r w k deep d s h le = h.at x (holds-head x [])
    state_run_whole (par_state a b) c T (par u v) w k deep d s h le =
        ap₂ ◌&&◌
        (state_run_whole a c T u w k.0 (all_left (HasDepth n) (laters_of a) (laters_of b) deep) d s (whole_left (free_in_state a) (free_in_state b) d h) (omega (arith, le)))
        (state_run_whole b c T v w k.1 (all_right (HasDepth n) (laters_of a) (laters_of b) deep) d s (whole_right (free_in_state a) (free_in_state b) d h) (omega (arith, le)))
    state_run_whole (par_state a b) c T _ w k deep d s h le = absurd k
    state_run_whole (cat_state a l) c T (cat u v) w k deep d s h le =
        let first = run_state (fun_at funs) a T u d in
        let second = run_later (fun_at funs) l T v d in
        cat_whole first second n
        (state_run_whole a c T u w k.0 (all_left (HasDepth n) (laters_of a) (l ∷ []) deep) d s (whole_left (free_in_state a) (free_names l.term) d h) (cat_calls_first first second n le)) le
        (later_whole c (λ q. q) l v T k.1 (extends_past l.past c T w) (All-head (HasDepth n) l [] (all_right (HasDepth n) (laters_of a) (l ∷ []) deep)) d s (whole_right (free_in_state a) (free_names l.term) d h))
    state_run_whole (cat_state a l) c T _ w k deep d s h le = absurd k
    state_run_whole (let_state x u a b) c T r w k deep d s h le =
        let i = state_run_whole a c T u w k.0 (all_left (HasDepth n) (laters_of a) (laters_of b) deep) d s (whole_left (free_in_state a) (without x (free_in_state b)) d h) (omega (arith, le)) in
        let j = (state_run_grows funs typed a c T u w k.0 d d s (continues_same T d s)).first in
        state_run_whole b _ (put x u T) r (extends_name c T no_pasts x u u (place_let x (free_in_state a) true c.order) w refl) k.1 (all_right (HasDepth n) (laters_of a) (laters_of b) deep) _
        (streams_put x u _ T d j s) (whole_put x _ d (free_in_state b) i (whole_right (free_in_state a) (without x (free_in_state b)) d h)) (omega (arith, le))
    state_run_whole (let_par_state x y z a) c T r w k deep d s h le =
        let same = type_in c T no_pasts w z _ k.1 in
        let form : T z ≡ par (par_left (T z)) (par_right (T z)) = subst (λ t. T z ≡ par (par_left t) (par_right t)) same (w.stream z _ k.1) in
        let hz = subst (λ t. Derives t (d z)) form (s.at z) in
        let i = par_parts hz in
        let j = par_parts_whole hz (h.at z (holds-head z (without x (without y (free_in_state a))))) in
        state_run_whole a _ _ r (extends_name _ _ no_pasts y _ _ (place_like y z (place_like x z c.order)) (extends_name c T no_pasts x _ _ (place_like x z c.order) w (ap par_left same)) (ap par_right same)) k.2 deep _
        (streams_put_two x y (par_left (T z)) (par_right (T z)) _ _ T d i.0 i.1 s) (whole_put y _ _ (free_in_state a) j.1 (whole_put x _ d (without y (free_in_state a)) j.0 (whole_tail z _ d h))) le
    state_run_whole (let_cat_state x y z a) c T r w k deep d s h le =
        let same = type_in c T no_pasts w z _ k.1 in
        let form : T z ≡ cat (cat_first (T z)) (cat_second (T z)) = subst (λ t. T z ≡ cat (cat_first t) (cat_second t)) same (w.stream z _ k.1) in
        let hz = subst (λ t. Derives t (d z)) form (s.at z) in
        let i = cat_parts hz in
        let j = cat_parts_whole hz (h.at z (holds-head z (without x (without y (free_in_state a))))) in
        let both = extends_name _ _ no_pasts y _ _ (place_like y z (place_like x z c.order)) (extends_name c T no_pasts x _ _ (place_like x z c.order) w (ap cat_first same)) (ap cat_second same) in
        state_run_whole a _ _ r (record { stream = both.stream; historical = both.historical }) k.2 deep _
        (streams_put_two x y (cat_first (T z)) (cat_second (T z)) _ _ T d i.0 i.1 s) (whole_put y _ _ (free_in_state a) j.1 (whole_put x _ d (without y (free_in_state a)) j.0 (whole_tail z _ d h))) le
    state_run_whole (sum_state z t held x l y m) c T r w k deep d s h le =
        let c' = context_held held c.order in
        let B = types_held held in
        let e = with_held held d in
        let same = type_in c' B no_pasts (held_extend funs typed c held) z _ k.2.subject_typed in
        let form : B z ≡ sum (sum_left (B z)) (sum_right (B z)) = subst (λ u. B z ≡ sum (sum_left u) (sum_right u)) same ((held_extend funs typed c held).stream z _ k.2.subject_typed) in
        let st = held_streams c T no_pasts w (free_in_sum z x l y m) held k.1 d s in
        let wh : WholeOn (free_in_sum z x l y m) e = record { at = λ u i. held_whole c T no_pasts w (free_in_sum z x l y m) held k.1 d s u i (h.at u i) } in
        let rest = whole_tail z (without x (free_names l.term) ++ without y (free_names m.term)) e wh in
        sum_whole r _ _ n (subst (λ u. Derives u (e z)) form (st.at z)) (wh.at z (holds-head z _)) le
        (λ u hu mu i. later_whole c' _ l r (put x (sum_left (B z)) B) k.2.left_typed (extends_name (with_past l.past c') B (known_types l.past) x _ _ _ (extends_past l.past c' B (held_extend funs typed c held)) (ap sum_left same))
        (All-head (HasDepth n) l (m ∷ []) deep) (put x u e) (streams_put x (sum_left (B z)) u B e hu st) (whole_put x u e (free_names l.term) mu (whole_left (without x (free_names l.term)) (without y (free_names m.term)) e rest)) i)
        (λ u hu mu i. later_whole c' _ m r (put y (sum_right (B z)) B) k.2.right_typed (extends_name (with_past m.past c') B (known_types m.past) y _ _ _ (extends_past m.past c' B (held_extend funs typed c held)) (ap sum_right same))
        (All-head (HasDepth n) m [] (All-tail (HasDepth n) l (m ∷ []) deep)) (put y u e) (streams_put y (sum_right (B z)) u B e hu st) (whole_put y u e (free_names m.term) mu (whole_right (without x (free_names l.term)) (without y (free_names m.term)) e rest)) i)
    state_run_whole (star_state z t held l y ys m) c T r w k deep d s h le =
        let c' = context_held held c.order in
        let B = types_held held in
        let e = with_held held d in
        let same = type_in c' B no_pasts (held_extend funs typed c held) z _ k.2.subject_typed in
        let form : B z ≡ star (star_item (B z)) = subst (λ u. B z ≡ star (star_item u)) same ((held_extend funs typed c held).stream z _ k.2.subject_typed) in
        let st = held_streams c T no_pasts w (free_in_star z l y ys m) held k.1 d s in
        let wh : WholeOn (free_in_star z l y ys m) e = record { at = λ u i. held_whole c T no_pasts w (free_in_star z l y ys m) held k.1 d s u i (h.at u i) } in
        let rest = whole_tail z (free_names l.term ++ without y (without ys (free_names m.term))) e wh in
        let one = extends_name (with_past m.past c') B (known_types m.past) y _ _ (place_like y z (with_past m.past c').order) (extends_past m.past c' B (held_extend funs typed c held)) (ap star_item same) in
        let two = extends_name _ _ (known_types m.past) ys _ _ (place_like ys z (place_like y z (with_past m.past c').order)) one (ap star_items same) in
        star_whole r _ _ n (subst (λ u. Derives u (e z)) form (st.at z)) (wh.at z (holds-head z _)) le
        (λ i. later_whole c' _ l r B k.2.end_typed (extends_past l.past c' B (held_extend funs typed c held)) (All-head (HasDepth n) l (m ∷ []) deep) e st (whole_left (free_names l.term) (without y (without ys (free_names m.term))) e rest) i)
        (λ u v hu hv mu mv i. later_whole c' _ m r (put ys (star_items (B z)) (put y (star_item (B z)) B)) k.2.item_typed (record { stream = two.stream; historical = two.historical }) (All-head (HasDepth n) m [] (All-tail (HasDepth n) l (m ∷ []) deep))
        (put ys v (put y u e)) (streams_put_two y ys (star_item (B z)) (star_items (B z)) u v B e hu (subst (λ q. Derives (star_items q) v) (sym form) hv) st)
        (whole_put ys v _ (free_names m.term) mv (whole_put y u e (without ys (free_names m.term)) mu (whole_right (free_names l.term) (without y (without ys (free_names m.term))) e rest))) i)
    state_run_whole (wait_state x t held l) c T r w k deep d s h le =
        let c' = context_held held c.order in
        let B = types_held held in
        let e = with_held held d in
        let st = held_streams c T no_pasts w (free_in_wait x l) held k.1 d s in
        let wh : WholeOn (free_in_wait x l) e = record { at = λ u i. held_whole c T no_pasts w (free_in_wait x l) held k.1 d s u i (h.at u i) } in
        let m = wh.at x (holds-head x (free_names l.term)) in
        wait_whole r (is_maximal (e x)) _ n m le
        (λ i. waited_whole c' x l r B k.2 (held_extend funs typed c held) (All-head (HasDepth n) l [] deep) (e x) (st.at x) m e st (whole_tail x (free_names l.term) e wh) i)
    state_run_whole (frame_state args b) c T r w k deep d s h le =
        let i = arguments_run_grow funs typed args c T w k.0 d d s (continues_same T d s) in
        let j = arguments_run_whole args c T w k.0 (all_left (HasDepth n) (laters_in args) (laters_of b) deep) d s h (omega (arith, le)) in
        state_run_whole b (context_of_arguments c args) (types_of_arguments args) r (arguments_extend c args) k.1 (all_right (HasDepth n) (laters_in args) (laters_of b) deep) _ i.streams (record { at = λ x m. j x }) (omega (arith, le))

    arguments_run_whole : (args : ArgumentTrees) (c : Context) (T : NameTypes) → Extends c T no_pasts → HaveArgumentTypes funs (is_inert_fun funs) c args → All (HasDepth n) (laters_in args)
        → (d : Environment) → Streams T d → WholeOn (free_in_arguments args) d → (run_arguments (fun_at funs) args T d).calls ≤ n
        → (x : ℕ) → IsTrue (is_maximal (value_at eps_emp (argument_names args) (run_arguments (fun_at funs) args T d).outs x))
    arguments_run_whole no_arguments c T w k deep d s h le x = refl
    arguments_run_whole (argument_before u t a args) c T w k deep d s h le x =
        by_name (eqb x u) (state_run_whole a c T t w k.0 (all_left (HasDepth n) (laters_of a) (laters_in args) deep) d s (whole_left (free_in_state a) (free_in_arguments args) d h) (omega (arith, le)))
        (arguments_run_whole args c T w k.1 (all_right (HasDepth n) (laters_of a) (laters_in args) deep) d s (whole_right (free_in_state a) (free_in_arguments args) d h) (omega (arith, le)) x)
      where
        by_name : (b : Bool) → IsTrue (is_maximal (run_state (fun_at funs) a T t d).out) → IsTrue (is_maximal (value_at eps_emp (argument_names args) (run_arguments (fun_at funs) args T d).outs x))
            → IsTrue (is_maximal (if b then (run_state (fun_at funs) a T t d).out else value_at eps_emp (argument_names args) (run_arguments (fun_at funs) args T d).outs x))
        by_name true first rest = first
        by_name false first rest = rest

pub state_is_whole : StateIsWhole
state_is_whole funs c s r env n typed h deep whole le =
    state_run_whole funs typed.funs_typed n s c (types_of c) r (extends_free c typed.none_past) typed.state_typed deep env (streams_of c env h) (record { at = whole }) le
