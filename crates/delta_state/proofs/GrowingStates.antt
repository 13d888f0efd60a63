-- A typed state's run is of its type, and on more input it gives no less and makes no fewer calls.
use Rattle.std.proofs.Common.{◌≡◌, ◌∙◌, ◌≤◌, ℕ, Bool, true, false, List, [], ◌∷◌, ap, refl, sym, subst, arith, eqb, if◌then◌else◌}
use Rattle.std.specs.Prelude.{Some, None, IsTrue, unwrap_or}
use Rattle.std.specs.List.{All}
use Rattle.std.proofs.lemmas.List.Elements.{All-head, All-tail}
use Rattle.stream_type.specs.StreamType.{StreamType, eps, cat, par, sum, star}
use Rattle.stream_prefix.specs.StreamPrefix.{StreamPrefix, eps_emp, is_maximal, IsPart}
use Rattle.stream_prefix.proofs.Derivations.{Derives, derives, is_prefix, eps_has_emp}
use Rattle.stream_prefix.proofs.Joins.{emp_is_prefix}
use Rattle.stream_prefix.proofs.Parts.{part_refl}
use Rattle.bunch.specs.Names.{put, value_at}
use Rattle.bunch.specs.Facts.{place_like, place_let}
use Rattle.hist_value.specs.HistType.{HistType, past}
use Rattle.hist_value.specs.HistValue.{HasType as HasValueType}
use Rattle.hist_value.specs.Wholes.{value_of}
use Rattle.hist_value.specs.Laws.{HasTypes}
use Rattle.hist_value.proofs.WholeLaws.{value_has_past}
use Rattle.core_term.specs.CoreTerm.{CoreBody, fun_at}
use Rattle.core_term.specs.Environment.{Environment, NameTypes, IsTyped}
use Rattle.core_term.specs.Inert.{is_inert_fun}
use Rattle.core_term.specs.Parts.{par_left, par_right, cat_first, cat_second, sum_left, sum_right, star_item, star_items}
use Rattle.core_term.specs.Run.{Run, Runs, frame_run}
use Rattle.core_term.specs.Typing.{Context, type_at, types_of, IsTypedBody}
use Rattle.core_term.proofs.TypedTerms.{PastTypes, Extends, type_in, extends_name, derive}
use Rattle.core_term.proofs.GrowingRuns.{Grows, Streams, Continues, quiet_grows, quiet_same, par_grows, cat_grows, let_grows, sum_grows, star_grows, wait_grows, par_parts, cat_parts, par_parts_grow, cat_parts_grow, streams_put, streams_put_two, continues_put, continues_put_two, continued_streams, continues_same}
use Rattle.core_term.proofs.Monotone.{pasts_put, run_at_grows}
use Rattle.core_term.proofs.TypedRuns.{Any, typed_bodies}
use Rattle.delta_state.specs.StateTree.{Known, HeldName, LaterTree, StateTree, ArgumentTrees, sink, var_state, par_state, cat_state, let_state, let_par_state, let_cat_state, sum_state, star_state, wait_state, frame_state, no_arguments, argument_before, is_var_state, argument_names, free_in_state, free_in_sum, free_in_star, free_in_wait}
use Rattle.delta_state.specs.StateMeaning.{past_in, types_held, with_held, types_of_arguments, knowing, run_later, run_sum, run_star, run_wait, run_state, run_arguments}
use Rattle.delta_state.specs.StateTyping.{HasStateType, HaveArgumentTypes, IsTypedLater, IsTypedSum, IsTypedStar, IsTypedWait, with_known, with_past, context_held, context_of_arguments, no_pasts}
use Rattle.delta_state.specs.Laws.{StateIsTyped, StateGrows}
use Rattle.delta_state.proofs.HeldNames.{mark_is, held_streams, held_continues, arguments_extend}

-- the types of known names
abbrev pub known_types : List Known → PastTypes
known_types [] = no_pasts
known_types (e ∷ es) = put e.name (Some (past e.type)) (known_types es)

-- the types of a context's names are still known once a name has a value
pub extends_known : (c : Context) (T : NameTypes) (H : PastTypes) (x : ℕ) (t : StreamType) → Extends c T H → Extends (with_known x t c) T (put x (Some (past t)) H)
extends_known c T H x t h = record { stream = h.stream; historical = λ y u k. historical y u (eqb y x) k }
  where
    historical : (y : ℕ) (u : HistType) (b : Bool) → (if b then Some (past t) else c.past y) ≡ Some u → (if b then Some (past t) else H y) ≡ Some u
    historical y u true k = k
    historical y u false k = h.historical y u k

pub extends_past : (es : List Known) (c : Context) (T : NameTypes) → Extends c T no_pasts → Extends (with_past es c) T (known_types es)
extends_past [] c T h = h
extends_past (e ∷ es) c T h = extends_known (with_past es c) T (known_types es) e.name e.type (extends_past es c T h)

-- known values have the types of their names
pub known_values : (es : List Known) → All (λ e. HasValueType (past e.type) e.value) es → HasTypes (known_types es) (past_in es)
known_values [] h = λ x t k. absurd (cc k)
known_values (e ∷ es) h =
    pasts_put e.name (past e.type) e.value (known_types es) (past_in es) (All-head (λ e. HasValueType (past e.type) e.value) e es h)
    (known_values es (All-tail (λ e. HasValueType (past e.type) e.value) e es h))

-- what arguments give grows
pub record GrowArguments (args : ArgumentTrees) (a b : Runs) : Type 0 where
  pub streams : Streams (types_of_arguments args) (value_at eps_emp (argument_names args) a.outs)
  pub continues : Continues (types_of_arguments args) (value_at eps_emp (argument_names args) a.outs) (value_at eps_emp (argument_names args) b.outs)
  pub calls : a.calls ≤ b.calls

frame_grows : {args : ArgumentTrees} {r : StreamType} {a b : Runs} {x y : Run} → GrowArguments args a b → Grows r x y → Grows r (frame_run a x) (frame_run b y)
frame_grows h k = record { first = k.first; next = k.next; part = k.part; calls = omega (arith, h.calls, k.calls) }

module _ (funs : List CoreBody) (typed : All (IsTypedBody funs) funs) where
  -- code that is reached, over the types T that its context has
  pub later_grows : (c : Context) (inside : Context → Context) (l : LaterTree) (r : StreamType) (T : NameTypes) → IsTypedLater funs (is_inert_fun funs) c inside l r → Extends (inside (with_past l.past c)) T (known_types l.past)
      → (d e : Environment) → Streams T d → Continues T d e → Grows r (run_later (fun_at funs) l T r d) (run_later (fun_at funs) l T r e)
  later_grows c inside l r T h x d e s g =
      run_at_grows (fun_at funs) (is_inert_fun funs) Any (typed_bodies funs typed) l.depth
      (derive funs (is_inert_fun funs) Any (λ u v. tt) l.term (inside (with_past l.past c)) T (known_types l.past) r x h.has_type) d e (past_in l.past) s g (known_values l.past h.has_values)

  -- a held case and wait on more
  sum_later : (c : Context) (z x : ℕ) (l : LaterTree) (y : ℕ) (m : LaterTree) (r : StreamType) (T : NameTypes) → IsTypedSum funs (is_inert_fun funs) c z x l y m r → Extends c T no_pasts
      → (d e : Environment) → Streams T d → Continues T d e → Grows r (run_sum (fun_at funs) z x l y m T r d) (run_sum (fun_at funs) z x l y m T r e)
  sum_later c z x l y m r T h w d e s g =
      let same = type_in c T no_pasts w z _ h.subject_typed in
      let form : T z ≡ sum (sum_left (T z)) (sum_right (T z)) = subst (λ t. T z ≡ sum (sum_left t) (sum_right t)) same (w.stream z _ h.subject_typed) in
      sum_grows
      (λ u v i k. later_grows c _ l r (put x (sum_left (T z)) T) h.left_typed (extends_name (with_past l.past c) T (known_types l.past) x _ _ _ (extends_past l.past c T w) (ap sum_left same))
      (put x u d) (put x v e) (streams_put x (sum_left (T z)) u T d i s) (continues_put x (sum_left (T z)) u v T d e k g))
      (λ u v i k. later_grows c _ m r (put y (sum_right (T z)) T) h.right_typed (extends_name (with_past m.past c) T (known_types m.past) y _ _ _ (extends_past m.past c T w) (ap sum_right same))
      (put y u d) (put y v e) (streams_put y (sum_right (T z)) u T d i s) (continues_put y (sum_right (T z)) u v T d e k g))
      (subst (λ t. Derives t (d z)) form (s.at z)) (subst (λ t. IsPart t (d z) (e z)) form (g.at z))

  star_later : (c : Context) (z : ℕ) (l : LaterTree) (y ys : ℕ) (m : LaterTree) (r : StreamType) (T : NameTypes) → IsTypedStar funs (is_inert_fun funs) c z l y ys m r → Extends c T no_pasts
      → (d e : Environment) → Streams T d → Continues T d e → Grows r (run_star (fun_at funs) z l y ys m T r d) (run_star (fun_at funs) z l y ys m T r e)
  star_later c z l y ys m r T h w d e s g =
      let same = type_in c T no_pasts w z _ h.subject_typed in
      let form : T z ≡ star (star_item (T z)) = subst (λ t. T z ≡ star (star_item t)) same (w.stream z _ h.subject_typed) in
      let one = extends_name (with_past m.past c) T (known_types m.past) y _ _ (place_like y z (with_past m.past c).order) (extends_past m.past c T w) (ap star_item same) in
      let two = extends_name _ _ (known_types m.past) ys _ _ (place_like ys z (place_like y z (with_past m.past c).order)) one (ap star_items same) in
      star_grows (later_grows c _ l r T h.end_typed (extends_past l.past c T w) d e s g)
      (λ u u' v v' i j k q. later_grows c _ m r (put ys (star_items (T z)) (put y (star_item (T z)) T)) h.item_typed (record { stream = two.stream; historical = two.historical })
      (put ys v (put y u d)) (put ys v' (put y u' e))
      (streams_put_two y ys (star_item (T z)) (star_items (T z)) u v T d i (subst (λ t. Derives (star_items t) v) (sym form) j) s)
      (continues_put_two y ys (star_item (T z)) (star_items (T z)) u u' v v' T d e k (subst (λ t. IsPart (star_items t) v v') (sym form) q) g))
      (subst (λ t. Derives t (d z)) form (s.at z)) (subst (λ t. IsPart t (d z) (e z)) form (g.at z))

  -- what follows a wait, once its subject is whole
  pub waited_grows : (c : Context) (x : ℕ) (l : LaterTree) (r : StreamType) (T : NameTypes) → IsTypedWait funs (is_inert_fun funs) c x l r → Extends c T no_pasts
      → (p : StreamPrefix) → Derives (T x) p → IsTrue (is_maximal p) → (d e : Environment) → Streams T d → Continues T d e
      → Grows r (run_later (fun_at funs) (knowing x (T x) (value_of p) l) T r d) (run_later (fun_at funs) (knowing x (T x) (value_of p) l) T r e)
  waited_grows c x l r T h w p k m d e s g =
      let same = type_in c T no_pasts w x _ h.subject_typed in
      run_at_grows (fun_at funs) (is_inert_fun funs) Any (typed_bodies funs typed) l.depth
      (derive funs (is_inert_fun funs) Any (λ u v. tt) l.term (with_known x (type_at c x) (with_past l.past c)) T (put x (Some (past (T x))) (known_types l.past)) r
      (subst (λ t. Extends (with_known x t (with_past l.past c)) T (put x (Some (past (T x))) (known_types l.past))) (sym same) (extends_known (with_past l.past c) T (known_types l.past) x (T x) (extends_past l.past c T w)))
      h.rest_typed.has_type) d e (put x (value_of p) (past_in l.past)) s g
      (pasts_put x (past (T x)) (value_of p) (known_types l.past) (past_in l.past) (value_has_past (T x) p (is_prefix k) m) (known_values l.past h.rest_typed.has_values))

  wait_later : (c : Context) (x : ℕ) (l : LaterTree) (r : StreamType) (T : NameTypes) → IsTypedWait funs (is_inert_fun funs) c x l r → Extends c T no_pasts
      → (d e : Environment) → Streams T d → Continues T d e → Grows r (run_wait (fun_at funs) x l T r d) (run_wait (fun_at funs) x l T r e)
  wait_later c x l r T h w d e s g =
      let i = continued_streams T d e s g in
      wait_grows (λ p. run_later (fun_at funs) (knowing x (T x) (value_of p) l) T r d) (λ p. run_later (fun_at funs) (knowing x (T x) (value_of p) l) T r e) (s.at x) (g.at x)
      (λ m. waited_grows c x l r T h w (d x) (s.at x) m d e s g)
      (λ m. (waited_grows c x l r T h w (e x) (i.at x) m e e i (continues_same T e i)).first)

  -- the context of what is held
  pub held_extend : (c : Context) (held : List HeldName) → Extends (context_held held c.order) (types_held held) no_pasts
  held_extend c held = record { stream = mark_is held; historical = λ x h e. absurd (cc e) }

  mutual
    pub state_run_grows : (s : StateTree) (c : Context) (T : NameTypes) (r : StreamType) → Extends c T no_pasts → HasStateType funs (is_inert_fun funs) c s r → (d e : Environment) → Streams T d → Continues T d e
        → Grows r (run_state (fun_at funs) s T r d) (run_state (fun_at funs) s T r e)
    state_run_grows (sink t) c T r w k d e s g = subst (λ u. Grows u (run_state (fun_at funs) (sink t) T r d) (run_state (fun_at funs) (sink t) T r e)) k.0 (quiet_same (emp_is_prefix t))
    state_run_grows (var_state x) c T r w k d e s g = quiet_grows (subst (λ t. Derives t (d x)) (w.stream x r k) (s.at x)) (subst (λ t. IsPart t (d x) (e x)) (w.stream x r k) (g.at x))
    state_run_grows (par_state a b) c T (par u v) w k d e s g = par_grows (state_run_grows a c T u w k.0 d e s g) (state_run_grows b c T v w k.1 d e s g)
    state_run_grows (par_state a b) c T _ w k d e s g = absurd k
    state_run_grows (cat_state a l) c T (cat u v) w k d e s g = cat_grows (state_run_grows a c T u w k.0 d e s g) (later_grows c (λ q. q) l v T k.1 (extends_past l.past c T w) d e s g)
    state_run_grows (cat_state a l) c T _ w k d e s g = absurd k
    state_run_grows (let_state x u a b) c T r w k d e s g =
        let i = state_run_grows a c T u w k.0 d e s g in
        let_grows (is_var_state a) i
        (state_run_grows b _ (put x u T) r (extends_name c T no_pasts x u u (place_let x (free_in_state a) true c.order) w refl) k.1 _ _ (streams_put x u _ T d i.first s) (continues_put x u _ _ T d e i.part g))
    state_run_grows (let_par_state x y z a) c T r w k d e s g =
        let same = type_in c T no_pasts w z _ k.1 in
        let form : T z ≡ par (par_left (T z)) (par_right (T z)) = subst (λ t. T z ≡ par (par_left t) (par_right t)) same (w.stream z _ k.1) in
        let hz = subst (λ t. Derives t (d z)) form (s.at z) in
        let i = par_parts hz in
        let j = par_parts_grow hz (subst (λ t. IsPart t (d z) (e z)) form (g.at z)) in
        state_run_grows a _ _ r (extends_name _ _ no_pasts y _ _ (place_like y z (place_like x z c.order)) (extends_name c T no_pasts x _ _ (place_like x z c.order) w (ap par_left same)) (ap par_right same)) k.2 _ _
        (streams_put_two x y (par_left (T z)) (par_right (T z)) _ _ T d i.0 i.1 s) (continues_put_two x y (par_left (T z)) (par_right (T z)) _ _ _ _ T d e j.0 j.1 g)
    state_run_grows (let_cat_state x y z a) c T r w k d e s g =
        let same = type_in c T no_pasts w z _ k.1 in
        let form : T z ≡ cat (cat_first (T z)) (cat_second (T z)) = subst (λ t. T z ≡ cat (cat_first t) (cat_second t)) same (w.stream z _ k.1) in
        let hz = subst (λ t. Derives t (d z)) form (s.at z) in
        let i = cat_parts hz in
        let j = cat_parts_grow hz (subst (λ t. IsPart t (d z) (e z)) form (g.at z)) in
        let both = extends_name _ _ no_pasts y _ _ (place_like y z (place_like x z c.order)) (extends_name c T no_pasts x _ _ (place_like x z c.order) w (ap cat_first same)) (ap cat_second same) in
        state_run_grows a _ _ r (record { stream = both.stream; historical = both.historical }) k.2 _ _
        (streams_put_two x y (cat_first (T z)) (cat_second (T z)) _ _ T d i.0 i.1 s) (continues_put_two x y (cat_first (T z)) (cat_second (T z)) _ _ _ _ T d e j.0 j.1 g)
    state_run_grows (sum_state z t held x l y m) c T r w k d e s g =
        sum_later (context_held held c.order) z x l y m r (types_held held) k.2 (held_extend c held) (with_held held d) (with_held held e)
        (held_streams c T no_pasts w (free_in_sum z x l y m) held k.1 d s) (held_continues c T no_pasts w (free_in_sum z x l y m) held k.1 d e s g)
    state_run_grows (star_state z t held l y ys m) c T r w k d e s g =
        star_later (context_held held c.order) z l y ys m r (types_held held) k.2 (held_extend c held) (with_held held d) (with_held held e)
        (held_streams c T no_pasts w (free_in_star z l y ys m) held k.1 d s) (held_continues c T no_pasts w (free_in_star z l y ys m) held k.1 d e s g)
    state_run_grows (wait_state x t held l) c T r w k d e s g =
        wait_later (context_held held c.order) x l r (types_held held) k.2 (held_extend c held) (with_held held d) (with_held held e)
        (held_streams c T no_pasts w (free_in_wait x l) held k.1 d s) (held_continues c T no_pasts w (free_in_wait x l) held k.1 d e s g)
    state_run_grows (frame_state args b) c T r w k d e s g =
        let i = arguments_run_grow args c T w k.0 d e s g in
        frame_grows i (state_run_grows b (context_of_arguments c args) (types_of_arguments args) r (arguments_extend c args) k.1 _ _ i.streams i.continues)

    pub arguments_run_grow : (args : ArgumentTrees) (c : Context) (T : NameTypes) → Extends c T no_pasts → HaveArgumentTypes funs (is_inert_fun funs) c args → (d e : Environment) → Streams T d → Continues T d e
        → GrowArguments args (run_arguments (fun_at funs) args T d) (run_arguments (fun_at funs) args T e)
    arguments_run_grow no_arguments c T w k d e s g = record { streams = record { at = λ x. eps_has_emp }; continues = record { at = λ x. part_refl eps_has_emp }; calls = omega arith }
    arguments_run_grow (argument_before u t a args) c T w k d e s g =
        let i = state_run_grows a c T t w k.0 d e s g in
        let j = arguments_run_grow args c T w k.1 d e s g in
        record {
          streams = streams_put u t (run_state (fun_at funs) a T t d).out (types_of_arguments args) _ i.first j.streams;
          continues = continues_put u t (run_state (fun_at funs) a T t d).out (run_state (fun_at funs) a T t e).out (types_of_arguments args) _ _ i.part j.continues;
          calls = omega (arith, i.calls, j.calls);
        }

-- in a context without historical names
pub extends_free : (c : Context) → ((x : ℕ) → c.past x ≡ None) → Extends c (types_of c) no_pasts
extends_free c none = record { stream = λ x s e. ap (λ o. unwrap_or o eps) e; historical = λ x h e. absurd (let clash : None ≡ Some h = sym (none x) ∙ e in let no : ⊥ = cc in no) }

pub streams_of : (c : Context) (env : Environment) → IsTyped (types_of c) env → Streams (types_of c) env
streams_of c env h = record { at = λ x. derives (types_of c x) (env x) (h x) }

pub state_is_typed : StateIsTyped
state_is_typed funs c s r env typed h =
    let i = streams_of c env h in
    is_prefix (state_run_grows funs typed.funs_typed s c (types_of c) r (extends_free c typed.none_past) typed.state_typed env env i (continues_same (types_of c) env i)).first

pub state_grows : StateGrows
state_grows funs c s r env other typed h more =
    let x = state_run_grows funs typed.funs_typed s c (types_of c) r (extends_free c typed.none_past) typed.state_typed env other (streams_of c env h) (record { at = more }) in
    (x.part, x.calls)
