-- A typed kept state is tidy: what its types say of streams and binders keeps the waits of its code apart.
use Rattle.std.proofs.Common.{◌≡◌, ℕ, Bool, true, false, true≢false, List, [], ◌∷◌, ◌++◌, eqb, if◌then◌else◌, ap, refl, subst, sym}
use Rattle.std.proofs.lemmas.Bool.{eqb-true}
use Rattle.std.specs.Prelude.{Some, is_some}
use Rattle.std.specs.List.{All}
use Rattle.std.proofs.lemmas.List.Elements.{All-head, All-tail}
use Rattle.stream_type.specs.StreamType.{StreamType, cat, par}
use Rattle.stream_prefix.specs.StreamPrefix.{der}
use Rattle.bunch.specs.BunchTree.{leaf_names}
use Rattle.core_term.specs.CoreTerm.{CoreBody}
use Rattle.core_term.specs.FreeNames.{bound_names, is_distinct}
use Rattle.core_term.specs.Inert.{is_inert_fun}
use Rattle.core_term.specs.Parts.{par_left, par_right, cat_first, cat_second, sum_left, sum_right, star_item, star_items}
use Rattle.core_term.specs.Typing.{Context, type_at, with_name_like, with_fact, with_parts}
use Rattle.core_term.proofs.Sides.{holds-right}
use Rattle.core_term.proofs.BoundOnce.{not_again, distinct_tail, distinct_left, distinct_right, distinct_apart}
use Rattle.delta_state.specs.StateTree.{HeldName, LaterTree, StateTree, ArgumentTrees, sink, var_state, par_state, cat_state, let_state, let_par_state, let_cat_state, sum_state, star_state, wait_state, frame_state, no_arguments, argument_before, argument_names}
use Rattle.delta_state.specs.StateTyping.{HasStateType, HaveArgumentTypes, IsTypedLater, with_known, with_past, marks_held, context_held, context_of_arguments}
use Rattle.state_steps.proofs.KnownNames.{past_types-same}
use Rattle.state_steps.proofs.StateSteps.{parameter_there}
use Rattle.kept_state.specs.KeptNames.{bound_in_state, bound_in_arguments, BodiesOnce, BodiesOnceIn, WaitsApart, CodeWaitsApart, CodeWaitsApartIn}
use Rattle.kept_state.specs.KeptTyping.{types_kept, context_kept}
use Rattle.kept_state.specs.Laws.{TypedIsTidy}
use Rattle.kept_state.proofs.TidyPrograms.{there}
use Rattle.kept_state.proofs.TypedWaits.{NotBound, not_bound_put, not_left, not_right, not_tail, not_bound_there, not_bound_two, typed_waits}

-- a name of which something is held is a stream of the context
pub held_there : (c : Context) (held : List HeldName) → All (λ h. c.types h.name ≡ Some (der h.prefix h.type)) held → (x : ℕ) → is_some (marks_held held x) ≡ true → is_some (c.types x) ≡ true
held_there c [] a x m = absurd (true≢false (sym m))
held_there c (h ∷ held) a x m =
    go (eqb x h.name) refl m (All-head (λ h. c.types h.name ≡ Some (der h.prefix h.type)) h held a) (held_there c held (All-tail (λ h. c.types h.name ≡ Some (der h.prefix h.type)) h held a) x)
  where
    go : (i : Bool) → eqb x h.name ≡ i → is_some (if i then Some h.type else marks_held held x) ≡ true → c.types h.name ≡ Some (der h.prefix h.type) → (is_some (marks_held held x) ≡ true → is_some (c.types x) ≡ true) → is_some (c.types x) ≡ true
    go true e k o f = subst (λ z. is_some (c.types z) ≡ true) (sym (eqb-true x h.name e)) (ap is_some o)
    go false e k o f = f k

module _ (funs : List CoreBody) (counts : ℕ → Bool) where
  -- the waits of code that isn't reached are apart, where its form binds no name for it,
  later_waits : (l : LaterTree) (c : Context) (r : StreamType) → IsTypedLater funs counts c (λ d. d) l r → NotBound c.types (bound_names l.term) → is_distinct (bound_names l.term) ≡ true → WaitsApart l.term
  later_waits l c r h n d = typed_waits funs counts l.term (with_past l.past c) r h.has_type (subst (λ T. NotBound T (bound_names l.term)) (sym (past_types-same l.past c)) n) d

  -- where it binds x,
  later_waits_one : (l : LaterTree) (c : Context) (r : StreamType) (x : ℕ) (s : StreamType) (z : ℕ) → IsTypedLater funs counts c (with_name_like x s z) l r → NotBound c.types (x ∷ bound_names l.term) → is_distinct (x ∷ bound_names l.term) ≡ true → WaitsApart l.term
  later_waits_one l c r x s z h n d =
      typed_waits funs counts l.term (with_name_like x s z (with_past l.past c)) r h.has_type
      (subst (λ T. NotBound (λ y. if eqb y x then Some s else T y) (bound_names l.term)) (sym (past_types-same l.past c)) (not_bound_put x s c.types (bound_names l.term) (not_again x (bound_names l.term) d) (not_tail c.types x (bound_names l.term) n)))
      (distinct_tail x (bound_names l.term) d)

  -- and where it binds x and y
  later_waits_two : (l : LaterTree) (c : Context) (r : StreamType) (x y : ℕ) (s t : StreamType) (z : ℕ) → IsTypedLater funs counts c (λ d. with_fact x y (with_parts x s y t z d)) l r → NotBound c.types (x ∷ (y ∷ bound_names l.term)) → is_distinct (x ∷ (y ∷ bound_names l.term)) ≡ true → WaitsApart l.term
  later_waits_two l c r x y s t z h n d =
      typed_waits funs counts l.term (with_fact x y (with_parts x s y t z (with_past l.past c))) r h.has_type
      (subst (λ T. NotBound (λ w. if eqb w y then Some t else (if eqb w x then Some s else T w)) (bound_names l.term)) (sym (past_types-same l.past c)) (not_bound_two x y s t c.types (bound_names l.term) d n))
      (distinct_tail y (bound_names l.term) (distinct_tail x (y ∷ bound_names l.term) d))

  mutual
    -- the waits of all code in a typed state that binds each name once, and no stream of its context, are apart
    state_waits : (s : StateTree) (c : Context) (r : StreamType) → HasStateType funs counts c s r → BodiesOnce s → NotBound c.types (bound_in_state s) → is_distinct (bound_in_state s) ≡ true → CodeWaitsApart s
    state_waits (sink t) c r h o n d = tt
    state_waits (var_state x) c r h o n d = tt
    state_waits (par_state a b) c (par s t) h o n d = (
      state_waits a c s h.0 o.0 (not_left c.types (bound_in_state a) (bound_in_state b) n) (distinct_left (bound_in_state a) (bound_in_state b) d),
      state_waits b c t h.1 o.1 (not_right c.types (bound_in_state a) (bound_in_state b) n) (distinct_right (bound_in_state a) (bound_in_state b) d),
    )
    state_waits (par_state a b) c _ h o n d = absurd h
    state_waits (cat_state a l) c (cat s t) h o n d = (
      state_waits a c s h.0 o (not_left c.types (bound_in_state a) (bound_names l.term) n) (distinct_left (bound_in_state a) (bound_names l.term) d),
      later_waits l c t h.1 (not_right c.types (bound_in_state a) (bound_names l.term) n) (distinct_right (bound_in_state a) (bound_names l.term) d),
    )
    state_waits (cat_state a l) c _ h o n d = absurd h
    state_waits (let_state x s a b) c r h o n d =
        let ba = bound_in_state a in
        let bb = bound_in_state b in
        let n' = not_tail c.types x (ba ++ bb) n in
        let d' = distinct_tail x (ba ++ bb) d in (
          state_waits a c s h.0 o.0 (not_left c.types ba bb n') (distinct_left ba bb d'),
          state_waits b _ r h.1 o.1 (not_bound_put x s c.types bb (λ m. not_again x (ba ++ bb) d (holds-right x ba bb m)) (not_right c.types ba bb n')) (distinct_right ba bb d'),
        )
    state_waits (let_par_state x y z a) c r h o n d =
        state_waits a _ r h.2 o (not_bound_two x y (par_left (type_at c z)) (par_right (type_at c z)) c.types (bound_in_state a) d n) (distinct_tail y (bound_in_state a) (distinct_tail x (y ∷ bound_in_state a) d))
    state_waits (let_cat_state x y z a) c r h o n d =
        state_waits a _ r h.2 o (not_bound_two x y (cat_first (type_at c z)) (cat_second (type_at c z)) c.types (bound_in_state a) d n) (distinct_tail y (bound_in_state a) (distinct_tail x (y ∷ bound_in_state a) d))
    state_waits (sum_state z t held x l y m) c r h o n d =
        let k = context_held held c.order in
        let bl = bound_names l.term in
        let bm = bound_names m.term in
        let n' : NotBound (marks_held held) ((x ∷ bl) ++ (y ∷ bm)) = λ w i j. n w (held_there c held h.1.are_left w i) j in (
          later_waits_one l k r x (sum_left (type_at k z)) z h.2.left_typed (not_left (marks_held held) (x ∷ bl) (y ∷ bm) n') (distinct_left (x ∷ bl) (y ∷ bm) d),
          later_waits_one m k r y (sum_right (type_at k z)) z h.2.right_typed (not_right (marks_held held) (x ∷ bl) (y ∷ bm) n') (distinct_right (x ∷ bl) (y ∷ bm) d),
        )
    state_waits (star_state z t held l y ys m) c r h o n d =
        let k = context_held held c.order in
        let bl = bound_names l.term in
        let bm = bound_names m.term in
        let n' : NotBound (marks_held held) (bl ++ (y ∷ (ys ∷ bm))) = λ w i j. n w (held_there c held h.1.are_left w i) j in (
          later_waits l k r h.2.end_typed (not_left (marks_held held) bl (y ∷ (ys ∷ bm)) n') (distinct_left bl (y ∷ (ys ∷ bm)) d),
          later_waits_two m k r y ys (star_item (type_at k z)) (star_items (type_at k z)) z h.2.item_typed (not_right (marks_held held) bl (y ∷ (ys ∷ bm)) n') (distinct_right bl (y ∷ (ys ∷ bm)) d),
        )
    state_waits (wait_state x t held l) c r h o n d =
        let k = context_held held c.order in
        let n' : NotBound (marks_held held) (bound_names l.term) = λ w i j. n w (held_there c held h.1.are_left w i) j in (
          not_bound_there (marks_held held) (bound_names l.term) x (type_at k x) h.2.subject_typed n',
          typed_waits funs counts l.term (with_known x (type_at k x) (with_past l.past k)) r h.2.rest_typed.has_type (subst (λ T. NotBound T (bound_names l.term)) (sym (past_types-same l.past k)) n') d,
        )
    state_waits (frame_state args s) c r h o n d = (
      arguments_wait args c h.0 o.0 n d,
      state_waits s (context_of_arguments c args) r h.1 o.2 (λ w i j. distinct_apart (argument_names args) (bound_in_state s) o.1 w (parameter_there args w i) j) (distinct_right (argument_names args) (bound_in_state s) o.1),
    )

    -- the same of the arguments of a frame
    arguments_wait : (args : ArgumentTrees) (c : Context) → HaveArgumentTypes funs counts c args → BodiesOnceIn args → NotBound c.types (bound_in_arguments args) → is_distinct (bound_in_arguments args) ≡ true → CodeWaitsApartIn args
    arguments_wait no_arguments c h o n d = tt
    arguments_wait (argument_before x t s args) c h o n d = (
      state_waits s c t h.0 o.0 (not_left c.types (bound_in_state s) (bound_in_arguments args) n) (distinct_left (bound_in_state s) (bound_in_arguments args) d),
      arguments_wait args c h.1 o.1 (not_right c.types (bound_in_state s) (bound_in_arguments args) n) (distinct_right (bound_in_state s) (bound_in_arguments args) d),
    )

-- so it is of a typed kept state
pub typed_is_tidy : TypedIsTidy
typed_is_tidy c k h =
    let params = leaf_names c.main.params in
    record {
      are_apart = h.are_apart;
      waits_apart = state_waits c.funs (is_inert_fun c.funs) k.state (context_kept c k) k.out h.is_typed h.are_apart.bodies_once
          (λ x i m. distinct_apart params (bound_in_state k.state) h.are_apart.bound_once x (there params (types_kept c k) x i) m) (distinct_right params (bound_in_state k.state) h.are_apart.bound_once);
    }
