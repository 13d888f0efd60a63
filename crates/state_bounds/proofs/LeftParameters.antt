-- What a called body has of its parameters, after its call and after a step: what is left of their types.
use Rattle.std.specs.List.{All, list_all}
use Rattle.std.specs.Prelude.{Some, None, is_some, length}
use Rattle.std.proofs.Common.{◌≡◌, ◌∙◌, ℕ, Bool, true, false, true≢false, ◌&&◌, ◌||◌, List, [], ◌∷◌, eqb, if◌then◌else◌, ap, ap₂, refl, subst, sym, arith}
use Rattle.stream_type.specs.StreamType.{StreamType, eps}
use Rattle.stream_prefix.specs.StreamPrefix.{StreamPrefix, eps_emp, der}
use Rattle.bunch.specs.BunchTree.{BunchTree, leaf_names, stands_before}
use Rattle.bunch.specs.Facts.{Facts}
use Rattle.bunch.specs.Names.{put, holds, value_at}
use Rattle.bunch.proofs.Bunches.{first_is_there, second_is_there}
use Rattle.bunch.proofs.Tests.{and_first, and_second}
use Rattle.core_term.specs.Agreement.{types_in}
use Rattle.core_term.specs.CoreTerm.{CoreBody, fun_at, CoreTerms, leaf_types, no_body}
use Rattle.core_term.specs.Environment.{Environment, NameTypes}
use Rattle.core_term.specs.FreeNames.{free_names, free_in_terms}
use Rattle.core_term.specs.Inert.{is_inert_fun}
use Rattle.core_term.specs.Meaning.{call_at, run_all, run_at}
use Rattle.core_term.specs.Typing.{Context, is_before, IsTypedBody, context_of, passed, argument_of}
use Rattle.core_term.proofs.Parameters.{length-leaf_types, value_at-leaf_types}
use Rattle.core_term.proofs.Sides.{holds-all}
use Rattle.core_term.proofs.TypedRuns.{Any, free_are_streams, at_index}
use Rattle.core_term.proofs.TypedTerms.{PastTypes, TypedAll, none_typed, more_typed, StandBefore, PassedInOrder}
use Rattle.core_term.proofs.Retyping.{Among}
use Rattle.delta_state.specs.Rest.{rest_of, rest_of_arguments, rest_all, call_rest_at, rest_at}
use Rattle.delta_state.specs.StateMeaning.{past_in, types_of_arguments, run_state, run_arguments}
use Rattle.delta_state.specs.StateTree.{StateTree, ArgumentTrees, no_arguments, argument_before, argument_names, argument_at, free_in_state, free_in_arguments, Known}
use Rattle.delta_state.specs.StateTyping.{HasStateType, marks_of_arguments, facts_of_arguments, context_of_arguments}
use Rattle.state_steps.proofs.NamesAmong.{among_argument, among_passed}
use Rattle.state_steps.proofs.NarrowedStates.{facts_follow}
use Rattle.state_steps.proofs.NoNewNames.{free_in_argument, free_in_argument_step}
use Rattle.state_steps.proofs.StateSteps.{parameter_there}
use Rattle.state_bounds.proofs.LeftNames.{Leaves, before_after}
use Rattle.state_bounds.proofs.StateStreams.{state_streams}

-- what has a type where only parameters have types is a parameter
pub is_parameter : (params : BunchTree) (T : NameTypes) (x : ℕ) → is_some (if holds x (leaf_names params) then Some (T x) else None) ≡ true → holds x (leaf_names params) ≡ true
is_parameter params T x m = go (holds x (leaf_names params)) m
  where
    go : (b : Bool) → is_some (if b then Some (T x) else None) ≡ true → b ≡ true
    go true m = refl
    go false m = absurd (true≢false (sym m))

-- arguments have these names, and as marks what these prefixes leave of these types
record AreLeft (us : List ℕ) (ps : List StreamPrefix) (T : NameTypes) (args : ArgumentTrees) : Type 0 where
  names : argument_names args ≡ us
  marks : (x : ℕ) → holds x us ≡ true → marks_of_arguments args x ≡ Some (der (value_at eps_emp us ps x) (T x))

-- so it is with no arguments,
none_left : (T : NameTypes) → AreLeft [] [] T no_arguments
none_left T = record { names = refl; marks = λ x m. absurd (true≢false (sym m)) }

-- and with one more in front, of whose type t a prefix p leaves its mark
one_left : {us : List ℕ} {ps : List StreamPrefix} {T : NameTypes} {args : ArgumentTrees} (u : ℕ) (t : StreamType) (p : StreamPrefix) (s : StateTree) → AreLeft us ps T args → AreLeft (u ∷ us) (p ∷ ps) (put u t T) (argument_before u (der p t) s args)
one_left {us = us} {ps = ps} {T = T} {args = args} u t p s h = record { names = ap (λ vs. u ∷ vs) h.names; marks = λ x m. go x (eqb x u) m (h.marks x) }
  where
    go : (x : ℕ) (b : Bool) → (b || holds x us) ≡ true → (holds x us ≡ true → marks_of_arguments args x ≡ Some (der (value_at eps_emp us ps x) (T x)))
        → (if b then Some (der p t) else marks_of_arguments args x) ≡ Some (der (if b then p else value_at eps_emp us ps x) (if b then t else T x))
    go x true m g = refl
    go x false m g = g m

-- the context of such arguments has of these names what is left of their types, and the facts that their free names have
parameters_leave : {us : List ℕ} {ps : List StreamPrefix} {T : NameTypes} {args : ArgumentTrees} (ys : List ℕ) (O : Facts) (c : Context) → AreLeft us ps T args → ((x : ℕ) → holds x ys ≡ true → holds x us ≡ true)
    → ((u v : ℕ) → O u v ≡ true → (holds u us && holds v us) ≡ true × (list_all (λ x. list_all (λ y. is_before c x y) (free_in_state (argument_at args v))) (free_in_state (argument_at args u)) ≡ true))
    → Leaves ys T O (value_at eps_emp us ps) (context_of_arguments c args)
parameters_leave ys O c h there facts = record {
  types = λ x m. sym (h.marks x (there x m));
  order = record { at = λ u v m n k. let f = facts u v k in ap₂ ◌&&◌ (ap (λ us. holds u us && holds v us) h.names ∙ f.0) f.1 };
}

module _ (funs : List CoreBody) (all_typed : All (IsTypedBody funs) funs) (k : ℕ) where
  -- the functions by their numbers, and which of them are inert
  abbrev F : ℕ → CoreBody
  F = fun_at funs

  abbrev I : ℕ → Bool
  I = is_inert_fun funs

  -- what is left of the arguments of a call
  call_left : (us : List ℕ) {T : NameTypes} {O : Facts} {H : PastTypes} {es : CoreTerms} {ts : List StreamType} → TypedAll F I Any T O H es ts → length us ≡ length ts → (d : Environment) (past : List Known)
      → AreLeft us (run_all F (call_at F k) es ts T d (past_in past)).outs (value_at eps us ts) (rest_all F k (call_rest_at F k) es us ts T d past)
  call_left [] none_typed n d past = none_left _
  call_left (u ∷ us) none_typed n d past = absurd (omega (arith, n))
  call_left [] (more_typed i j) n d past = absurd (omega (arith, n))
  call_left (u ∷ us) (more_typed {T = T} {e = e} {t = t} i j) n d past = let others : length us ≡ length _ = omega (arith, n) in one_left u t (run_at F k e T t d (past_in past)).out (rest_at F k e T t d past) (call_left us j others d past)

  -- what a called body has of its parameters
  pub body_leaves : {T : NameTypes} {O : Facts} {H : PastTypes} (f : ℕ) {es : CoreTerms} → TypedAll F I Any T O H es (leaf_types (F f).params)
      → ((u v : ℕ) → stands_before (F f).params u v ≡ true → PassedInOrder F I O (F f) es u v) → (d : Environment) (past : List Known) (c : Context) → Leaves (free_in_terms es) T O d c
      → Leaves (free_names (F f).body) (types_in (F f).params) (stands_before (F f).params) (value_at eps_emp (leaf_names (F f).params) (run_all F (call_at F k) es (leaf_types (F f).params) T d (past_in past)).outs)
      (context_of_arguments c (rest_all F k (call_rest_at F k) es (leaf_names (F f).params) (leaf_types (F f).params) T d past))
  body_leaves {T = T} {O = O} f {es = es} i o d past c h =
      let b = F f in
      let us = leaf_names b.params in
      let ts = leaf_types b.params in
      let types : value_at eps us ts ≡ types_in b.params = λ i x. value_at-leaf_types b.params x i in
      let left = subst (λ U. AreLeft us (run_all F (call_at F k) es ts T d (past_in past)).outs U (rest_all F k (call_rest_at F k) es us ts T d past)) types (call_left us i (sym (length-leaf_types b.params)) d past) in
      let streams = free_are_streams funs I b.body (context_of b) b.result (at_index (IsTypedBody funs) no_body funs all_typed refl f) in
      parameters_leave (free_names b.body) (stands_before b.params) c left (λ x m. is_parameter b.params (types_in b.params) x (streams.at x m))
      (λ u v k. (ap₂ ◌&&◌ (first_is_there b.params u v k) (second_is_there b.params u v k), in_order u v (o u v k).in_order))
    where
      args : ArgumentTrees
      args = rest_all F k (call_rest_at F k) es (leaf_names (F f).params) (leaf_types (F f).params) T d past

      free : (u : ℕ) → Among (free_in_state (argument_at args u)) (free_names (argument_of (leaf_names (F f).params) es u))
      free u = free_in_argument F k (call_rest_at F k) es (leaf_names (F f).params) (leaf_types (F f).params) T d past u

      in_order : (u v : ℕ) → StandBefore O (free_names (passed (F f) es u)) (free_names (passed (F f) es v))
          → list_all (λ x. list_all (λ y. is_before c x y) (free_in_state (argument_at args v))) (free_in_state (argument_at args u)) ≡ true
      in_order u v w =
          holds-all (λ x. list_all (λ y. is_before c x y) (free_in_state (argument_at args v))) (free_in_state (argument_at args u))
          (λ x m. holds-all (λ y. is_before c x y) (free_in_state (argument_at args v))
          (λ y n. let i = (free u).at x m in let j = (free v).at y n in before_after (free_in_terms es) T O d c h x y ((among_passed (leaf_names (F f).params) es u).at x i) ((among_passed (leaf_names (F f).params) es v).at y j) (w.at x y i j)))

module _ (funs : List CoreBody) where
  -- what is left of the arguments of a frame after a step
  frame_left : (args : ArgumentTrees) (T : NameTypes) (d : Environment) → AreLeft (argument_names args) (run_arguments (fun_at funs) args T d).outs (types_of_arguments args) (rest_of_arguments (fun_at funs) args T d)
  frame_left no_arguments T d = none_left _
  frame_left (argument_before u t s args) T d = one_left u t (run_state (fun_at funs) s T t d).out (rest_of (fun_at funs) s T t d) (frame_left args T d)

  -- what a called body has of its parameters after a step
  pub frame_leaves : (args : ArgumentTrees) (s : StateTree) (c : Context) (T : NameTypes) (r : StreamType) → HasStateType funs (is_inert_fun funs) (context_of_arguments c args) s r → (d : Environment) (e : Context) → Leaves (free_in_arguments args) T c.order d e
      → Leaves (free_in_state s) (types_of_arguments args) (facts_of_arguments c args) (value_at eps_emp (argument_names args) (run_arguments (fun_at funs) args T d).outs) (context_of_arguments e (rest_of_arguments (fun_at funs) args T d))
  frame_leaves args s c T r h d e k =
      let F = fun_at funs in
      let streams = state_streams funs (is_inert_fun funs) s (context_of_arguments c args) r h in
      let named = λ (u v : ℕ). holds u (argument_names args) && holds v (argument_names args) in
      let before = λ (u v : ℕ). list_all (λ x. list_all (λ y. is_before c x y) (free_in_state (argument_at args v))) (free_in_state (argument_at args u)) in
      parameters_leave (free_in_state s) (facts_of_arguments c args) e (frame_left args T d) (λ x m. parameter_there args x (streams.at x m))
      (λ u v i. (
        and_first (named u v) (before u v) i,
        facts_follow c e _ _ _ _ (free_in_argument_step F args T d u) (free_in_argument_step F args T d v)
            (λ x y a b j. before_after (free_in_arguments args) T c.order d e k x y ((among_argument args u).at x a) ((among_argument args v).at y b) (and_second (is_some (c.types x) && is_some (c.types y)) (c.order x y) j))
            (and_second (named u v) (before u v) i),
      ))
