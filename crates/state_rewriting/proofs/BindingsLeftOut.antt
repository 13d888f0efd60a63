-- Rewritings of what is finished, and of bindings that aren't used or are all that follows: the type is kept,
-- and the runs are lighter.
use Rattle.std.proofs.Common.{◌≡◌, ◌∙◌, ◌≤◌, ℕ, Bool, true, false, ◌||◌, List, [], ◌∷◌, ◌++◌, ap, refl, subst, sym, arith}
use Rattle.std.specs.Prelude.{Some}
use Rattle.std.specs.List.{All}
use Rattle.std.proofs.lemmas.Bool.{or_right}
use Rattle.stream_type.specs.StreamType.{StreamType, null_of}
use Rattle.stream_prefix.specs.StreamPrefix.{StreamPrefix, is_maximal}
use Rattle.stream_prefix.proofs.Joins.{is_maximal-emp}
use Rattle.stream_prefix.proofs.MaximalPrefixes.{null_is_emp}
use Rattle.bunch.specs.Names.{put, holds}
use Rattle.bunch.specs.Facts.{Facts, place_let}
use Rattle.bunch.proofs.Tests.{and_first, and_second}
use Rattle.core_term.specs.CoreTerm.{CoreBody, fun_at}
use Rattle.core_term.specs.FreeNames.{without}
use Rattle.core_term.specs.Environment.{Environment, NameTypes}
use Rattle.core_term.specs.Inert.{is_inert_fun}
use Rattle.core_term.specs.Run.{Run, quiet, deeper, let_run}
use Rattle.core_term.specs.Typing.{Context, IsTypedBody, with_name}
use Rattle.core_term.proofs.Sides.{put-same}
use Rattle.core_term.proofs.Without.{holds-without}
use Rattle.core_term.proofs.TypedTerms.{Extends}
use Rattle.core_term.proofs.GrowingRuns.{Streams, Continues}
use Rattle.core_term.proofs.Retyping.{among_same}
use Rattle.delta_state.specs.StateTree.{StateTree, sink, var_state, let_state, let_par_state, let_cat_state, is_var_state, free_in_state}
use Rattle.delta_state.specs.StateMeaning.{run_state}
use Rattle.delta_state.specs.StateTyping.{HasStateType, no_pasts}
use Rattle.delta_state.specs.Settled.{is_settled}
use Rattle.delta_state.proofs.GrowingStates.{state_run_grows}
use Rattle.state_steps.proofs.NamesAmong.{among_nothing, among_left, among_right}
use Rattle.state_steps.proofs.NarrowedStates.{narrow_state}
use Rattle.state_steps.proofs.FreeStateRuns.{state_same}
use Rattle.state_rewriting.proofs.OtherNames.{apart_from, unused_alike}
use Rattle.state_rewriting.proofs.HiddenNames.{without_name, let_facts, without_parts, without_row, free_beside}
use Rattle.state_rewriting.proofs.FittingParts.{served_fewer, Fits}
use Rattle.state_rewriting.proofs.LighterParts.{Lighter, lighter_from, LighterState}

-- no name serves for another
abbrev pub NoOther : ℕ → ℕ → Type 0
NoOther w v = ⊥

module _ (funs : List CoreBody) (counts : ℕ → Bool) where
  -- a part whose type is null is finished
  pub finished_fits : (c : Context) (r : StreamType) (a : StateTree) → null_of r ≡ true → Fits funs counts NoOther c r a (sink r)
  finished_fits c r a n = record { typed = (refl, n); settled = refl; free = served_fewer NoOther (free_in_state a) [] (among_nothing (free_in_state a)) }

  -- a binding whose name isn't used, and a destructuring neither of whose names is, go
  pub unused_fits : (c : Context) (r s : StreamType) (x : ℕ) (a b : StateTree) → holds x (free_in_state b) ≡ false → HasStateType funs counts c (let_state x s a b) r → is_settled (let_state x s a b) r ≡ true → Fits funs counts NoOther c r (let_state x s a b) b
  unused_fits c r s x a b n t i = record {
    typed = narrow_state funs counts b _ c r (without_name x s (free_in_state b) (place_let x (free_in_state a) true c.order) c n (let_facts x (free_in_state a) c.order)) t.1;
    settled = and_second (is_settled a s) (is_settled b r) i;
    free = served_fewer NoOther (free_in_state a ++ without x (free_in_state b)) (free_in_state b) (among_right (free_in_state a) (record { at = λ y m. holds-without y x (free_in_state b) (apart_from x y (free_in_state b) n m) m }));
  }

  pub unused_pair_fits : (c : Context) (r : StreamType) (x y z : ℕ) (a : StateTree) → holds x (free_in_state a) ≡ false → holds y (free_in_state a) ≡ false → HasStateType funs counts c (let_par_state x y z a) r → is_settled (let_par_state x y z a) r ≡ true
      → Fits funs counts NoOther c r (let_par_state x y z a) a
  unused_pair_fits c r x y z a nx ny t i = record {
    typed = narrow_state funs counts a _ c r (without_parts x y z _ _ (free_in_state a) c nx ny) t.2;
    settled = i;
    free = served_fewer NoOther (z ∷ without x (without y (free_in_state a))) (free_in_state a) (free_beside x y z (free_in_state a) nx ny);
  }

  pub unused_row_fits : (c : Context) (r : StreamType) (x y z : ℕ) (a : StateTree) → holds x (free_in_state a) ≡ false → holds y (free_in_state a) ≡ false → HasStateType funs counts c (let_cat_state x y z a) r → is_settled (let_cat_state x y z a) r ≡ true
      → Fits funs counts NoOther c r (let_cat_state x y z a) a
  unused_row_fits c r x y z a nx ny t i = record {
    typed = narrow_state funs counts a _ c r (without_row x y z _ _ (free_in_state a) c nx ny) t.2;
    settled = i;
    free = served_fewer NoOther (z ∷ without x (without y (free_in_state a))) (free_in_state a) (free_beside x y z (free_in_state a) nx ny);
  }

  -- a binding whose name is all that follows has the type of what is bound
  renamed_type : (c : Context) (r s : StreamType) (x : ℕ) (O : Facts) (a : StateTree) → (with_name x s O c).types x ≡ Some r → s ≡ r
  renamed_type c r s x O a e = let k : Some s ≡ Some r = sym (put-same x (Some s) c.types) ∙ e in cc k

  -- so what is bound fits in its place
  pub renamed_fits : (c : Context) (r s : StreamType) (x : ℕ) (a : StateTree) → HasStateType funs counts c (let_state x s a (var_state x)) r → is_settled (let_state x s a (var_state x)) r ≡ true → Fits funs counts NoOther c r (let_state x s a (var_state x)) a
  renamed_fits c r s x a t i =
      let e = renamed_type c r s x (place_let x (free_in_state a) true c.order) a t.1 in
      record {
        typed = subst (HasStateType funs counts c a) e t.0;
        settled = subst (λ u. is_settled a u ≡ true) e (and_first (is_settled a s) true i);
        free = served_fewer NoOther (free_in_state a ++ without x (x ∷ [])) (free_in_state a) (among_left (without x (x ∷ [])) (among_same (free_in_state a)));
      }

-- a level is no greater further in
pub deeper_up : (c : Bool) (l : ℕ) → l ≤ deeper c l
deeper_up true l = omega arith
deeper_up false l = omega arith

-- a let is lighter without what it binds, where its body doesn't use it; w says whether the body is a name
dropped : (v w : Bool) (a a' b b' : Run) → a.calls ≤ a'.calls → Lighter false w (let_run v a b) (let_run v a' b') b b'
dropped v w a a' b b' h =
    let l = deeper_up (v || is_maximal a.out) b.level in
    let n = deeper_up (v || is_maximal a'.out) b'.level in
    record {
      out = refl;
      next = refl;
      calls = omega arith;
      rise = omega (arith, h);
      level = omega (arith, l);
      next_level = omega (arith, n);
      shut = λ e. or_right w (is_maximal b.out) e;
      next_shut = λ e. or_right w (is_maximal b'.out) e;
    }

-- the same runs are lighter
same_lighter : (w : Bool) (a a' : Run) → Lighter false w a a' a a'
same_lighter w a a' = record {
  out = refl;
  next = refl;
  calls = omega arith;
  rise = omega arith;
  level = omega arith;
  next_level = omega arith;
  shut = λ e. or_right w (is_maximal a.out) e;
  next_shut = λ e. or_right w (is_maximal a'.out) e;
}

-- what is bound is lighter than the let whose body is its name; v says whether it is a name itself
pub bound_alone : (v : Bool) (a a' b b' : Run) → b ≡ quiet a.out → b' ≡ quiet a'.out → Lighter false v (let_run v a b) (let_run v a' b') a a'
bound_alone v a a' b b' e e' =
    lighter_from (ap (let_run v a) (sym e)) (ap (let_run v a') (sym e'))
    (let l = deeper_up false a.level in
    let n = deeper_up false a'.level in
    record {
      out = refl;
      next = refl;
      calls = omega arith;
      rise = omega arith;
      level = omega (arith, l);
      next_level = omega (arith, n);
      shut = λ k. or_right v (is_maximal a.out) k;
      next_shut = λ k. or_right v (is_maximal a'.out) k;
    })

module _ (funs : List CoreBody) (typed : All (IsTypedBody funs) funs) where
  -- a finished part gives the same as any other of its type, which is nothing
  pub finished_lighter : (r : StreamType) (a : StateTree) → null_of r ≡ true → (c : Context) (T : NameTypes) → Extends c T no_pasts → HasStateType funs (is_inert_fun funs) c a r → (d e : Environment) → Streams T d → Continues T d e
      → LighterState funs T r d e a (sink r)
  finished_lighter r a n c T w t d e s g =
      let i = state_run_grows funs typed a c T r w t d e s g in
      record {
        out = null_is_emp i.first n;
        next = null_is_emp i.next n;
        calls = omega arith;
        rise = omega (arith, i.calls);
        level = omega arith;
        next_level = omega arith;
        shut = λ k. is_maximal-emp r ∙ n;
        next_shut = λ k. is_maximal-emp r ∙ n;
      }

  -- without a binding that isn't used the runs are lighter
  pub unused_lighter : (r s : StreamType) (x : ℕ) (a b : StateTree) → holds x (free_in_state b) ≡ false → (c : Context) (T : NameTypes) → Extends c T no_pasts → HasStateType funs (is_inert_fun funs) c (let_state x s a b) r → (d e : Environment) → Streams T d → Continues T d e
      → LighterState funs T r d e (let_state x s a b) b
  unused_lighter r s x a b n c T w t d e st g =
      let i = state_run_grows funs typed a c T s w t.0 d e st g in
      let A = run_state (fun_at funs) a T s d in
      let A' = run_state (fun_at funs) a T s e in
      lighter_from (ap (let_run (is_var_state a) A) (sym (state_same (fun_at funs) b (put x s T) T r (put x A.out d) d (unused_alike x (free_in_state b) s A.out T d n))))
      (ap (let_run (is_var_state a) A') (sym (state_same (fun_at funs) b (put x s T) T r (put x A'.out e) e (unused_alike x (free_in_state b) s A'.out T e n))))
      (dropped (is_var_state a) (is_var_state b) A A' (run_state (fun_at funs) b T r d) (run_state (fun_at funs) b T r e) i.calls)

  -- what comes on two names that aren't used makes no difference
  two_unused : (r : StreamType) (x y : ℕ) (s t : StreamType) (p q : StreamPrefix) (a : StateTree) (T : NameTypes) (d : Environment) → holds x (free_in_state a) ≡ false → holds y (free_in_state a) ≡ false
      → run_state (fun_at funs) a (put y t (put x s T)) r (put y q (put x p d)) ≡ run_state (fun_at funs) a T r d
  two_unused r x y s t p q a T d nx ny =
      state_same (fun_at funs) a _ (put x s T) r _ (put x p d) (unused_alike y (free_in_state a) t q (put x s T) (put x p d) ny) ∙ state_same (fun_at funs) a _ T r _ d (unused_alike x (free_in_state a) s p T d nx)

  -- so a destructuring neither of whose names is used may go
  pub unused_pair_lighter : (r : StreamType) (x y z : ℕ) (a : StateTree) → holds x (free_in_state a) ≡ false → holds y (free_in_state a) ≡ false → (T : NameTypes) (d e : Environment)
      → LighterState funs T r d e (let_par_state x y z a) a
  unused_pair_lighter r x y z a nx ny T d e =
      lighter_from (sym (two_unused r x y _ _ _ _ a T d nx ny)) (sym (two_unused r x y _ _ _ _ a T e nx ny))
      (same_lighter (is_var_state a) (run_state (fun_at funs) a T r d) (run_state (fun_at funs) a T r e))

  pub unused_row_lighter : (r : StreamType) (x y z : ℕ) (a : StateTree) → holds x (free_in_state a) ≡ false → holds y (free_in_state a) ≡ false → (T : NameTypes) (d e : Environment)
      → LighterState funs T r d e (let_cat_state x y z a) a
  unused_row_lighter r x y z a nx ny T d e =
      lighter_from (sym (two_unused r x y _ _ _ _ a T d nx ny)) (sym (two_unused r x y _ _ _ _ a T e nx ny))
      (same_lighter (is_var_state a) (run_state (fun_at funs) a T r d) (run_state (fun_at funs) a T r e))

  -- and what is bound stands for the binding whose name is all that follows
  pub renamed_lighter : (r s : StreamType) (x : ℕ) (a : StateTree) (c : Context) (T : NameTypes) → HasStateType funs (is_inert_fun funs) c (let_state x s a (var_state x)) r → (d e : Environment)
      → LighterState funs T r d e (let_state x s a (var_state x)) a
  renamed_lighter r s x a c T t d e =
      subst (λ u. Lighter false (is_var_state a) (run_state (fun_at funs) (let_state x s a (var_state x)) T r d) (run_state (fun_at funs) (let_state x s a (var_state x)) T r e) (run_state (fun_at funs) a T u d) (run_state (fun_at funs) a T u e))
      (renamed_type funs (is_inert_fun funs) c r s x (place_let x (free_in_state a) true c.order) a t.1)
      (bound_alone (is_var_state a) (run_state (fun_at funs) a T s d) (run_state (fun_at funs) a T s e) _ _ (ap quiet (put-same x (run_state (fun_at funs) a T s d).out d)) (ap quiet (put-same x (run_state (fun_at funs) a T s e).out e)))
