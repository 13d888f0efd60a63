-- The rewriting of a frame whose whole body is a frame: both become one. The type is kept, and the runs are
-- lighter.
--
-- That it makes no more calls is a count: an argument outside that makes calls is passed on once at most, so its
-- calls count once at most.
use Rattle.std.proofs.Common.{⊎_elim, ◌≡◌, ◌∙◌, ◌≤◌, ◌+◌, ℕ, Bool, true, false, true≢false, not, ◌&&◌, ◌||◌, ◌⊎◌, inl, inr, List, [], ◌∷◌, eqb, if◌then◌else◌, ap, ap₂, refl, subst, sym, arith}
use Rattle.std.proofs.lemmas.Bool.{eqb-true}
use Rattle.std.specs.Prelude.{Some, is_some}
use Rattle.std.specs.List.{All}
use Rattle.stream_type.specs.StreamType.{StreamType}
use Rattle.stream_prefix.specs.StreamPrefix.{StreamPrefix, eps_emp, emp, is_maximal}
use Rattle.stream_prefix.proofs.Joins.{is_maximal-emp}
use Rattle.bunch.specs.Names.{put, holds, value_at}
use Rattle.bunch.proofs.Tests.{and_first, and_second, or_split}
use Rattle.core_term.specs.CoreTerm.{CoreBody, fun_at}
use Rattle.core_term.specs.FreeNames.{without}
use Rattle.core_term.specs.Environment.{Environment, NameTypes}
use Rattle.core_term.specs.Inert.{is_inert_fun}
use Rattle.core_term.specs.Run.{Run, Runs, run_before, frame_run}
use Rattle.core_term.specs.Typing.{Context, AllBefore, IsTypedBody}
use Rattle.core_term.proofs.Sides.{holds-head, holds-split, eqb-same}
use Rattle.core_term.proofs.TypedTerms.{Extends}
use Rattle.core_term.proofs.GrowingRuns.{Streams, Continues}
use Rattle.core_term.proofs.Retyping.{Among}
use Rattle.delta_state.specs.StateTree.{StateTree, ArgumentTrees, sink, var_state, frame_state, no_arguments, argument_before, is_var_state, argument_names, argument_at, free_in_state, free_in_arguments}
use Rattle.delta_state.specs.StateMeaning.{types_of_arguments, run_state, run_arguments}
use Rattle.delta_state.specs.StateTyping.{HasStateType, HaveArgumentTypes, marks_of_arguments, context_of_arguments, no_pasts}
use Rattle.delta_state.specs.Settled.{is_settled, are_settled}
use Rattle.delta_state.proofs.GrowingStates.{state_run_grows}
use Rattle.state_steps.proofs.Seeing.{Sees}
use Rattle.state_steps.proofs.NamesAmong.{among_nothing, among_argument}
use Rattle.state_steps.proofs.NarrowedStates.{narrow_state}
use Rattle.state_rewriting.specs.Rewriting.{is_plain, are_plain, names_passed, at_most_once, stand_once, passed_on, composed}
use Rattle.state_rewriting.proofs.FittingParts.{row_at, row_of, served_fewer, Fits}
use Rattle.state_rewriting.proofs.LighterParts.{Lighter, lighter_to, LighterState, deeper_less, lighter_then, less_frame, lighter_body}
use Rattle.state_rewriting.proofs.BindingsLeftOut.{NoOther}

-- the composed arguments are those of the inner frame's parameters,
pub composed_names : (args inner : ArgumentTrees) → argument_names (composed args inner) ≡ argument_names inner
composed_names args no_arguments = refl
composed_names args (argument_before x t s inner) = ap (λ ns. x ∷ ns) (composed_names args inner)

-- their types in the context
pub composed_marks : (args inner : ArgumentTrees) → marks_of_arguments (composed args inner) ≡ marks_of_arguments inner
composed_marks args no_arguments = refl
composed_marks args (argument_before x t s inner) = ap (put x (Some t)) (composed_marks args inner)

-- and in the run
composed_types : (args inner : ArgumentTrees) → types_of_arguments (composed args inner) ≡ types_of_arguments inner
composed_types args no_arguments = refl
composed_types args (argument_before x t s inner) = ap (put x t) (composed_types args inner)

-- and each is what is passed on
pub composed_at : (args inner : ArgumentTrees) (u : ℕ) → argument_at (composed args inner) u ≡ passed_on args (argument_at inner u)
composed_at args no_arguments u = refl
composed_at args (argument_before x t s inner) u = go (eqb u x) (composed_at args inner u)
  where
    go : (b : Bool) → argument_at (composed args inner) u ≡ passed_on args (argument_at inner u) → (if b then passed_on args s else argument_at (composed args inner) u) ≡ passed_on args (if b then s else argument_at inner u)
    go true e = refl
    go false e = e

-- where all arguments are names or finished, each is
pub plain_at : (inner : ArgumentTrees) (u : ℕ) → are_plain inner ≡ true → is_plain (argument_at inner u) ≡ true
plain_at no_arguments u p = refl
plain_at (argument_before x t s inner) u p = go (eqb u x) (plain_at inner u (and_second (is_plain s) (are_plain inner) p))
  where
    go : (b : Bool) → is_plain (argument_at inner u) ≡ true → is_plain (if b then s else argument_at inner u) ≡ true
    go true k = and_first (is_plain s) (are_plain inner) p
    go false k = k

-- the free names of what is passed on are among those of the outer arguments
passed_free : (args : ArgumentTrees) (s : StateTree) → is_plain s ≡ true → Among (free_in_state (passed_on args s)) (free_in_arguments args)
passed_free args (sink t) p = among_nothing (free_in_arguments args)
passed_free args (var_state u) p = among_argument args u
passed_free args _ p = absurd (true≢false (sym p))

-- and so are those of all composed arguments
composed_free : (args inner : ArgumentTrees) → are_plain inner ≡ true → Among (free_in_arguments (composed args inner)) (free_in_arguments args)
composed_free args no_arguments p = among_nothing (free_in_arguments args)
composed_free args (argument_before x t s inner) p = record {
  at = λ y m. ⊎_elim (λ i. (passed_free args s (and_first (is_plain s) (are_plain inner) p)).at y i) (λ i. (composed_free args inner (and_second (is_plain s) (are_plain inner) p)).at y i)
      (holds-split y (free_in_state (passed_on args s)) (free_in_arguments (composed args inner)) m);
}

-- what stands before another thing in the outer body is passed on to what does so outside
pub passed_before : (args : ArgumentTrees) (c : Context) (p q : StateTree) → is_plain p ≡ true → is_plain q ≡ true → AllBefore (context_of_arguments c args) (free_in_state p) (free_in_state q) → AllBefore c (free_in_state (passed_on args p)) (free_in_state (passed_on args q))
passed_before args c (sink t) q m n h x y i j = absurd (true≢false (sym i))
passed_before args c (var_state u) (sink t) m n h x y i j = absurd (true≢false (sym j))
passed_before args c (var_state u) (var_state v) m n h x y i j =
    let k = h u v (holds-head u []) (holds-head v []) in
    let o = and_second (is_some (marks_of_arguments args u) && is_some (marks_of_arguments args v)) _ k in
    row_at c (free_in_state (argument_at args u)) (free_in_state (argument_at args v)) (and_second (holds u (argument_names args) && holds v (argument_names args)) _ o) x y i j
passed_before args c (var_state u) _ m n h x y i j = absurd (true≢false (sym n))
passed_before args c _ q m n h x y i j = absurd (true≢false (sym m))

module _ (funs : List CoreBody) (counts : ℕ → Bool) where
  -- the argument of a parameter has its type,
  pub argument_typed : (args : ArgumentTrees) (c : Context) (u : ℕ) (t : StreamType) → HaveArgumentTypes funs counts c args → marks_of_arguments args u ≡ Some t → HasStateType funs counts c (argument_at args u) t
  argument_typed no_arguments c u t h e = absurd (cc e)
  argument_typed (argument_before x q a args) c u t h e = go (eqb u x) e (argument_typed args c u t h.1)
    where
      go : (b : Bool) → (if b then Some q else marks_of_arguments args u) ≡ Some t → (marks_of_arguments args u ≡ Some t → HasStateType funs counts c (argument_at args u) t) → HasStateType funs counts c (if b then a else argument_at args u) t
      go true e f = subst (HasStateType funs counts c a) (let k : q ≡ t = cc e in k) h.0
      go false e f = f e

  -- and is settled
  pub argument_settled : (args : ArgumentTrees) (u : ℕ) (t : StreamType) → are_settled args ≡ true → marks_of_arguments args u ≡ Some t → is_settled (argument_at args u) t ≡ true
  argument_settled no_arguments u t i e = absurd (cc e)
  argument_settled (argument_before x q a args) u t i e = go (eqb u x) e (argument_settled args u t (and_second (is_settled a q) (are_settled args) i))
    where
      go : (b : Bool) → (if b then Some q else marks_of_arguments args u) ≡ Some t → (marks_of_arguments args u ≡ Some t → is_settled (argument_at args u) t ≡ true) → is_settled (if b then a else argument_at args u) t ≡ true
      go true e f = subst (λ k. is_settled a k ≡ true) (let k : q ≡ t = cc e in k) (and_first (is_settled a q) (are_settled args) i)
      go false e f = f e

  -- so the composed arguments are typed, if both frames' are,
  composed_typed : (args inner : ArgumentTrees) (c : Context) → are_plain inner ≡ true → HaveArgumentTypes funs counts c args → HaveArgumentTypes funs counts (context_of_arguments c args) inner → HaveArgumentTypes funs counts c (composed args inner)
  composed_typed args no_arguments c p h k = tt
  composed_typed args (argument_before x t (sink q) inner) c p h k = (k.0, composed_typed args inner c p h k.1)
  composed_typed args (argument_before x t (var_state u) inner) c p h k = (argument_typed args c u t h k.0, composed_typed args inner c p h k.1)
  composed_typed args (argument_before x t _ inner) c p h k = absurd (true≢false (sym p))

  -- and settled
  composed_settled : (args inner : ArgumentTrees) (c : Context) → are_plain inner ≡ true → are_settled args ≡ true → HaveArgumentTypes funs counts (context_of_arguments c args) inner → are_settled (composed args inner) ≡ true
  composed_settled args no_arguments c p i k = refl
  composed_settled args (argument_before x t (sink q) inner) c p i k = composed_settled args inner c p i k.1
  composed_settled args (argument_before x t (var_state u) inner) c p i k = ap₂ ◌&&◌ (argument_settled args u t i k.0) (composed_settled args inner c p i k.1)
  composed_settled args (argument_before x t _ inner) c p i k = absurd (true≢false (sym p))

  -- the inner body sees no less in the one frame
  composed_body : (args inner : ArgumentTrees) (c : Context) (xs : List ℕ) → are_plain inner ≡ true → Sees xs (context_of_arguments (context_of_arguments c args) inner) (context_of_arguments c (composed args inner))
  composed_body args inner c xs p = record {
    types = λ x s m k. ap (λ f. f x) (composed_marks args inner) ∙ k;
    order = record {
      at = λ u v mu mv h.
          ap₂ ◌&&◌ (ap (λ ns. holds u ns && holds v ns) (composed_names args inner) ∙ and_first (holds u (argument_names inner) && holds v (argument_names inner)) _ h)
          (row_of c (free_in_state (argument_at (composed args inner) u)) (free_in_state (argument_at (composed args inner) v))
          (λ x y i j. passed_before args c (argument_at inner u) (argument_at inner v) (plain_at inner u p) (plain_at inner v p)
          (row_at (context_of_arguments c args) (free_in_state (argument_at inner u)) (free_in_state (argument_at inner v)) (and_second (holds u (argument_names inner) && holds v (argument_names inner)) _ h)) x y
          (sym (ap (λ s. holds x (free_in_state s)) (composed_at args inner u)) ∙ i) (sym (ap (λ s. holds y (free_in_state s)) (composed_at args inner v)) ∙ j)));
    };
    past = λ x k e. e;
  }

  -- and it fits in the place of both
  pub frames_fit : (c : Context) (r : StreamType) (args inner : ArgumentTrees) (a : StateTree) → are_plain inner ≡ true → HasStateType funs counts c (frame_state args (frame_state inner a)) r → is_settled (frame_state args (frame_state inner a)) r ≡ true
      → Fits funs counts NoOther c r (frame_state args (frame_state inner a)) (frame_state (composed args inner) a)
  frames_fit c r args inner a p t i =
      let j = and_second (are_settled args) (are_settled inner && is_settled a r) i in
      record {
        typed = (composed_typed args inner c p t.0 t.1.0, narrow_state funs counts a _ _ r (composed_body args inner c (free_in_state a) p) t.1.1);
        settled = ap₂ ◌&&◌ (composed_settled args inner c p (and_first (are_settled args) (are_settled inner && is_settled a r) i) t.1.0) (and_second (are_settled inner) (is_settled a r) j);
        free = served_fewer NoOther (free_in_arguments args) (free_in_arguments (composed args inner)) (composed_free args inner p);
      }

module _ (funs : ℕ → CoreBody) (T : NameTypes) where
  -- the calls of a parameter's argument
  abbrev pub calls_at : ArgumentTrees → Environment → ℕ → ℕ
  calls_at no_arguments d u = 0
  calls_at (argument_before x t a args) d u = if eqb u x then (run_state funs a T t d).calls else calls_at args d u

  -- those of a list's
  abbrev pub calls_passed : ArgumentTrees → Environment → List ℕ → ℕ
  calls_passed args d [] = 0
  calls_passed args d (u ∷ us) = calls_at args d u + calls_passed args d us

  module _ (d : Environment) where
    -- what a parameter's argument gives is what comes on the parameter
    pub out_at : (args : ArgumentTrees) (u : ℕ) (t : StreamType) → marks_of_arguments args u ≡ Some t → (run_state funs (argument_at args u) T t d).out ≡ value_at eps_emp (argument_names args) (run_arguments funs args T d).outs u
    out_at no_arguments u t e = absurd (cc e)
    out_at (argument_before x q a args) u t e = go (eqb u x) e (out_at args u t)
      where
        go : (b : Bool) → (if b then Some q else marks_of_arguments args u) ≡ Some t → (marks_of_arguments args u ≡ Some t → (run_state funs (argument_at args u) T t d).out ≡ value_at eps_emp (argument_names args) (run_arguments funs args T d).outs u)
            → (run_state funs (if b then a else argument_at args u) T t d).out ≡ (if b then (run_state funs a T q d).out else value_at eps_emp (argument_names args) (run_arguments funs args T d).outs u)
        go true e f = ap (λ k. (run_state funs a T k d).out) (let k : t ≡ q = cc e in k)
        go false e f = f e

    -- its calls
    pub calls_are : (args : ArgumentTrees) (u : ℕ) (t : StreamType) → marks_of_arguments args u ≡ Some t → (run_state funs (argument_at args u) T t d).calls ≡ calls_at args d u
    calls_are no_arguments u t e = absurd (cc e)
    calls_are (argument_before x q a args) u t e = go (eqb u x) e (calls_are args u t)
      where
        go : (b : Bool) → (if b then Some q else marks_of_arguments args u) ≡ Some t → (marks_of_arguments args u ≡ Some t → (run_state funs (argument_at args u) T t d).calls ≡ calls_at args d u)
            → (run_state funs (if b then a else argument_at args u) T t d).calls ≡ (if b then (run_state funs a T q d).calls else calls_at args d u)
        go true e f = ap (λ k. (run_state funs a T k d).calls) (let k : t ≡ q = cc e in k)
        go false e f = f e

    -- its level is at most that of all
    pub level_at : (args : ArgumentTrees) (u : ℕ) (t : StreamType) → marks_of_arguments args u ≡ Some t → (run_state funs (argument_at args u) T t d).level ≤ (run_arguments funs args T d).level
    level_at no_arguments u t e = absurd (cc e)
    level_at (argument_before x q a args) u t e = go (eqb u x) e (level_at args u t)
      where
        go : (b : Bool) → (if b then Some q else marks_of_arguments args u) ≡ Some t → (marks_of_arguments args u ≡ Some t → (run_state funs (argument_at args u) T t d).level ≤ (run_arguments funs args T d).level)
            → (run_state funs (if b then a else argument_at args u) T t d).level ≤ (run_before (is_var_state a) (run_state funs a T q d) (run_arguments funs args T d)).level
        go true e f = let k : (run_state funs a T t d).level ≡ (run_state funs a T q d).level = ap (λ k. (run_state funs a T k d).level) (let k : t ≡ q = cc e in k) in omega (arith, k)
        go false e f = let k = f e in omega (arith, k)

    -- and a call on it stands no deeper, if one on all of them doesn't
    shut_at : (args : ArgumentTrees) (u : ℕ) (t : StreamType) → marks_of_arguments args u ≡ Some t → (run_arguments funs args T d).are_shut ≡ true → (is_var_state (argument_at args u) || is_maximal (run_state funs (argument_at args u) T t d).out) ≡ true
    shut_at no_arguments u t e s = absurd (cc e)
    shut_at (argument_before x q a args) u t e s = go (eqb u x) e (shut_at args u t)
      where
        A : Run
        A = run_state funs a T q d

        go : (b : Bool) → (if b then Some q else marks_of_arguments args u) ≡ Some t
            → (marks_of_arguments args u ≡ Some t → (run_arguments funs args T d).are_shut ≡ true → (is_var_state (argument_at args u) || is_maximal (run_state funs (argument_at args u) T t d).out) ≡ true)
            → (is_var_state (if b then a else argument_at args u) || is_maximal (run_state funs (if b then a else argument_at args u) T t d).out) ≡ true
        go true e f = ap (λ k. is_var_state a || is_maximal (run_state funs a T k d).out) (let k : t ≡ q = cc e in k) ∙ and_first (is_var_state a || is_maximal A.out) (run_arguments funs args T d).are_shut s
        go false e f = f e (and_second (is_var_state a || is_maximal A.out) (run_arguments funs args T d).are_shut s)

module _ (funs : List CoreBody) (counts : ℕ → Bool) (args : ArgumentTrees) (c : Context) (T : NameTypes) (d : Environment) where
  -- the composed arguments give what the inner ones do, on what the outer ones give; their calls are those of
  -- what is passed on, and they reach no deeper than the outer ones
  record Composes (inner : ArgumentTrees) : Type 0 where
    pub outs : (run_arguments (fun_at funs) inner (types_of_arguments args) (value_at eps_emp (argument_names args) (run_arguments (fun_at funs) args T d).outs)).outs ≡ (run_arguments (fun_at funs) (composed args inner) T d).outs
    pub calls : (run_arguments (fun_at funs) (composed args inner) T d).calls ≡ calls_passed (fun_at funs) T args d (names_passed inner)
    pub level : (run_arguments (fun_at funs) (composed args inner) T d).level ≤ (run_arguments (fun_at funs) args T d).level
    pub shut : (run_arguments (fun_at funs) args T d).are_shut ≡ true → (run_arguments (fun_at funs) (composed args inner) T d).are_shut ≡ true

  -- and so they do
  composes : (inner : ArgumentTrees) → are_plain inner ≡ true → HaveArgumentTypes funs counts (context_of_arguments c args) inner → Composes inner
  composes no_arguments p h = record { outs = refl; calls = refl; level = omega arith; shut = λ e. refl }
  composes (argument_before x t (sink q) inner) p h =
      let i = composes inner p h.1 in
      record {
        outs = ap (λ ps. emp q ∷ ps) i.outs;
        calls = omega (arith, i.calls);
        level = omega (arith, i.level);
        shut = λ e. ap₂ ◌&&◌ (is_maximal-emp q ∙ h.0.1) (i.shut e);
      }
  composes (argument_before x t (var_state u) inner) p h =
      let i = composes inner p h.1 in
      let k = calls_are (fun_at funs) T d args u t h.0 in
      let l = level_at (fun_at funs) T d args u t h.0 in
      record {
        outs = ap₂ ◌∷◌ (sym (out_at (fun_at funs) T d args u t h.0)) i.outs;
        calls = omega (arith, i.calls, k);
        level = omega (arith, i.level, l);
        shut = λ e. ap₂ ◌&&◌ (shut_at (fun_at funs) T d args u t h.0 e) (i.shut e);
      }
  composes (argument_before x t _ inner) p h = absurd (true≢false (sym p))

-- the calls of a list where the first argument is that of x, against those of the list without x of the others
module _ (funs : ℕ → CoreBody) (T : NameTypes) (x : ℕ) (t : StreamType) (a : StateTree) (args : ArgumentTrees) where
  -- of a list, with the argument of x
  abbrev of_all : Environment → List ℕ → ℕ
  of_all = calls_passed funs T (argument_before x t a args)

  -- and without it
  abbrev of_others : Environment → List ℕ → ℕ
  of_others d us = calls_passed funs T args d (without x us)

  -- they are the same where x isn't in the list
  none_share : (d : Environment) (us : List ℕ) → holds x us ≡ false → of_all d us ≡ of_others d us
  none_share d [] n = refl
  none_share d (u ∷ us) n = go (eqb u x) refl (none_share d us)
    where
      go : (b : Bool) → eqb u x ≡ b → (holds x us ≡ false → of_all d us ≡ of_others d us)
          → ((if b then (run_state funs a T t d).calls else calls_at funs T args d u) + of_all d us) ≡ calls_passed funs T args d (if b then without x us else u ∷ without x us)
      go true e f = absurd (true≢false (sym (ap (λ c. c || holds x us) (ap (λ w. eqb x w) (eqb-true u x e) ∙ eqb-same x)) ∙ n))
      go false e f = let k = f (rest (eqb x u) n) in omega (arith, k)
        where
          rest : (c : Bool) → (c || holds x us) ≡ false → holds x us ≡ false
          rest true m = absurd (true≢false m)
          rest false m = m

  -- or where its argument makes no call
  plain_share : (d : Environment) (us : List ℕ) → (run_state funs a T t d).calls ≡ 0 → of_all d us ≡ of_others d us
  plain_share d [] n = refl
  plain_share d (u ∷ us) n = go (eqb u x) (plain_share d us n)
    where
      go : (b : Bool) → of_all d us ≡ of_others d us
          → ((if b then (run_state funs a T t d).calls else calls_at funs T args d u) + of_all d us) ≡ calls_passed funs T args d (if b then without x us else u ∷ without x us)
      go true f = omega (arith, f, n)
      go false f = omega (arith, f)

  -- where x is in the list once, that argument's calls are added once
  once_share : (us : List ℕ) → at_most_once x us ≡ true → ((d : Environment) → of_all d us ≡ of_others d us) ⊎ ((d : Environment) → of_all d us ≡ (run_state funs a T t d).calls + of_others d us)
  once_share [] m = inl (λ d. refl)
  once_share (u ∷ us) m = go (eqb u x) refl m (once_share us)
    where
      is_not : (b : Bool) → not b ≡ true → b ≡ false
      is_not false h = refl
      is_not true h = absurd (true≢false (sym h))

      further : eqb u x ≡ false → ((d : Environment) → of_all d us ≡ of_others d us) ⊎ ((d : Environment) → of_all d us ≡ (run_state funs a T t d).calls + of_others d us)
          → ((d : Environment) → (calls_at funs T args d u + of_all d us) ≡ (calls_at funs T args d u + of_others d us))
          ⊎ ((d : Environment) → (calls_at funs T args d u + of_all d us) ≡ (run_state funs a T t d).calls + (calls_at funs T args d u + of_others d us))
      further e (inl f) = inl (λ d. let k = f d in omega (arith, k))
      further e (inr f) = inr (λ d. let k = f d in omega (arith, k))

      go : (b : Bool) → eqb u x ≡ b → (if b then not (holds x us) else at_most_once x us) ≡ true
          → (at_most_once x us ≡ true → ((d : Environment) → of_all d us ≡ of_others d us) ⊎ ((d : Environment) → of_all d us ≡ (run_state funs a T t d).calls + of_others d us))
          → ((d : Environment) → ((if b then (run_state funs a T t d).calls else calls_at funs T args d u) + of_all d us) ≡ calls_passed funs T args d (if b then without x us else u ∷ without x us))
          ⊎ ((d : Environment) → ((if b then (run_state funs a T t d).calls else calls_at funs T args d u) + of_all d us) ≡ (run_state funs a T t d).calls + calls_passed funs T args d (if b then without x us else u ∷ without x us))
      go true e m f = inr (λ d. let k = none_share d us (is_not (holds x us) m) in omega (arith, k))
      go false e m f = further e (f m)

-- a name and what is finished make no call
plain_calls : (funs : ℕ → CoreBody) (a : StateTree) (T : NameTypes) (t : StreamType) (d : Environment) → is_plain a ≡ true → (run_state funs a T t d).calls ≡ 0
plain_calls funs (sink q) T t d p = refl
plain_calls funs (var_state u) T t d p = refl
plain_calls funs _ T t d p = absurd (true≢false (sym p))

module _ (funs : List CoreBody) (typed : All (IsTypedBody funs) funs) (T : NameTypes) (d e : Environment) where
  -- what is passed on makes no more calls than all arguments, and as more comes its calls rise no more
  pub record Share (args : ArgumentTrees) (us : List ℕ) : Type 0 where
    pub calls : calls_passed (fun_at funs) T args d us ≤ (run_arguments (fun_at funs) args T d).calls
    pub rise : calls_passed (fun_at funs) T args e us + (run_arguments (fun_at funs) args T d).calls ≤ (run_arguments (fun_at funs) args T e).calls + calls_passed (fun_at funs) T args d us

  -- where there is no argument nothing is called
  none_passed : (env : Environment) (us : List ℕ) → calls_passed (fun_at funs) T no_arguments env us ≡ 0
  none_passed env [] = refl
  none_passed env (u ∷ us) = let k = none_passed env us in omega (arith, k)

  -- so it is where each argument that may make calls is passed on once at most
  pub shares : (args : ArgumentTrees) (c : Context) → Extends c T no_pasts → HaveArgumentTypes funs (is_inert_fun funs) c args → Streams T d → Continues T d e → (us : List ℕ) → stand_once args us ≡ true → Share args us
  shares no_arguments c w t s g us o = let k = none_passed d us in let l = none_passed e us in record { calls = omega (arith, k); rise = omega (arith, k, l) }
  shares (argument_before x q a args) c w t s g us o =
      let grows : (run_state (fun_at funs) a T q d).calls ≤ (run_state (fun_at funs) a T q e).calls = (state_run_grows funs typed a c T q w t.0 d e s g).calls in
      go (or_split (is_plain a) (at_most_once x us) (and_first (is_plain a || at_most_once x us) (stand_once args (without x us)) o)) grows (shares args c w t.1 s g (without x us) (and_second (is_plain a || at_most_once x us) (stand_once args (without x us)) o))
    where
      twice : (run_state (fun_at funs) a T q d).calls ≤ (run_state (fun_at funs) a T q e).calls → Share args (without x us)
          → ((env : Environment) → calls_passed (fun_at funs) T (argument_before x q a args) env us ≡ calls_passed (fun_at funs) T args env (without x us))
          ⊎ ((env : Environment) → calls_passed (fun_at funs) T (argument_before x q a args) env us ≡ (run_state (fun_at funs) a T q env).calls + calls_passed (fun_at funs) T args env (without x us)) → Share (argument_before x q a args) us
      twice grows h (inl f) = let k = f d in let l = f e in record { calls = omega (arith, k, h.calls); rise = omega (arith, k, l, h.rise, grows) }
      twice grows h (inr f) = let k = f d in let l = f e in record { calls = omega (arith, k, h.calls); rise = omega (arith, k, l, h.rise, grows) }

      go : (is_plain a ≡ true) ⊎ (at_most_once x us ≡ true) → (run_state (fun_at funs) a T q d).calls ≤ (run_state (fun_at funs) a T q e).calls → Share args (without x us) → Share (argument_before x q a args) us
      go (inl p) grows h = twice grows h (inl (λ env. plain_share (fun_at funs) T x q a args env us (plain_calls (fun_at funs) a T q env p)))
      go (inr m) grows h = twice grows h (once_share (fun_at funs) T x q a args us m)

-- nor do arguments that are all such
plain_all : (funs : ℕ → CoreBody) (inner : ArgumentTrees) (T : NameTypes) (d : Environment) → are_plain inner ≡ true → (run_arguments funs inner T d).calls ≡ 0
plain_all funs no_arguments T d p = refl
plain_all funs (argument_before x t s inner) T d p =
    let i = plain_calls funs s T t d (and_first (is_plain s) (are_plain inner) p) in
    let k = plain_all funs inner T d (and_second (is_plain s) (are_plain inner) p) in
    omega (arith, i, k)

-- a body is lighter than a frame of it whose arguments make no call
lighter_alone : (i i' : Runs) (b b' : Run) → i.calls ≡ 0 → Lighter false false (frame_run i b) (frame_run i' b') b b'
lighter_alone i i' b b' q =
    let l = deeper_less i.are_shut true b.level b.level (omega arith) (λ e. refl) in
    let n = deeper_less i'.are_shut true b'.level b'.level (omega arith) (λ e. refl) in
    record {
      out = refl;
      next = refl;
      calls = omega arith;
      rise = omega (arith, q);
      level = omega (arith, l);
      next_level = omega (arith, n);
      shut = λ e. e;
      next_shut = λ e. e;
    }

module _ (funs : List CoreBody) (typed : All (IsTypedBody funs) funs) where
  -- so the runs of the one frame are lighter
  pub frames_lighter : (r : StreamType) (args inner : ArgumentTrees) (a : StateTree) → are_plain inner ≡ true → stand_once args (names_passed inner) ≡ true → (c : Context) (T : NameTypes) → Extends c T no_pasts
      → HasStateType funs (is_inert_fun funs) c (frame_state args (frame_state inner a)) r → (d e : Environment) → Streams T d → Continues T d e → LighterState funs T r d e (frame_state args (frame_state inner a)) (frame_state (composed args inner) a)
  frames_lighter r args inner a p o c T w t d e s g =
      let h = composes funs (is_inert_fun funs) args c T d inner p t.1.0 in
      let k = composes funs (is_inert_fun funs) args c T e inner p t.1.0 in
      let m = shares funs typed T d e args c w t.0 s g (names_passed inner) o in
      let A = run_arguments (fun_at funs) args T d in
      let A' = run_arguments (fun_at funs) args T e in
      let I = run_arguments (fun_at funs) inner (types_of_arguments args) (value_at eps_emp (argument_names args) A.outs) in
      let I' = run_arguments (fun_at funs) inner (types_of_arguments args) (value_at eps_emp (argument_names args) A'.outs) in
      let X = run_arguments (fun_at funs) (composed args inner) T d in
      let X' = run_arguments (fun_at funs) (composed args inner) T e in
      let body : List ℕ → NameTypes → List StreamPrefix → Run = λ ns q os. run_state (fun_at funs) a q r (value_at eps_emp ns os) in
      let first : List StreamPrefix → Run = body (argument_names inner) (types_of_arguments inner) in
      let same : (os os' : List StreamPrefix) → os ≡ os' → first os ≡ body (argument_names (composed args inner)) (types_of_arguments (composed args inner)) os'
      = λ os os' e. ap first e ∙ ap₂ (λ ns q. body ns q os') (sym (composed_names args inner)) (sym (composed_types args inner)) in
      lighter_to (ap (frame_run X) (same I.outs X.outs h.outs)) (ap (frame_run X') (same I'.outs X'.outs k.outs))
      (let hc = h.calls in let kc = k.calls in let mc = m.calls in let mr = m.rise in
      lighter_then (less_frame {a = A} {a' = A'} {x = X} {x' = X'} (record { calls = omega (arith, hc, mc); rise = omega (arith, hc, kc, mr); level = h.level; next_level = k.level; shut = h.shut; next_shut = k.shut }) _ _)
      (lighter_body (lighter_alone I I' (first I.outs) (first I'.outs) (plain_all (fun_at funs) inner (types_of_arguments args) (value_at eps_emp (argument_names args) A.outs) p)) X X'))
