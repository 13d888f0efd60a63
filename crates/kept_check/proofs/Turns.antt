-- What is found of states that stand one after the other, and which names are bound behind them.
use Rattle.std.proofs.Common.{◌≡◌, ◌∙◌, ℕ, zero, suc, ◌+◌, true, List, [], ◌∷◌, ◌++◌, length, length-append, append_assoc, append-nil, refl, ap, sym, subst, arith}
use Rattle.std.specs.Prelude.{Result, Ok, Err, OnOk}
use Rattle.std.proofs.lemmas.Result.{on_ok_weaker}
use Rattle.stream_type.specs.StreamType.{StreamType}
use Rattle.core_term.specs.CoreTerm.{CoreBody}
use Rattle.core_term.specs.FreeNames.{bound_names, is_distinct}
use Rattle.core_term.specs.Parts.{par_left, par_right, cat_first}
use Rattle.core_term.specs.Typing.{Context}
use Rattle.delta_state.specs.StateTree.{StateTree, ArgumentTrees, sink, var_state, par_state, cat_state, let_state, let_par_state, let_cat_state, sum_state, star_state, wait_state, frame_state, no_arguments, argument_before, argument_names}
use Rattle.delta_state.specs.StateTyping.{context_of_arguments}
use Rattle.kept_rules.specs.InTurn.{StateAt, state_at, with_state, with_sides, with_steps, own_names, names_of_parts, names_in_turn, names_of_arguments, states_in, states_of, states_of_arguments}
use Rattle.kept_rules.specs.StateRules.{IsGood, AreGood}
use Rattle.kept_rules.proofs.GoodStates.{nothing_more, whole_of}
use Rattle.kept_check.specs.declared.stop.Stop.{Stop}
use Rattle.kept_check.specs.declared.stop.Stop.TheVariants.{Memory, At}
use Rattle.kept_check.specs.Sizes.{states_of_parts, states_in_arguments, states_number}
use Rattle.kept_check.specs.Walk.{IsFirstBad, FindsBad, Finds, ChecksOwn}

-- sums of equal numbers
two : (a b m n : ℕ) → a ≡ m → b ≡ n → suc a + suc b ≡ suc m + suc n
two a b m n e f = omega (arith, e, f)

behind_all : (a b m n : ℕ) → a ≡ m → b ≡ n → a + suc b ≡ m + suc n
behind_all a b m n e f = omega (arith, e, f)

before_all : (a b m n : ℕ) → a ≡ m → b ≡ n → suc a + b ≡ suc m + n
before_all a b m n e f = omega (arith, e, f)

mutual
  -- as many states stand in a state as are counted
  length-parts : (s : StateTree) (c : Context) (r : StreamType) (before : List ℕ) → length (states_in c r before s) ≡ states_of_parts s
  length-parts (sink t) c r before = refl
  length-parts (var_state x) c r before = refl
  length-parts (par_state a b) c r before =
      length-append (states_of c (par_left r) before a) (states_of c (par_right r) (before ++ names_in_turn a) b)
      ∙ two _ _ _ _ (length-parts a c (par_left r) (before ++ own_names a)) (length-parts b c (par_right r) ((before ++ names_in_turn a) ++ own_names b))
  length-parts (cat_state a l) c r before = ap suc (length-parts a c (cat_first r) (before ++ own_names a))
  length-parts (let_state x s a b) c r before =
      length-append (states_of c s before a) (states_of (with_state x s a c) r (before ++ names_in_turn a) b)
      ∙ two _ _ _ _ (length-parts a c s (before ++ own_names a)) (length-parts b (with_state x s a c) r ((before ++ names_in_turn a) ++ own_names b))
  length-parts (let_par_state x y z a) c r before = ap suc (length-parts a (with_sides x y z c) r (before ++ own_names a))
  length-parts (let_cat_state x y z a) c r before = ap suc (length-parts a (with_steps x y z c) r (before ++ own_names a))
  length-parts (sum_state z t held x l y m) c r before = refl
  length-parts (star_state z t held l y ys m) c r before = refl
  length-parts (wait_state x t held l) c r before = refl
  length-parts (frame_state args s) c r before =
      length-append (states_of_arguments c before args) (states_of (context_of_arguments c args) r (argument_names args) s)
      ∙ behind_all _ _ _ _ (length-arguments args c before) (length-parts s (context_of_arguments c args) r (argument_names args ++ own_names s))

  length-arguments : (args : ArgumentTrees) (c : Context) (before : List ℕ) → length (states_of_arguments c before args) ≡ states_in_arguments args
  length-arguments no_arguments c before = refl
  length-arguments (argument_before x t s args) c before =
      length-append (states_of c t before s) (states_of_arguments c (before ++ names_in_turn s) args)
      ∙ before_all _ _ _ _ (length-parts s c t (before ++ own_names s)) (length-arguments args c (before ++ names_in_turn s))

-- what is so in any case
in_any_case : {P : Type 0} (q : Result ℕ Stop) → P → OnOk q P
in_any_case (Ok n) p = p
in_any_case (Err e) p = tt

module _ (funs : List CoreBody) (depth : ℕ) where
  good_both : (js ks : List StateAt) → AreGood funs depth js → AreGood funs depth ks → AreGood funs depth (js ++ ks)
  good_both [] ks g h = h
  good_both (j ∷ js) ks g h = (g.0, good_both js ks g.1 h)

  good_left : (js ks : List StateAt) → AreGood funs depth (js ++ ks) → AreGood funs depth js
  good_left [] ks g = tt
  good_left (j ∷ js) ks g = (g.0, good_left js ks g.1)

  good_right : (js ks : List StateAt) → AreGood funs depth (js ++ ks) → AreGood funs depth ks
  good_right [] ks g = g
  good_right (j ∷ js) ks g = good_right js ks g.1

  -- the first that isn't as it should be is so before others,
  bad_before : (js ks : List StateAt) (i : ℕ) → IsFirstBad funs depth js i → IsFirstBad funs depth (js ++ ks) i
  bad_before [] ks i h = absurd h
  bad_before (j ∷ js) ks zero h = h
  bad_before (j ∷ js) ks (suc i) h = (h.0, bad_before js ks i h.1)

  -- and behind good ones
  bad_behind : (js ks : List StateAt) (i : ℕ) → AreGood funs depth js → IsFirstBad funs depth ks i → IsFirstBad funs depth (js ++ ks) (length js + i)
  bad_behind [] ks i g h = let e : i ≡ 0 + i = omega arith in subst (IsFirstBad funs depth ks) e h
  bad_behind (j ∷ js) ks i g h = let e : suc (length js + i) ≡ suc (length js) + i = omega arith in subst (IsFirstBad funs depth (j ∷ (js ++ ks))) e (g.0, bad_behind js ks i g.1 h)

  -- of two lists the first has one that isn't
  finds_first : (n : ℕ) (js ks : List StateAt) (e : Stop) → FindsBad funs depth n js (Err e) → FindsBad funs depth n (js ++ ks) (Err e)
  finds_first n js ks Memory h = tt
  finds_first n js ks (At m) h = (h.0, h.1, bad_before js ks h.0 h.2)

  -- it has none
  finds_then : (n m : ℕ) (js ks : List StateAt) (r : Result ℕ Stop) → FindsBad funs depth n js (Ok m) → FindsBad funs depth m ks r → FindsBad funs depth n (js ++ ks) r
  finds_then n m js ks (Ok k) h g =
      let next : m ≡ n + length js = h.1 in
      let end : k ≡ m + length ks = g.1 in
      let both = length-append js ks in (good_both js ks h.0 g.0, omega (arith, next, end, both))
  finds_then n m js ks (Err Memory) h g = tt
  finds_then n m js ks (Err (At k)) h g =
      let next : m ≡ n + length js = h.1 in
      let i = g.0 in
      let there : k ≡ m + i = g.1 in (length js + i, omega (arith, next, there), bad_behind js ks i h.0 g.2)

  -- the first of some is as it should be
  finds_behind : (n : ℕ) (j : StateAt) (js : List StateAt) (r : Result ℕ Stop) → IsGood funs depth j → FindsBad funs depth (n + 1) js r → FindsBad funs depth n (j ∷ js) r
  finds_behind n j js (Ok k) g h = let end : k ≡ (n + 1) + length js = h.1 in ((g, h.0), omega (arith, end))
  finds_behind n j js (Err Memory) g h = tt
  finds_behind n j js (Err (At k)) g h =
      let i = h.0 in
      let there : k ≡ (n + 1) + i = h.1 in (suc i, omega (arith, there), (g, h.2))

  -- a state that isn't as it should be ends the walk,
  pub own_ends : (A : Type 0) (n : ℕ) (c : Context) (r : StreamType) (old new last : List ℕ) (s : StateTree) (e : Stop) → ChecksOwn {A = A} funs depth n (state_at c r old s) new (Err e)
      → Finds funs depth n (states_of c r old s) old (names_in_turn s) last (Err e)
  own_ends A n c r old new last s Memory h = record { found = tt; bound = tt }
  own_ends A n c r old new last s (At m) h = let same : m ≡ n = h.0 in record { found = (0, omega (arith, same), h.1); bound = tt }

  -- and behind one that is its parts are gone through
  pub own_then : (n : ℕ) (c : Context) (r : StreamType) (old mid new : List ℕ) (s : StateTree) (q : Result ℕ Stop) → IsGood funs depth (state_at c r old s) × (mid ≡ old ++ own_names s)
      → Finds funs depth (n + 1) (states_in c r mid s) mid (names_of_parts s) new q → Finds funs depth n (states_of c r old s) old (names_in_turn s) new q
  own_then n c r old mid new s q g f = record {
    found = finds_behind n (state_at c r old s) (states_in c r (old ++ own_names s) s) q g.0 (subst (λ (l : List ℕ). FindsBad funs depth (n + 1) (states_in c r l s) q) g.1 f.found);
    bound = on_ok_weaker q (λ e. e ∙ ap (λ l. l ++ names_of_parts s) g.1 ∙ append_assoc old (own_names s) (names_of_parts s)) f.bound;
  }

  -- the walk ends in the first of two
  pub first_ends : (n : ℕ) (js ks : List StateAt) (old names more mid new : List ℕ) (e : Stop) → Finds funs depth n js old names mid (Err e) → Finds funs depth n (js ++ ks) old more new (Err e)
  first_ends n js ks old names more mid new e f = record { found = finds_first n js ks e f.found; bound = tt }

  -- or goes on behind it
  pub then_second : (n m : ℕ) (js : List StateAt) (ks : List ℕ → List StateAt) (old names more mid new : List ℕ) (q : Result ℕ Stop) → Finds funs depth n js old names mid (Ok m)
      → Finds funs depth m (ks mid) mid more new q → Finds funs depth n (js ++ ks (old ++ names)) old (names ++ more) new q
  then_second n m js ks old names more mid new q f g = record {
    found = finds_then n m js (ks (old ++ names)) q f.found (subst (λ (l : List ℕ). FindsBad funs depth m (ks l) q) f.bound g.found);
    bound = on_ok_weaker q (λ e. e ∙ ap (λ l. l ++ more) f.bound ∙ append_assoc old names more) g.bound;
  }

  -- the names behind a body are those before it
  pub then_body : (n m : ℕ) (js ks : List StateAt) (old names new : List ℕ) (q : Result ℕ Stop) → Finds funs depth n js old names new (Ok m) → FindsBad funs depth m ks q
      → Finds funs depth n (js ++ ks) old names new q
  then_body n m js ks old names new q f g = record { found = finds_then n m js ks q f.found g; bound = in_any_case q f.bound }

  -- the states in a state that is the same
  pub parts_found : (n : ℕ) (c : Context) (r : StreamType) (old new : List ℕ) (s t : StateTree) (q : Result ℕ Stop) → s ≡ t → Finds funs depth n (states_in c r old t) old (names_of_parts t) new q
      → Finds funs depth n (states_in c r old s) old (names_of_parts s) new q
  parts_found n c r old new s t q e f = subst (λ (u : StateTree). Finds funs depth n (states_in c r old u) old (names_of_parts u) new q) (sym e) f

  -- the states of arguments that are the same
  pub arguments_found : (n : ℕ) (c : Context) (old new : List ℕ) (args more : ArgumentTrees) (q : Result ℕ Stop) → args ≡ more → Finds funs depth n (states_of_arguments c old more) old (names_of_arguments more) new q
      → Finds funs depth n (states_of_arguments c old args) old (names_of_arguments args) new q
  arguments_found n c old new args more q e f = subst (λ (u : ArgumentTrees). Finds funs depth n (states_of_arguments c old u) old (names_of_arguments u) new q) (sym e) f

  -- the number behind the states of a state
  pub next_number : (n m : ℕ) (c : Context) (r : StreamType) (before : List ℕ) (s : StateTree) → FindsBad funs depth n (states_of c r before s) (Ok m) → m ≡ n + states_number s
  next_number n m c r before s h =
      let next : m ≡ n + suc (length (states_in c r (before ++ own_names s) s)) = h.1 in
      let long = length-parts s c r (before ++ own_names s) in omega (arith, next, long)

  pub number_behind : (n m : ℕ) (c : Context) (before : List ℕ) (args : ArgumentTrees) → FindsBad funs depth n (states_of_arguments c before args) (Ok m) → m ≡ n + states_in_arguments args
  number_behind n m c before args h =
      let next : m ≡ n + length (states_of_arguments c before args) = h.1 in
      let long = length-arguments args c before in omega (arith, next, long)

  mutual
    -- behind good states no name is bound twice
    once_behind : (s : StateTree) (c : Context) (r : StreamType) (before : List ℕ) → AreGood funs depth (states_of c r before s) → is_distinct (before ++ names_in_turn s) ≡ true
    once_behind (sink t) c r before g = g.0.once
    once_behind (var_state x) c r before g = g.0.once
    once_behind (par_state a b) c r before g =
        let u = before ++ [] in
        let ja = states_of c (par_left r) u a in
        let jb = states_of c (par_right r) (u ++ names_in_turn a) b in
        whole_of before [] (names_in_turn a ++ names_in_turn b)
        (whole_of u (names_in_turn a) (names_in_turn b) (once_behind b c (par_right r) (u ++ names_in_turn a) (good_right ja jb g.1)))
    once_behind (cat_state a l) c r before g =
        whole_of before (bound_names l.term) (names_in_turn a) (once_behind a c (cat_first r) (before ++ bound_names l.term) g.1)
    once_behind (let_state x s a b) c r before g =
        let u = before ++ (x ∷ []) in
        let ja = states_of c s u a in
        let jb = states_of (with_state x s a c) r (u ++ names_in_turn a) b in
        whole_of before (x ∷ []) (names_in_turn a ++ names_in_turn b)
        (whole_of u (names_in_turn a) (names_in_turn b) (once_behind b (with_state x s a c) r (u ++ names_in_turn a) (good_right ja jb g.1)))
    once_behind (let_par_state x y z a) c r before g =
        whole_of before (x ∷ (y ∷ [])) (names_in_turn a) (once_behind a (with_sides x y z c) r (before ++ (x ∷ (y ∷ []))) g.1)
    once_behind (let_cat_state x y z a) c r before g =
        whole_of before (x ∷ (y ∷ [])) (names_in_turn a) (once_behind a (with_steps x y z c) r (before ++ (x ∷ (y ∷ []))) g.1)
    once_behind (sum_state z t held x l y m) c r before g = nothing_more before (own_names (sum_state z t held x l y m)) g.0.once
    once_behind (star_state z t held l y ys m) c r before g = nothing_more before (own_names (star_state z t held l y ys m)) g.0.once
    once_behind (wait_state x t held l) c r before g = nothing_more before (bound_names l.term) g.0.once
    once_behind (frame_state args s) c r before g =
        let u = before ++ [] in
        let ja = states_of_arguments c u args in
        let jb = states_of (context_of_arguments c args) r (argument_names args) s in
        whole_of before [] (names_of_arguments args) (once_in args c u g.0.once (good_left ja jb g.1))

    once_in : (args : ArgumentTrees) (c : Context) (before : List ℕ) → is_distinct before ≡ true → AreGood funs depth (states_of_arguments c before args) → is_distinct (before ++ names_of_arguments args) ≡ true
    once_in no_arguments c before o g = ap is_distinct (append-nil before) ∙ o
    once_in (argument_before x t s args) c before o g =
        let js = states_of c t before s in
        let u = before ++ names_in_turn s in
        let ks = states_of_arguments c u args in
        whole_of before (names_in_turn s) (names_of_arguments args) (once_in args c u (once_behind s c t before (good_left js ks g)) (good_right js ks g))

  -- so where nothing is found
  pub still_once : (n m : ℕ) (c : Context) (r : StreamType) (before : List ℕ) (s : StateTree) → FindsBad funs depth n (states_of c r before s) (Ok m) → is_distinct (before ++ names_in_turn s) ≡ true
  still_once n m c r before s h = once_behind s c r before h.0
