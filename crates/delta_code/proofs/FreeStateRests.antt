-- What is left of a state depends on its free names alone.
use Rattle.std.proofs.Common.{◌≡◌, ◌∙◌, ℕ, Bool, true, List, [], ◌∷◌, ◌++◌, if◌then◌else◌, ap, ap₂, refl, sym}
use Rattle.std.specs.Prelude.{⊤}
use Rattle.stream_type.specs.StreamType.{StreamType, cat, par}
use Rattle.stream_prefix.specs.StreamPrefix.{StreamPrefix, in_left, in_right, star_emp, star_done, star_first, star_rest, is_maximal, der, join, eps_emp}
use Rattle.bunch.specs.Names.{put, holds, value_at}
use Rattle.bunch.specs.BunchTree.{leaf_names}
use Rattle.hist_value.specs.HistValue.{HistValue}
use Rattle.hist_value.specs.Wholes.{value_of}
use Rattle.core_term.specs.CoreTerm.{CoreTerm, CoreTerms, CoreBody, var_term, eps_term, unit_term, nil_term, past_term, par_term, cat_term, cons_term, inl_term, inr_term, let_term, let_par_term, let_cat_term, case_sum_term, case_star_term, wait_term, call_term, no_terms, term_before, leaf_types}
use Rattle.core_term.specs.Environment.{Environment, NameTypes}
use Rattle.core_term.specs.FreeNames.{without, free_names, free_in_terms, once}
use Rattle.core_term.specs.Meaning.{values, call_at, run_at}
use Rattle.core_term.specs.Parts.{par_left, par_right, cat_first, cat_second, sum_left, sum_right, star_item, star_items, left_part, right_part, first_part, second_part}
use Rattle.core_term.specs.Run.{Run, Runs}
use Rattle.core_term.specs.Typing.{Context}
use Rattle.core_term.proofs.FreeRuns.{Alike, alike_put, alike_left, alike_right, alike_head, alike_tail, same_run, same_runs}
use Rattle.core_term.proofs.OnceEach.{holds-once}
use Rattle.core_term.proofs.Retyping.{Among}
use Rattle.core_term.proofs.Sides.{holds-head}
use Rattle.core_term.proofs.Without.{holds-tail}
use Rattle.delta_state.specs.StateTree.{Known, HeldName, LaterTree, StateTree, ArgumentTrees, sink, var_state, par_state, cat_state, let_state, let_par_state, let_cat_state, sum_state, star_state, wait_state, frame_state, no_arguments, argument_before, argument_names, held_names, free_in_state, free_in_sum, free_in_star, free_in_wait, free_in_arguments}
use Rattle.delta_state.specs.StateMeaning.{past_in, knowing, types_held, prefixes_held, with_held, types_of_arguments, run_state}
use Rattle.delta_state.specs.StateTyping.{HasStateType, HaveArgumentTypes, IsHeld}
use Rattle.delta_state.specs.Rest.{taken, held_more, cut_state, sum_rest, star_rest_state, rest_with, rest_all, call_rest_at, rest_later, rest_of, rest_of_arguments}
use Rattle.state_steps.proofs.FreeStateRuns.{state_same, arguments_same}

-- equal tests choose between equals,
chosen_same : (b c : Bool) (x y u v : StateTree) → b ≡ c → x ≡ y → u ≡ v → (if b then x else u) ≡ (if c then y else v)
chosen_same b c x y u v eb ex eu = ap (λ b. if b then x else u) eb ∙ ap₂ (λ x u. if c then x else u) ex eu

-- and equal subjects between equal sides,
sum_rest-same : (z x y : ℕ) (s t : StreamType) (p q : StreamPrefix) (w w' : StateTree) (a a' b b' : StreamPrefix → StateTree) → s ≡ t → p ≡ q → w ≡ w' → ((p : StreamPrefix) → a p ≡ a' p) → ((p : StreamPrefix) → b p ≡ b' p)
    → sum_rest z x y s p w a b ≡ sum_rest z x y t q w' a' b'
sum_rest-same z x y s t p q w w' a a' b b' es ep ew ea eb = ap₂ (λ s p. sum_rest z x y s p w a b) es ep ∙ go q
  where
    go : (q : StreamPrefix) → sum_rest z x y t q w a b ≡ sum_rest z x y t q w' a' b'
    go (in_left p) = ap (let_state x (der p (sum_left t)) (var_state z)) (ea p)
    go (in_right p) = ap (let_state y (der p (sum_right t)) (var_state z)) (eb p)
    go _ = ew

-- or between the end and equal items
star_rest-same : (z y ys : ℕ) (s t : StreamType) (p q : StreamPrefix) (w w' a a' : StateTree) (b b' : StreamPrefix → StreamPrefix → StateTree) → s ≡ t → p ≡ q → w ≡ w' → a ≡ a' → ((p q : StreamPrefix) → b p q ≡ b' p q)
    → star_rest_state z y ys s p w a b ≡ star_rest_state z y ys t q w' a' b'
star_rest-same z y ys s t p q w w' a a' b b' es ep ew ea eb = ap₂ (λ s p. star_rest_state z y ys s p w a b) es ep ∙ go q
  where
    go : (q : StreamPrefix) → star_rest_state z y ys t q w a b ≡ star_rest_state z y ys t q w' a' b'
    go star_done = ea
    go (star_first p) = ap (let_cat_state y ys z) (eb p star_emp)
    go (star_rest p q) = ap (λ u. let_state y (der p (star_item t)) (sink (der p (star_item t))) (let_state ys (der q t) (var_state z) u)) (eb p q)
    go _ = ew

-- what is taken of names that are alike is the same,
taken_same : (names : List ℕ) (T U : NameTypes) (d e : Environment) → Alike names T U d e → taken names T d ≡ taken names U e
taken_same [] T U d e h = refl
taken_same (x ∷ xs) T U d e h =
    let i = alike_head x xs T U d e h in ap₂ ◌∷◌ (ap₂ (λ t p. record { name = x; type = t; prefix = p }) i.0 i.1) (taken_same xs T U d e (alike_tail x xs T U d e h))

-- also of each of them once
once_same : (names : List ℕ) (T U : NameTypes) (d e : Environment) → Alike names T U d e → taken (once names) T d ≡ taken (once names) U e
once_same names T U d e h = taken_same (once names) T U d e (record { at = λ x m. h.at x (sym (holds-once x names) ∙ m) })

module _ (funs : ℕ → CoreBody) (k : ℕ) (call_rest : ℕ → List HistValue → List StreamPrefix → StateTree) where
  -- a term runs alike where its free names are alike
  term_same : (t : CoreTerm) (T U : NameTypes) (r : StreamType) (d e : Environment) (past : List Known) → Alike (free_names t) T U d e → run_at funs k t T r d (past_in past) ≡ run_at funs k t U r e (past_in past)
  term_same t T U r d e past h = same_run funs (call_at funs k) t T U r d e (past_in past) (past_in past) h (record { at = λ z m. refl })

  mutual
    -- what is left of a term, and of operands, depends on the free names alone
    pub term_rest_same : (t : CoreTerm) (T U : NameTypes) (r : StreamType) (d e : Environment) (past : List Known) → Alike (free_names t) T U d e → rest_with funs k call_rest t T r d past ≡ rest_with funs k call_rest t U r e past
    term_rest_same (var_term x) T U r d e past h = refl
    term_rest_same eps_term T U r d e past h = refl
    term_rest_same unit_term T U r d e past h = refl
    term_rest_same nil_term T U r d e past h = refl
    term_rest_same (past_term m) T U r d e past h = refl
    term_rest_same (par_term a b) T U r d e past h =
        ap₂ par_state (term_rest_same a T U (par_left r) d e past (alike_left (free_names a) (free_names b) T U d e h)) (term_rest_same b T U (par_right r) d e past (alike_right (free_names a) (free_names b) T U d e h))
    term_rest_same (cat_term a b) T U r d e past h =
        let i = alike_left (free_names a) (free_names b) T U d e h in
        chosen_same _ _ _ _ _ _ (ap (λ (u : Run). is_maximal u.out) (term_same a T U (cat_first r) d e past i))
        (term_rest_same b T U (cat_second r) d e past (alike_right (free_names a) (free_names b) T U d e h))
        (ap (λ s. cat_state s (record { term = b; past = past; depth = k })) (term_rest_same a T U (cat_first r) d e past i))
    term_rest_same (cons_term a b) T U r d e past h =
        let i = alike_left (free_names a) (free_names b) T U d e h in
        chosen_same _ _ _ _ _ _ (ap (λ (u : Run). is_maximal u.out) (term_same a T U (star_item r) d e past i))
        (term_rest_same b T U (star_items r) d e past (alike_right (free_names a) (free_names b) T U d e h))
        (ap (λ s. cat_state s (record { term = b; past = past; depth = k })) (term_rest_same a T U (star_item r) d e past i))
    term_rest_same (inl_term a) T U r d e past h = term_rest_same a T U (sum_left r) d e past h
    term_rest_same (inr_term a) T U r d e past h = term_rest_same a T U (sum_right r) d e past h
    term_rest_same (let_term x s a b) T U r d e past h =
        let i = alike_left (free_names a) (without x (free_names b)) T U d e h in
        let run = term_same a T U s d e past i in
        ap₂ (λ (u : Run) c. let_state x (der u.out s) c (rest_with funs k call_rest b (put x s T) r (put x (run_at funs k a T s d (past_in past)).out d) past)) run (term_rest_same a T U s d e past i)
        ∙ ap (let_state x (der (run_at funs k a U s e (past_in past)).out s) (rest_with funs k call_rest a U s e past))
        (term_rest_same b (put x s T) (put x s U) r (put x (run_at funs k a T s d (past_in past)).out d) (put x (run_at funs k a U s e (past_in past)).out e) past
        (alike_put x (free_names b) T U d e s s _ _ refl (ap (λ u. u.out) run) (alike_right (free_names a) (without x (free_names b)) T U d e h)))
    term_rest_same (let_par_term x y z a) T U r d e past h =
        let i = alike_head z (without x (without y (free_names a))) T U d e h in
        ap (let_par_state x y z) (term_rest_same a _ _ r _ _ past
        (alike_put y (free_names a) (put x (par_left (T z)) T) (put x (par_left (U z)) U) (put x (left_part (d z)) d) (put x (left_part (e z)) e) (par_right (T z)) (par_right (U z)) (right_part (d z)) (right_part (e z)) (ap par_right i.0) (ap right_part i.1)
        (alike_put x (without y (free_names a)) T U d e (par_left (T z)) (par_left (U z)) (left_part (d z)) (left_part (e z)) (ap par_left i.0) (ap left_part i.1) (alike_tail z (without x (without y (free_names a))) T U d e h))))
    term_rest_same (let_cat_term x y z a) T U r d e past h =
        let i = alike_head z (without x (without y (free_names a))) T U d e h in
        ap₂ (λ t p. cut_state x y z t p (rest_with funs k call_rest a (put y (cat_second (T z)) (put x (cat_first (T z)) T)) r (put y (second_part (cat_second (T z)) (d z)) (put x (first_part (d z)) d)) past)) i.0 i.1
        ∙ ap (cut_state x y z (U z) (e z)) (term_rest_same a _ _ r _ _ past
        (alike_put y (free_names a) (put x (cat_first (T z)) T) (put x (cat_first (U z)) U) (put x (first_part (d z)) d) (put x (first_part (e z)) e) (cat_second (T z)) (cat_second (U z)) (second_part (cat_second (T z)) (d z)) (second_part (cat_second (U z)) (e z)) (ap cat_second i.0) (ap₂ (λ t p. second_part (cat_second t) p) i.0 i.1)
        (alike_put x (without y (free_names a)) T U d e (cat_first (T z)) (cat_first (U z)) (first_part (d z)) (first_part (e z)) (ap cat_first i.0) (ap first_part i.1) (alike_tail z (without x (without y (free_names a))) T U d e h))))
    term_rest_same (case_sum_term z t x a y b) T U r d e past h =
        let i = alike_head z (without x (free_names a) ++ without y (free_names b)) T U d e h in
        let j = alike_tail z (without x (free_names a) ++ without y (free_names b)) T U d e h in
        sum_rest-same z x y (T z) (U z) (d z) (e z) _ _ _ _ _ _ i.0 i.1
        (ap (λ held. sum_state z t held x (record { term = a; past = past; depth = k }) y (record { term = b; past = past; depth = k })) (once_same (z ∷ (without x (free_names a) ++ without y (free_names b))) T U d e h))
        (λ p. term_rest_same a _ _ r _ _ past (alike_put x (free_names a) T U d e (sum_left (T z)) (sum_left (U z)) p p (ap sum_left i.0) refl (alike_left (without x (free_names a)) (without y (free_names b)) T U d e j)))
        (λ p. term_rest_same b _ _ r _ _ past (alike_put y (free_names b) T U d e (sum_right (T z)) (sum_right (U z)) p p (ap sum_right i.0) refl (alike_right (without x (free_names a)) (without y (free_names b)) T U d e j)))
    term_rest_same (case_star_term z t a y ys b) T U r d e past h =
        let i = alike_head z (free_names a ++ without y (without ys (free_names b))) T U d e h in
        let j = alike_tail z (free_names a ++ without y (without ys (free_names b))) T U d e h in
        star_rest-same z y ys (T z) (U z) (d z) (e z) _ _ _ _ _ _ i.0 i.1
        (ap (λ held. star_state z t held (record { term = a; past = past; depth = k }) y ys (record { term = b; past = past; depth = k })) (once_same (z ∷ (free_names a ++ without y (without ys (free_names b)))) T U d e h))
        (term_rest_same a T U r d e past (alike_left (free_names a) (without y (without ys (free_names b))) T U d e j))
        (λ p q. term_rest_same b _ _ r _ _ past
        (alike_put ys (free_names b) (put y (star_item (T z)) T) (put y (star_item (U z)) U) (put y p d) (put y p e) (star_items (T z)) (star_items (U z)) q q (ap star_items i.0) refl
        (alike_put y (without ys (free_names b)) T U d e (star_item (T z)) (star_item (U z)) p p (ap star_item i.0) refl (alike_right (free_names a) (without y (without ys (free_names b))) T U d e j))))
    term_rest_same (wait_term x t a) T U r d e past h =
        let i = alike_head x (free_names a) T U d e h in
        chosen_same _ _ _ _ _ _ (ap is_maximal i.1)
        (ap₂ (λ s p. rest_with funs k call_rest a T r d (record { name = x; type = s; value = value_of p } ∷ past)) i.0 i.1
        ∙ term_rest_same a T U r d e (record { name = x; type = U x; value = value_of (e x) } ∷ past) (alike_tail x (free_names a) T U d e h))
        (ap (λ held. wait_state x t held (record { term = a; past = past; depth = k })) (once_same (x ∷ free_names a) T U d e h))
    term_rest_same (call_term f ms os) T U r d e past h =
        ap₂ frame_state (all_rests_same os (leaf_names (funs f).params) (leaf_types (funs f).params) T U d e past h)
        (ap (λ (u : Runs). call_rest f (values ms (past_in past)) u.outs) (same_runs funs (call_at funs k) os (leaf_types (funs f).params) T U d e (past_in past) (past_in past) h (record { at = λ z m. refl })))

    pub all_rests_same : (os : CoreTerms) (us : List ℕ) (ts : List StreamType) (T U : NameTypes) (d e : Environment) (past : List Known) → Alike (free_in_terms os) T U d e
        → rest_all funs k call_rest os us ts T d past ≡ rest_all funs k call_rest os us ts U e past
    all_rests_same no_terms us ts T U d e past h = refl
    all_rests_same (term_before o os) [] ts T U d e past h = refl
    all_rests_same (term_before o os) (u ∷ us) [] T U d e past h = refl
    all_rests_same (term_before o os) (u ∷ us) (t ∷ ts) T U d e past h =
        let i = alike_left (free_names o) (free_in_terms os) T U d e h in
        ap₂ (λ (v : Run) s. argument_before u (der v.out t) s (rest_all funs k call_rest os us ts T d past)) (term_same o T U t d e past i) (term_rest_same o T U t d e past i)
        ∙ ap (argument_before u (der (run_at funs k o U t e (past_in past)).out t) (rest_with funs k call_rest o U t e past)) (all_rests_same os us ts T U d e past (alike_right (free_names o) (free_in_terms os) T U d e h))

abbrev mutual
  -- each case and wait of a state holds only names that are free in it; the body of a frame isn't asked
  pub HoldsFree : StateTree → Type 0
  HoldsFree (sink t) = ⊤
  HoldsFree (var_state x) = ⊤
  HoldsFree (par_state a b) = HoldsFree a × HoldsFree b
  HoldsFree (cat_state a l) = HoldsFree a
  HoldsFree (let_state x s a b) = HoldsFree a × HoldsFree b
  HoldsFree (let_par_state x y z a) = HoldsFree a
  HoldsFree (let_cat_state x y z a) = HoldsFree a
  HoldsFree (sum_state z t held x l y m) = Among (held_names held) (free_in_sum z x l y m)
  HoldsFree (star_state z t held l y ys m) = Among (held_names held) (free_in_star z l y ys m)
  HoldsFree (wait_state x t held l) = Among (held_names held) (free_in_wait x l)
  HoldsFree (frame_state args s) = HoldFree args

  -- and so does each argument
  pub HoldFree : ArgumentTrees → Type 0
  HoldFree no_arguments = ⊤
  HoldFree (argument_before x t s args) = HoldsFree s × HoldFree args

module _ (funs : List CoreBody) (counts : ℕ → Bool) where
  -- the names that a typed form holds are free in it,
  held_free : (c : Context) (free : List ℕ) (held : List HeldName) → IsHeld c free held → Among (held_names held) free
  held_free c free held h = record { at = λ x m. sym (h.are_free x) ∙ m }

  mutual
    -- so a typed state holds only free names
    pub typed_holds_free : (s : StateTree) (c : Context) (r : StreamType) → HasStateType funs counts c s r → HoldsFree s
    typed_holds_free (sink t) c r h = tt
    typed_holds_free (var_state x) c r h = tt
    typed_holds_free (par_state a b) c (par s t) h = (typed_holds_free a c s h.0, typed_holds_free b c t h.1)
    typed_holds_free (par_state a b) c _ h = absurd h
    typed_holds_free (cat_state a l) c (cat s t) h = typed_holds_free a c s h.0
    typed_holds_free (cat_state a l) c _ h = absurd h
    typed_holds_free (let_state x s a b) c r h = (typed_holds_free a c s h.0, typed_holds_free b _ r h.1)
    typed_holds_free (let_par_state x y z a) c r h = typed_holds_free a _ r h.2
    typed_holds_free (let_cat_state x y z a) c r h = typed_holds_free a _ r h.2
    typed_holds_free (sum_state z t held x l y m) c r h = held_free c _ held h.1
    typed_holds_free (star_state z t held l y ys m) c r h = held_free c _ held h.1
    typed_holds_free (wait_state x t held l) c r h = held_free c _ held h.1
    typed_holds_free (frame_state args s) c r h = typed_hold_free args c h.0

    pub typed_hold_free : (args : ArgumentTrees) (c : Context) → HaveArgumentTypes funs counts c args → HoldFree args
    typed_hold_free no_arguments c h = tt
    typed_hold_free (argument_before x t s args) c h = (typed_holds_free s c t h.0, typed_hold_free args c h.1)

-- what is held goes before what comes,
with_held_alike : (free : List ℕ) (held : List HeldName) (T U : NameTypes) (d e : Environment) → Alike free T U d e → Alike free (types_held held) (types_held held) (with_held held d) (with_held held e)
with_held_alike free held T U d e h = record { at = λ x m. (refl, ap (join (prefixes_held held x)) (h.at x m).1) }

-- and the same is held then where what comes on the held names is the same,
held_more_same : (held : List HeldName) (d e : Environment) → ((x : ℕ) → holds x (held_names held) ≡ true → d x ≡ e x) → held_more held d ≡ held_more held e
held_more_same [] d e f = refl
held_more_same (h ∷ held) d e f =
    ap₂ ◌∷◌ (ap (λ p. record { name = h.name; type = h.type; prefix = join h.prefix p }) (f h.name (holds-head h.name (held_names held)))) (held_more_same held d e (λ x m. f x (holds-tail x h.name (held_names held) m)))

-- as where these are free names
among_held : (free : List ℕ) (held : List HeldName) (T U : NameTypes) (d e : Environment) → Among (held_names held) free → Alike free T U d e → held_more held d ≡ held_more held e
among_held free held T U d e a h = held_more_same held d e (λ x m. (h.at x (a.at x m)).1)

module _ (funs : ℕ → CoreBody) where
  -- what is left of code depends on its free names alone
  pub later_rest_same : (l : LaterTree) (T U : NameTypes) (r : StreamType) (d e : Environment) → Alike (free_names l.term) T U d e → rest_later funs l T r d ≡ rest_later funs l U r e
  later_rest_same l T U r d e h = term_rest_same funs l.depth (call_rest_at funs l.depth) l.term T U r d e l.past h

  mutual
    -- so does what is left of a state that holds only free names, and of arguments that do
    pub state_rest_same : (s : StateTree) (T U : NameTypes) (r : StreamType) (d e : Environment) → HoldsFree s → Alike (free_in_state s) T U d e → rest_of funs s T r d ≡ rest_of funs s U r e
    state_rest_same (sink t) T U r d e w h = refl
    state_rest_same (var_state x) T U r d e w h = refl
    state_rest_same (par_state a b) T U r d e w h =
        ap₂ par_state (state_rest_same a T U (par_left r) d e w.0 (alike_left (free_in_state a) (free_in_state b) T U d e h)) (state_rest_same b T U (par_right r) d e w.1 (alike_right (free_in_state a) (free_in_state b) T U d e h))
    state_rest_same (cat_state a l) T U r d e w h =
        let i = alike_left (free_in_state a) (free_names l.term) T U d e h in
        chosen_same _ _ _ _ _ _ (ap (λ (u : Run). is_maximal u.out) (state_same funs a T U (cat_first r) d e i))
        (later_rest_same l T U (cat_second r) d e (alike_right (free_in_state a) (free_names l.term) T U d e h))
        (ap (λ s. cat_state s l) (state_rest_same a T U (cat_first r) d e w i))
    state_rest_same (let_state x s a b) T U r d e w h =
        let i = alike_left (free_in_state a) (without x (free_in_state b)) T U d e h in
        let run = state_same funs a T U s d e i in
        ap₂ (λ (u : Run) c. let_state x (der u.out s) c (rest_of funs b (put x s T) r (put x (run_state funs a T s d).out d))) run (state_rest_same a T U s d e w.0 i)
        ∙ ap (let_state x (der (run_state funs a U s e).out s) (rest_of funs a U s e))
        (state_rest_same b (put x s T) (put x s U) r (put x (run_state funs a T s d).out d) (put x (run_state funs a U s e).out e) w.1
        (alike_put x (free_in_state b) T U d e s s _ _ refl (ap (λ u. u.out) run) (alike_right (free_in_state a) (without x (free_in_state b)) T U d e h)))
    state_rest_same (let_par_state x y z a) T U r d e w h =
        let i = alike_head z (without x (without y (free_in_state a))) T U d e h in
        ap (let_par_state x y z) (state_rest_same a _ _ r _ _ w
        (alike_put y (free_in_state a) (put x (par_left (T z)) T) (put x (par_left (U z)) U) (put x (left_part (d z)) d) (put x (left_part (e z)) e) (par_right (T z)) (par_right (U z)) (right_part (d z)) (right_part (e z)) (ap par_right i.0) (ap right_part i.1)
        (alike_put x (without y (free_in_state a)) T U d e (par_left (T z)) (par_left (U z)) (left_part (d z)) (left_part (e z)) (ap par_left i.0) (ap left_part i.1) (alike_tail z (without x (without y (free_in_state a))) T U d e h))))
    state_rest_same (let_cat_state x y z a) T U r d e w h =
        let i = alike_head z (without x (without y (free_in_state a))) T U d e h in
        ap₂ (λ t p. cut_state x y z t p (rest_of funs a (put y (cat_second (T z)) (put x (cat_first (T z)) T)) r (put y (second_part (cat_second (T z)) (d z)) (put x (first_part (d z)) d)))) i.0 i.1
        ∙ ap (cut_state x y z (U z) (e z)) (state_rest_same a _ _ r _ _ w
        (alike_put y (free_in_state a) (put x (cat_first (T z)) T) (put x (cat_first (U z)) U) (put x (first_part (d z)) d) (put x (first_part (e z)) e) (cat_second (T z)) (cat_second (U z)) (second_part (cat_second (T z)) (d z)) (second_part (cat_second (U z)) (e z)) (ap cat_second i.0) (ap₂ (λ t p. second_part (cat_second t) p) i.0 i.1)
        (alike_put x (without y (free_in_state a)) T U d e (cat_first (T z)) (cat_first (U z)) (first_part (d z)) (first_part (e z)) (ap cat_first i.0) (ap first_part i.1) (alike_tail z (without x (without y (free_in_state a))) T U d e h))))
    state_rest_same (sum_state z t held x l y m) T U r d e w h =
        let B = types_held held in
        let D = with_held held d in
        let E = with_held held e in
        let free = without x (free_names l.term) ++ without y (free_names m.term) in
        let g = with_held_alike (z ∷ free) held T U d e h in
        let j = alike_tail z free B B D E g in
        sum_rest-same z x y (B z) (B z) (D z) (E z) _ _ _ _ _ _ refl (alike_head z free B B D E g).1 (ap (λ held. sum_state z t held x l y m) (among_held (z ∷ free) held T U d e w h))
        (λ p. later_rest_same l _ _ r _ _ (alike_put x (free_names l.term) B B D E (sum_left (B z)) (sum_left (B z)) p p refl refl (alike_left (without x (free_names l.term)) (without y (free_names m.term)) B B D E j)))
        (λ p. later_rest_same m _ _ r _ _ (alike_put y (free_names m.term) B B D E (sum_right (B z)) (sum_right (B z)) p p refl refl (alike_right (without x (free_names l.term)) (without y (free_names m.term)) B B D E j)))
    state_rest_same (star_state z t held l y ys m) T U r d e w h =
        let B = types_held held in
        let D = with_held held d in
        let E = with_held held e in
        let items = without y (without ys (free_names m.term)) in
        let free = free_names l.term ++ items in
        let g = with_held_alike (z ∷ free) held T U d e h in
        let j = alike_tail z free B B D E g in
        star_rest-same z y ys (B z) (B z) (D z) (E z) _ _ _ _ _ _ refl (alike_head z free B B D E g).1 (ap (λ held. star_state z t held l y ys m) (among_held (z ∷ free) held T U d e w h))
        (later_rest_same l B B r D E (alike_left (free_names l.term) items B B D E j))
        (λ p q. later_rest_same m _ _ r _ _ (alike_put ys (free_names m.term) (put y (star_item (B z)) B) (put y (star_item (B z)) B) (put y p D) (put y p E) (star_items (B z)) (star_items (B z)) q q refl refl
        (alike_put y (without ys (free_names m.term)) B B D E (star_item (B z)) (star_item (B z)) p p refl refl (alike_right (free_names l.term) items B B D E j))))
    state_rest_same (wait_state x t held l) T U r d e w h =
        let B = types_held held in
        let D = with_held held d in
        let E = with_held held e in
        let free = free_names l.term in
        let g = with_held_alike (x ∷ free) held T U d e h in
        let i = alike_head x free B B D E g in
        chosen_same _ _ _ _ _ _ (ap is_maximal i.1)
        (ap (λ p. rest_later funs (knowing x (B x) (value_of p) l) B r D) i.1 ∙ later_rest_same (knowing x (B x) (value_of (E x)) l) B B r D E (alike_tail x free B B D E g))
        (ap (λ held. wait_state x t held l) (among_held (x ∷ free) held T U d e w h))
    state_rest_same (frame_state args s) T U r d e w h =
        ap₂ frame_state (arguments_rest_same args T U d e w h)
        (ap (λ (u : Runs). rest_of funs s (types_of_arguments args) r (value_at eps_emp (argument_names args) u.outs)) (arguments_same funs args T U d e h))

    pub arguments_rest_same : (args : ArgumentTrees) (T U : NameTypes) (d e : Environment) → HoldFree args → Alike (free_in_arguments args) T U d e → rest_of_arguments funs args T d ≡ rest_of_arguments funs args U e
    arguments_rest_same no_arguments T U d e w h = refl
    arguments_rest_same (argument_before x t s args) T U d e w h =
        let i = alike_left (free_in_state s) (free_in_arguments args) T U d e h in
        ap₂ (λ (u : Run) c. argument_before x (der u.out t) c (rest_of_arguments funs args T d)) (state_same funs s T U t d e i) (state_rest_same s T U t d e w.0 i)
        ∙ ap (argument_before x (der (run_state funs s U t e).out t) (rest_of funs s U t e)) (arguments_rest_same args T U d e w.1 (alike_right (free_in_state s) (free_in_arguments args) T U d e h))
