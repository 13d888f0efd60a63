-- Arguments of which each that is moved is passed on once.
use Rattle.std.proofs.Common.{◌≡◌, ◌∙◌, ℕ, Bool, true, false, not, ◌&&◌, ◌||◌, List, [], ◌∷◌, eqb, if◌then◌else◌, ap, ap₂, refl, sym}
use Rattle.std.proofs.lemmas.Bool.{eqb-true, or_right}
use Rattle.stream_type.specs.StreamType.{StreamType}
use Rattle.bunch.specs.Names.{holds}
use Rattle.bunch.proofs.Tests.{and_first, and_second}
use Rattle.core_term.specs.FreeNames.{without}
use Rattle.core_term.proofs.Sides.{holds-head}
use Rattle.core_term.proofs.Without.{holds-tail}
use Rattle.delta_state.specs.StateTree.{StateTree, ArgumentTrees, no_arguments, argument_before, argument_at, sink, var_state, par_state, cat_state, let_state, let_par_state, let_cat_state, sum_state, star_state, wait_state, frame_state}
use Rattle.state_rewriting.specs.Rewriting.{is_plain, are_plain, at_most_once, stand_once, names_passed, passed_on, composed}
use Rattle.template_state.specs.Passing.{passes_once, IsTakenFrom, ServesAfter}
use Rattle.template_state.proofs.NamesInLists.{holds-less}

-- the first argument stands once
first_once : (x : ℕ) (t : StreamType) (s : StateTree) (args : ArgumentTrees) (us : List ℕ) → passes_once (argument_before x t s args) us ≡ true → (is_plain s || at_most_once x us) ≡ true
first_once x t s args [] p = or_right (is_plain s) true refl
first_once x t s args (u ∷ us) p =
    go (eqb u x) refl (and_first _ (passes_once (argument_before x t s args) us) p) (first_once x t s args us (and_second _ (passes_once (argument_before x t s args) us) p))
  where
    go : (b : Bool) → eqb u x ≡ b → (is_plain (if b then s else argument_at args u) || not (holds u us)) ≡ true → (is_plain s || at_most_once x us) ≡ true → (is_plain s || (if b then not (holds x us) else at_most_once x us)) ≡ true
    go true e h k = ap (λ w. is_plain s || not (holds w us)) (sym (eqb-true u x e)) ∙ h
    go false e h k = k

-- and the others, of the names that it hides nothing of
later_once : (x : ℕ) (t : StreamType) (s : StateTree) (args : ArgumentTrees) (us : List ℕ) → passes_once (argument_before x t s args) us ≡ true → passes_once args (without x us) ≡ true
later_once x t s args [] p = refl
later_once x t s args (u ∷ us) p =
    go (eqb u x) refl (and_first _ (passes_once (argument_before x t s args) us) p) (later_once x t s args us (and_second _ (passes_once (argument_before x t s args) us) p))
  where
    go : (b : Bool) → eqb u x ≡ b → (is_plain (if b then s else argument_at args u) || not (holds u us)) ≡ true → passes_once args (without x us) ≡ true → passes_once args (if b then without x us else u ∷ without x us) ≡ true
    go true e h k = k
    go false e h k = ap₂ ◌&&◌ (ap (λ b. is_plain (argument_at args u) || not b) (holds-less u x us ∙ ap (λ b. not b && holds u us) e) ∙ h) k

-- what is passed on once in this sense is so in that of the rewriting
pub stands_once : (args : ArgumentTrees) (us : List ℕ) → passes_once args us ≡ true → stand_once args us ≡ true
stands_once no_arguments us p = refl
stands_once (argument_before x t s args) us p = ap₂ ◌&&◌ (first_once x t s args us p) (stands_once args (without x us) (later_once x t s args us p))

-- other arguments that are the same at some names
abbrev pub SameAt : ArgumentTrees → ArgumentTrees → List ℕ → Type 0
SameAt others args us = (x : ℕ) → holds x us ≡ true → argument_at others x ≡ argument_at args x

same_later : (others args : ArgumentTrees) (u : ℕ) (us : List ℕ) → SameAt others args (u ∷ us) → SameAt others args us
same_later others args u us h x m = h x (holds-tail x u us m)

-- pass them on once where those did,
same_once : (others args : ArgumentTrees) (us : List ℕ) → SameAt others args us → passes_once args us ≡ true → passes_once others us ≡ true
same_once others args [] h p = refl
same_once others args (u ∷ us) h p =
    ap₂ ◌&&◌ (ap (λ s. is_plain s || not (holds u us)) (h u (holds-head u us)) ∙ and_first _ (passes_once args us) p) (same_once others args us (same_later others args u us h) (and_second _ (passes_once args us) p))

-- and what is passed on is the same
same_composed : (others args inner : ArgumentTrees) → SameAt others args (names_passed inner) → composed others inner ≡ composed args inner
same_composed others args no_arguments h = refl
same_composed others args (argument_before x t (var_state u) inner) h =
    ap₂ (λ s rest. argument_before x t s rest) (h u (holds-head u (names_passed inner))) (same_composed others args inner (same_later others args u (names_passed inner) h))
same_composed others args (argument_before x t (sink r) inner) h = ap (argument_before x t (sink r)) (same_composed others args inner h)
same_composed others args (argument_before x t (par_state a b) inner) h = ap (argument_before x t (par_state a b)) (same_composed others args inner h)
same_composed others args (argument_before x t (cat_state a l) inner) h = ap (argument_before x t (cat_state a l)) (same_composed others args inner h)
same_composed others args (argument_before x t (let_state y s a b) inner) h = ap (argument_before x t (let_state y s a b)) (same_composed others args inner h)
same_composed others args (argument_before x t (let_par_state u v w a) inner) h = ap (argument_before x t (let_par_state u v w a)) (same_composed others args inner h)
same_composed others args (argument_before x t (let_cat_state u v w a) inner) h = ap (argument_before x t (let_cat_state u v w a)) (same_composed others args inner h)
same_composed others args (argument_before x t (sum_state z s held u l v m) inner) h = ap (argument_before x t (sum_state z s held u l v m)) (same_composed others args inner h)
same_composed others args (argument_before x t (star_state z s held l v vs m) inner) h = ap (argument_before x t (star_state z s held l v vs m)) (same_composed others args inner h)
same_composed others args (argument_before x t (wait_state z s held l) inner) h = ap (argument_before x t (wait_state z s held l)) (same_composed others args inner h)
same_composed others args (argument_before x t (frame_state as' a) inner) h = ap (argument_before x t (frame_state as' a)) (same_composed others args inner h)

-- what was taken from some arguments leaves the others as they were, for all that is passed on later
taken_same : (args others : ArgumentTrees) (u : ℕ) (us : List ℕ) → IsTakenFrom args u others → (is_plain (argument_at args u) || not (holds u us)) ≡ true → SameAt others args us
taken_same args others u us k p x m = k x (go (eqb x u) refl)
  where
    go : (b : Bool) → eqb x u ≡ b → (is_plain (argument_at args u) || not b) ≡ true
    go false e = or_right (is_plain (argument_at args u)) true refl
    go true e = sym (ap (λ b. is_plain (argument_at args u) || not b) (sym (ap (λ w. holds w us) (eqb-true x u e)) ∙ m)) ∙ p

-- so they serve for what is passed on after it
pub taken_serves : (args others : ArgumentTrees) (u : ℕ) → IsTakenFrom args u others → ServesAfter args (var_state u) others
taken_serves args others u k x t inner p =
    let same : SameAt others args (names_passed inner) = taken_same args others u (names_passed inner) k (and_first _ (passes_once args (names_passed inner)) p) in
    (same_once others args (names_passed inner) same (and_second _ (passes_once args (names_passed inner)) p), same_composed others args inner same)

-- what serves, of the arguments of a call inside,
pub serves_once : (args others : ArgumentTrees) (s : StateTree) (x : ℕ) (t : StreamType) (inner : ArgumentTrees) → ServesAfter args s others → passes_once args (names_passed (argument_before x t s inner)) ≡ true → passes_once others (names_passed inner) ≡ true
serves_once args others s x t inner h p = (h x t inner p).0

-- which are composed one by one
pub composed_before : (args others : ArgumentTrees) (s : StateTree) (x : ℕ) (t : StreamType) (inner : ArgumentTrees) (passed : StateTree) (rest : ArgumentTrees) → passed ≡ passed_on args s → ServesAfter args s others → passes_once args (names_passed (argument_before x t s inner)) ≡ true
    → rest ≡ composed others inner → argument_before x t passed rest ≡ composed args (argument_before x t s inner)
composed_before args others s x t inner passed rest e h p f = ap₂ (λ a as'. argument_before x t a as') e (f ∙ (h x t inner p).1)

pub others_plain : (s : StateTree) (args : ArgumentTrees) → (is_plain s && are_plain args) ≡ true → are_plain args ≡ true
others_plain s args h = and_second (is_plain s) (are_plain args) h
