-- A settled state whose free names are finished is finished: nothing more comes on either.
use Rattle.std.proofs.Common.{◌≡◌, ◌∙◌, ℕ, Bool, true, false, true≢false, not, ◌&&◌, List, [], ◌∷◌, ◌++◌, ap, ap₂, refl, sym, subst, eqb, if◌then◌else◌}
use Rattle.std.proofs.lemmas.Bool.{not-true}
use Rattle.stream_type.specs.StreamType.{StreamType, cat, par, null_of}
use Rattle.stream_prefix.specs.StreamPrefix.{is_maximal, der, IsPrefix}
use Rattle.stream_prefix.proofs.Derivations.{derives}
use Rattle.stream_prefix.proofs.Joins.{null_of-der}
use Rattle.bunch.specs.Names.{put, holds}
use Rattle.bunch.specs.Facts.{place_like, place_let}
use Rattle.bunch.proofs.Tests.{and_first, and_second}
use Rattle.core_term.specs.CoreTerm.{CoreBody}
use Rattle.core_term.specs.FreeNames.{free_names, without}
use Rattle.core_term.specs.Environment.{NameTypes}
use Rattle.core_term.specs.Parts.{par_left, par_right}
use Rattle.core_term.specs.Typing.{Context}
use Rattle.core_term.proofs.Sides.{holds-head, holds-left, holds-right}
use Rattle.core_term.proofs.Without.{holds-tail, put_on}
use Rattle.core_term.proofs.TypedTerms.{PastTypes, Extends, type_in, extends_name}
use Rattle.core_term.proofs.TypedRuns.{extends_own}
use Rattle.delta_state.specs.StateTree.{StateTree, ArgumentTrees, sink, var_state, par_state, cat_state, let_state, let_par_state, let_cat_state, sum_state, star_state, wait_state, frame_state, no_arguments, argument_before, free_in_state, free_in_arguments, free_in_sum, free_in_star, free_in_wait}
use Rattle.delta_state.specs.StateMeaning.{types_held, prefixes_held, types_of_arguments}
use Rattle.delta_state.specs.StateTyping.{HasStateType, HaveArgumentTypes, context_of_arguments, no_pasts}
use Rattle.delta_state.specs.Settled.{has_tag, is_settled, are_settled}
use Rattle.delta_state.specs.Laws.{SettledIsFinished}
use Rattle.delta_state.proofs.HeldNames.{mark_is, held_prefix, held_left, arguments_extend}
use Rattle.delta_state.proofs.SettledStates.{sum_untagged, star_untagged}

-- nothing more comes on these names
record FinishedOn (xs : List ℕ) (T : NameTypes) : Type 0 where
  pub at : (x : ℕ) → holds x xs ≡ true → null_of (T x) ≡ true

left_of : (xs ys : List ℕ) (T : NameTypes) → FinishedOn (xs ++ ys) T → FinishedOn xs T
left_of xs ys T h = record { at = λ x m. h.at x (holds-left x xs ys m) }

right_of : (xs ys : List ℕ) (T : NameTypes) → FinishedOn (xs ++ ys) T → FinishedOn ys T
right_of xs ys T h = record { at = λ x m. h.at x (holds-right x xs ys m) }

tail_of : (z : ℕ) (xs : List ℕ) (T : NameTypes) → FinishedOn (z ∷ xs) T → FinishedOn xs T
tail_of z xs T h = record { at = λ x m. h.at x (holds-tail x z xs m) }

finished_put : (x : ℕ) (s : StreamType) (T : NameTypes) (xs : List ℕ) → null_of s ≡ true → FinishedOn (without x xs) T → FinishedOn xs (put x s T)
finished_put x s T xs e h = record { at = put_on {A = StreamType} {B = StreamType} (λ t u. null_of t ≡ true) x s s T T xs e h.at }

module _ (funs : List CoreBody) (counts : ℕ → Bool) where
  mutual
    settled_finished : (s : StateTree) (c : Context) (T : NameTypes) (H : PastTypes) (r : StreamType) → Extends c T H → HasStateType funs counts c s r → is_settled s r ≡ true → FinishedOn (free_in_state s) T → null_of r ≡ true
    settled_finished (sink t) c T H r e k i h = sym (ap null_of k.0) ∙ k.1
    settled_finished (var_state x) c T H r e k i h = sym (ap null_of (e.stream x r k)) ∙ h.at x (holds-head x [])
    settled_finished (par_state a b) c T H (par s t) e k i h =
        ap₂ ◌&&◌ (settled_finished a c T H s e k.0 (and_first (is_settled a s) (is_settled b t) i) (left_of (free_in_state a) (free_in_state b) T h))
        (settled_finished b c T H t e k.1 (and_second (is_settled a s) (is_settled b t) i) (right_of (free_in_state a) (free_in_state b) T h))
    settled_finished (par_state a b) c T H _ e k i h = absurd k
    settled_finished (cat_state a l) c T H (cat s t) e k i h =
        let first = settled_finished a c T H s e k.0 (and_first (is_settled a s) (not (null_of s)) i) (left_of (free_in_state a) (free_names l.term) T h) in
        absurd (true≢false (sym first ∙ not-true (null_of s) (and_second (is_settled a s) (not (null_of s)) i)))
    settled_finished (cat_state a l) c T H _ e k i h = absurd k
    settled_finished (let_state x s a b) c T H r e k i h =
        let first = settled_finished a c T H s e k.0 (and_first (is_settled a s) (is_settled b r) i) (left_of (free_in_state a) (without x (free_in_state b)) T h) in
        settled_finished b _ (put x s T) H r (extends_name c T H x s s (place_let x (free_in_state a) true c.order) e refl) k.1 (and_second (is_settled a s) (is_settled b r) i)
        (finished_put x s T (free_in_state b) first (right_of (free_in_state a) (without x (free_in_state b)) T h))
    settled_finished (let_par_state x y z a) c T H r e k i h =
        let same = type_in c T H e z _ k.1 in
        let form : T z ≡ par (par_left (T z)) (par_right (T z)) = subst (λ t. T z ≡ par (par_left t) (par_right t)) same (e.stream z _ k.1) in
        let both : (null_of (par_left (T z)) && null_of (par_right (T z))) ≡ true = sym (ap null_of form) ∙ h.at z (holds-head z _) in
        settled_finished a _ _ H r
        (extends_name _ _ H y _ _ (place_like y z (place_like x z c.order)) (extends_name c T H x _ _ (place_like x z c.order) e (ap par_left same)) (ap par_right same)) k.2 i
        (finished_put y (par_right (T z)) (put x (par_left (T z)) T) (free_in_state a) (and_second (null_of (par_left (T z))) (null_of (par_right (T z))) both)
        (finished_put x (par_left (T z)) T (without y (free_in_state a)) (and_first (null_of (par_left (T z))) (null_of (par_right (T z))) both) (tail_of z _ T h)))
    settled_finished (let_cat_state x y z a) c T H r e k i h = absurd (true≢false (sym (h.at z (holds-head z _)) ∙ ap null_of (e.stream z _ k.1)))
    settled_finished (sum_state z t held x l y m) c T H r e k i h =
        let first = holds-head z _ in
        let typed = mark_is held z _ k.2.subject_typed in
        let prefix = held_prefix c T H e (free_in_sum z x l y m) held k.1 z first in
        let none = sum_untagged _ _ (prefixes_held held z) (subst (λ s. IsPrefix s (prefixes_held held z)) typed prefix) (not-true (has_tag (prefixes_held held z)) i) in
        let left = held_left c T H e (free_in_sum z x l y m) held k.1 z first ∙ ap₂ der none typed in
        absurd (true≢false (sym (h.at z first) ∙ ap null_of left))
    settled_finished (star_state z t held l y ys m) c T H r e k i h =
        let first = holds-head z _ in
        let typed = mark_is held z _ k.2.subject_typed in
        let prefix = held_prefix c T H e (free_in_star z l y ys m) held k.1 z first in
        let none = star_untagged _ (prefixes_held held z) (subst (λ s. IsPrefix s (prefixes_held held z)) typed prefix) (not-true (has_tag (prefixes_held held z)) i) in
        let left = held_left c T H e (free_in_star z l y ys m) held k.1 z first ∙ ap₂ der none typed in
        absurd (true≢false (sym (h.at z first) ∙ ap null_of left))
    settled_finished (wait_state x t held l) c T H r e k i h =
        let first = holds-head x _ in
        let prefix = held_prefix c T H e (free_in_wait x l) held k.1 x first in
        let left = held_left c T H e (free_in_wait x l) held k.1 x first in
        absurd (true≢false (sym (h.at x first) ∙ (ap null_of left ∙ (null_of-der (derives (types_held held x) (prefixes_held held x) prefix) ∙ not-true (is_maximal (prefixes_held held x)) i))))
    settled_finished (frame_state args s) c T H r e k i h =
        let q = settled_arguments_finished args c T H e k.0 (and_first (are_settled args) (is_settled s r) i) h in
        settled_finished s (context_of_arguments c args) (types_of_arguments args) no_pasts r (arguments_extend c args) k.1 (and_second (are_settled args) (is_settled s r) i) (record { at = λ x m. q x })

    settled_arguments_finished : (args : ArgumentTrees) (c : Context) (T : NameTypes) (H : PastTypes) → Extends c T H → HaveArgumentTypes funs counts c args → are_settled args ≡ true → FinishedOn (free_in_arguments args) T
        → (x : ℕ) → null_of (types_of_arguments args x) ≡ true
    settled_arguments_finished no_arguments c T H e k i h x = refl
    settled_arguments_finished (argument_before u t s args) c T H e k i h x =
        by_name (eqb x u) (settled_finished s c T H t e k.0 (and_first (is_settled s t) (are_settled args) i) (left_of (free_in_state s) (free_in_arguments args) T h))
        (settled_arguments_finished args c T H e k.1 (and_second (is_settled s t) (are_settled args) i) (right_of (free_in_state s) (free_in_arguments args) T h) x)
      where
        by_name : (b : Bool) → null_of t ≡ true → null_of (types_of_arguments args x) ≡ true → null_of (if b then t else types_of_arguments args x) ≡ true
        by_name true first rest = first
        by_name false first rest = rest

pub settled_is_finished : SettledIsFinished
settled_is_finished funs counts c s r typed settled finished = settled_finished funs counts s c _ c.past r (extends_own c) typed settled (record { at = finished })
