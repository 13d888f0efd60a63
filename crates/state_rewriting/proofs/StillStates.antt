-- A settled typed state stays as it is where nothing comes on its free names: a machine needn't touch it.
use Rattle.std.proofs.Common.{◌≡◌, ◌∙◌, ℕ, Bool, true, false, not, List, [], ◌∷◌, if◌then◌else◌, ap, ap₂, refl, subst, sym}
use Rattle.std.specs.Prelude.{Some}
use Rattle.std.specs.List.{All}
use Rattle.std.proofs.lemmas.List.Elements.{All-head, All-tail}
use Rattle.std.proofs.lemmas.Bool.{not-true}
use Rattle.stream_type.specs.StreamType.{StreamType, cat, par, null_of}
use Rattle.stream_prefix.specs.StreamPrefix.{par_both, cat_fst, sum_emp, star_emp, emp, is_maximal, der, join, IsPrefix}
use Rattle.stream_prefix.proofs.Derivations.{derives}
use Rattle.stream_prefix.proofs.Joins.{join-emp-der, der-emp, is_maximal-emp}
use Rattle.bunch.specs.Names.{put, holds}
use Rattle.bunch.specs.Facts.{place_let, place_like}
use Rattle.bunch.proofs.Tests.{and_first, and_second}
use Rattle.hist_value.specs.Wholes.{value_of}
use Rattle.core_term.specs.CoreTerm.{CoreBody, fun_at}
use Rattle.core_term.specs.FreeNames.{free_names, without}
use Rattle.core_term.specs.Environment.{Environment, NameTypes}
use Rattle.core_term.specs.Parts.{par_left, par_right, cat_first, cat_second, sum_left, sum_right, star_item, star_items, left_part, right_part, first_part, second_part}
use Rattle.core_term.specs.Typing.{Context}
use Rattle.core_term.proofs.Sides.{holds-head}
use Rattle.core_term.proofs.Without.{holds-tail}
use Rattle.core_term.proofs.TypedTerms.{PastTypes, Extends, type_in, extends_name}
use Rattle.core_term.proofs.TypedRuns.{extends_own}
use Rattle.core_term.proofs.InertRuns.{EmptyOn, empty_put}
use Rattle.delta_state.specs.StateTree.{HeldName, StateTree, ArgumentTrees, sink, var_state, par_state, cat_state, let_state, let_par_state, let_cat_state, sum_state, star_state, wait_state, frame_state, no_arguments, argument_before, held_names, free_in_state, free_in_arguments, free_in_sum, free_in_star, free_in_wait}
use Rattle.delta_state.specs.StateMeaning.{types_held, prefixes_held, with_held, types_of_arguments, knowing, run_state}
use Rattle.delta_state.specs.StateTyping.{HasStateType, HaveArgumentTypes, IsHeld, context_of_arguments, no_pasts}
use Rattle.delta_state.specs.Settled.{has_tag, is_settled, are_settled}
use Rattle.delta_state.specs.Rest.{held_more, cut_state, sum_rest, star_rest_state, rest_of, rest_of_arguments, rest_later}
use Rattle.delta_state.proofs.HeldNames.{mark_is, held_prefix, nothing_more, arguments_extend}
use Rattle.delta_state.proofs.SettledStates.{left_of, right_of, tail_of, sum_untagged, star_untagged, settled_nothing, settled_nothings}
use Rattle.state_rewriting.specs.Laws.{StateStays}

-- nothing comes on the held names, so each of them holds what it held
held_stays : (c : Context) (T : NameTypes) (H : PastTypes) → Extends c T H → (d : Environment) (held : List HeldName) → All (λ h. IsPrefix h.type h.prefix) held → All (λ h. c.types h.name ≡ Some (der h.prefix h.type)) held
    → ((x : ℕ) → holds x (held_names held) ≡ true → d x ≡ emp (T x)) → held_more held d ≡ held
held_stays c T H e d [] p l f = refl
held_stays c T H e d (h ∷ held) p l f =
    ap₂ ◌∷◌
    (ap (λ q. record { name = h.name; type = h.type; prefix = q })
    (ap (join h.prefix) (f h.name (holds-head h.name (held_names held)) ∙ ap emp (e.stream h.name _ (All-head (λ h. c.types h.name ≡ Some (der h.prefix h.type)) h held l)))
    ∙ join-emp-der (derives h.type h.prefix (All-head (λ h. IsPrefix h.type h.prefix) h held p))))
    (held_stays c T H e d held (All-tail (λ h. IsPrefix h.type h.prefix) h held p) (All-tail (λ h. c.types h.name ≡ Some (der h.prefix h.type)) h held l) (λ x m. f x (holds-tail x h.name (held_names held) m)))

-- so does a form with these free names
form_stays : (c : Context) (T : NameTypes) (H : PastTypes) → Extends c T H → (free : List ℕ) (held : List HeldName) (d : Environment) → IsHeld c free held → EmptyOn free T d → held_more held d ≡ held
form_stays c T H e free held d h n = held_stays c T H e d held h.are_prefixes h.are_left (λ x m. n.at x (sym (h.are_free x) ∙ m))

module _ (funs : List CoreBody) (counts : ℕ → Bool) where
  mutual
    -- a settled typed state stays, over types T and H of all names that its context has
    pub stays : (s : StateTree) (c : Context) (T : NameTypes) (H : PastTypes) (r : StreamType) → Extends c T H → HasStateType funs counts c s r → is_settled s r ≡ true → (d : Environment) → EmptyOn (free_in_state s) T d → rest_of (fun_at funs) s T r d ≡ s
    stays (sink t) c T H r e k i d h = refl
    stays (var_state x) c T H r e k i d h = refl
    stays (par_state a b) c T H (par s t) e k i d h =
        ap₂ par_state (stays a c T H s e k.0 (and_first (is_settled a s) (is_settled b t) i) d (left_of (free_in_state a) (free_in_state b) T d h))
        (stays b c T H t e k.1 (and_second (is_settled a s) (is_settled b t) i) d (right_of (free_in_state a) (free_in_state b) T d h))
    stays (par_state a b) c T H _ e k i d h = absurd k
    stays (cat_state a l) c T H (cat s t) e k i d h =
        let j = and_first (is_settled a s) (not (null_of s)) i in
        let ha = left_of (free_in_state a) (free_names l.term) T d h in
        let nothing = (settled_nothing funs counts a c T H s e k.0 j d ha).out in
        let goes_on : is_maximal (run_state (fun_at funs) a T s d).out ≡ false = ap is_maximal nothing ∙ (is_maximal-emp s ∙ not-true (null_of s) (and_second (is_settled a s) (not (null_of s)) i)) in
        ap (λ b. if b then rest_later (fun_at funs) l T t d else cat_state (rest_of (fun_at funs) a T s d) l) goes_on ∙ ap (λ u. cat_state u l) (stays a c T H s e k.0 j d ha)
    stays (cat_state a l) c T H _ e k i d h = absurd k
    stays (let_state x s a b) c T H r e k i d h =
        let j = and_first (is_settled a s) (is_settled b r) i in
        let ha = left_of (free_in_state a) (without x (free_in_state b)) T d h in
        let nothing = (settled_nothing funs counts a c T H s e k.0 j d ha).out in
        let p = (run_state (fun_at funs) a T s d).out in
        ap (λ u. let_state x u (rest_of (fun_at funs) a T s d) (rest_of (fun_at funs) b (put x s T) r (put x p d))) (ap (λ u. der u s) nothing ∙ der-emp s)
        ∙ ap₂ (let_state x s) (stays a c T H s e k.0 j d ha)
        (stays b _ (put x s T) H r (extends_name c T H x s s (place_let x (free_in_state a) true c.order) e refl) k.1 (and_second (is_settled a s) (is_settled b r) i) (put x p d)
        (empty_put x s p T d (free_in_state b) nothing (right_of (free_in_state a) (without x (free_in_state b)) T d h)))
    stays (let_par_state x y z a) c T H r e k i d h =
        let same = type_in c T H e z _ k.1 in
        let hz : d z ≡ par_both (emp (par_left (T z))) (emp (par_right (T z))) = h.at z (holds-head z _) ∙ ap emp (subst (λ t. T z ≡ par (par_left t) (par_right t)) same (e.stream z _ k.1)) in
        ap (let_par_state x y z)
        (stays a _ _ H r
        (extends_name _ _ H y _ _ (place_like y z (place_like x z c.order)) (extends_name c T H x _ _ (place_like x z c.order) e (ap par_left same)) (ap par_right same)) k.2 i _
        (empty_put y _ (right_part (d z)) (put x (par_left (T z)) T) (put x (left_part (d z)) d) (free_in_state a) (ap right_part hz)
        (empty_put x _ (left_part (d z)) T d (without y (free_in_state a)) (ap left_part hz) (tail_of z _ T d h))))
    stays (let_cat_state x y z a) c T H r e k i d h =
        let same = type_in c T H e z _ k.1 in
        let s = cat_first (T z) in
        let t = cat_second (T z) in
        let hz : d z ≡ cat_fst (emp (cat_first (T z))) = h.at z (holds-head z _) ∙ ap emp (subst (λ t. T z ≡ cat (cat_first t) (cat_second t)) same (e.stream z _ k.1)) in
        let both = extends_name _ _ H y _ _ (place_like y z (place_like x z c.order)) (extends_name c T H x _ _ (place_like x z c.order) e (ap cat_first same)) (ap cat_second same) in
        ap (λ p. cut_state x y z (T z) p (rest_of (fun_at funs) a (put y t (put x s T)) r (put y (second_part t (d z)) (put x (first_part (d z)) d)))) hz
        ∙ ap (let_cat_state x y z)
        (stays a _ _ H r (record { stream = both.stream; historical = both.historical }) k.2 i _
        (empty_put y _ (second_part (cat_second (T z)) (d z)) (put x (cat_first (T z)) T) (put x (first_part (d z)) d) (free_in_state a) (ap (second_part (cat_second (T z))) hz)
        (empty_put x _ (first_part (d z)) T d (without y (free_in_state a)) (ap first_part hz) (tail_of z _ T d h))))
    stays (sum_state z t held x l y m) c T H r e k i d h =
        let first = holds-head z _ in
        let typed = mark_is held z _ k.2.subject_typed in
        let prefix = held_prefix c T H e (free_in_sum z x l y m) held k.1 z first in
        let none = sum_untagged _ _ (prefixes_held held z) (subst (λ s. IsPrefix s (prefixes_held held z)) typed prefix) (not-true (has_tag (prefixes_held held z)) i) in
        let now : with_held held d z ≡ sum_emp = nothing_more c T H e (free_in_sum z x l y m) held k.1 z first d (h.at z first) ∙ none in
        ap (λ p. sum_rest z x y (types_held held z) p (sum_state z t (held_more held d) x l y m) (λ q. rest_later (fun_at funs) l (put x (sum_left (types_held held z)) (types_held held)) r (put x q (with_held held d)))
        (λ q. rest_later (fun_at funs) m (put y (sum_right (types_held held z)) (types_held held)) r (put y q (with_held held d)))) now
        ∙ ap (λ hs. sum_state z t hs x l y m) (form_stays c T H e (free_in_sum z x l y m) held d k.1 h)
    stays (star_state z t held l y ys m) c T H r e k i d h =
        let first = holds-head z _ in
        let typed = mark_is held z _ k.2.subject_typed in
        let prefix = held_prefix c T H e (free_in_star z l y ys m) held k.1 z first in
        let none = star_untagged _ (prefixes_held held z) (subst (λ s. IsPrefix s (prefixes_held held z)) typed prefix) (not-true (has_tag (prefixes_held held z)) i) in
        let now : with_held held d z ≡ star_emp = nothing_more c T H e (free_in_star z l y ys m) held k.1 z first d (h.at z first) ∙ none in
        ap (λ p. star_rest_state z y ys (types_held held z) p (star_state z t (held_more held d) l y ys m) (rest_later (fun_at funs) l (types_held held) r (with_held held d))
        (λ q w. rest_later (fun_at funs) m (put ys (star_items (types_held held z)) (put y (star_item (types_held held z)) (types_held held))) r (put ys w (put y q (with_held held d))))) now
        ∙ ap (λ hs. star_state z t hs l y ys m) (form_stays c T H e (free_in_star z l y ys m) held d k.1 h)
    stays (wait_state x t held l) c T H r e k i d h =
        let first = holds-head x _ in
        let now = nothing_more c T H e (free_in_wait x l) held k.1 x first d (h.at x first) in
        ap (λ b. if b then rest_later (fun_at funs) (knowing x (types_held held x) (value_of (with_held held d x)) l) (types_held held) r (with_held held d) else wait_state x t (held_more held d) l)
        (ap is_maximal now ∙ not-true (is_maximal (prefixes_held held x)) i)
        ∙ ap (λ hs. wait_state x t hs l) (form_stays c T H e (free_in_wait x l) held d k.1 h)
    stays (frame_state args s) c T H r e k i d h =
        let j = and_first (are_settled args) (is_settled s r) i in
        let nothing = settled_nothings funs counts args c T H e k.0 j d h in
        ap₂ frame_state (stay_all args c T H e k.0 j d h)
        (stays s (context_of_arguments c args) (types_of_arguments args) no_pasts r (arguments_extend c args) k.1 (and_second (are_settled args) (is_settled s r) i) _ (record { at = λ x m. nothing.outs x }))

    -- so do the arguments of a frame
    stay_all : (args : ArgumentTrees) (c : Context) (T : NameTypes) (H : PastTypes) → Extends c T H → HaveArgumentTypes funs counts c args → are_settled args ≡ true → (d : Environment) → EmptyOn (free_in_arguments args) T d → rest_of_arguments (fun_at funs) args T d ≡ args
    stay_all no_arguments c T H e k i d h = refl
    stay_all (argument_before u t s args) c T H e k i d h =
        let j = and_first (is_settled s t) (are_settled args) i in
        let ha = left_of (free_in_state s) (free_in_arguments args) T d h in
        ap (λ q. argument_before u q (rest_of (fun_at funs) s T t d) (rest_of_arguments (fun_at funs) args T d)) (ap (λ p. der p t) (settled_nothing funs counts s c T H t e k.0 j d ha).out ∙ der-emp t)
        ∙ ap₂ (argument_before u t) (stays s c T H t e k.0 j d ha) (stay_all args c T H e k.1 (and_second (is_settled s t) (are_settled args) i) d (right_of (free_in_state s) (free_in_arguments args) T d h))

pub state_stays : StateStays
state_stays funs counts c s r env typed settled nothing = stays funs counts s c _ c.past r (extends_own c) typed settled env (record { at = nothing })
