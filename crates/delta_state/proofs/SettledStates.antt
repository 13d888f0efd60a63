-- A settled typed state gives nothing where nothing comes on its free names, and makes no call.
use Rattle.std.proofs.Common.{◌≡◌, ◌∙◌, ℕ, Bool, true, false, true≢false, not, ◌||◌, List, [], ◌∷◌, ◌++◌, ap, ap₂, refl, sym, subst, arith, eqb, if◌then◌else◌}
use Rattle.std.proofs.lemmas.Bool.{not-true}
use Rattle.stream_type.specs.StreamType.{StreamType, cat, par, sum, star, null_of}
use Rattle.stream_prefix.specs.StreamPrefix.{StreamPrefix, eps_emp, par_both, cat_fst, sum_emp, in_left, in_right, star_emp, star_done, star_first, star_rest, emp, is_maximal, IsPrefix}
use Rattle.bunch.specs.Names.{put, value_at}
use Rattle.bunch.specs.Facts.{place_like, place_let}
use Rattle.bunch.proofs.Tests.{and_first, and_second}
use Rattle.hist_value.specs.Wholes.{value_of}
use Rattle.core_term.specs.CoreTerm.{CoreBody, fun_at}
use Rattle.core_term.specs.FreeNames.{free_names, without}
use Rattle.core_term.specs.Environment.{Environment, NameTypes}
use Rattle.core_term.specs.Parts.{par_left, par_right, cat_first, cat_second, sum_left, sum_right, star_item, star_items, left_part, right_part, first_part, second_part}
use Rattle.core_term.specs.Run.{Run, Runs, deeper, let_run, sum_run, star_run, wait_run, frame_run}
use Rattle.core_term.specs.Typing.{Context}
use Rattle.core_term.proofs.Sides.{holds-head, holds-left, holds-right}
use Rattle.core_term.proofs.Without.{holds-tail}
use Rattle.core_term.proofs.TypedTerms.{PastTypes, Extends, type_in, extends_name}
use Rattle.core_term.proofs.InertRuns.{EmptyOn, empty_put, cat_run-nothing}
use Rattle.core_term.proofs.TypedRuns.{extends_own}
use Rattle.delta_state.specs.StateTree.{StateTree, ArgumentTrees, sink, var_state, par_state, cat_state, let_state, let_par_state, let_cat_state, sum_state, star_state, wait_state, frame_state, no_arguments, argument_before, is_var_state, argument_names, free_in_state, free_in_arguments, free_in_sum, free_in_star, free_in_wait}
use Rattle.delta_state.specs.StateMeaning.{types_held, prefixes_held, with_held, types_of_arguments, knowing, run_later, run_state, run_arguments}
use Rattle.delta_state.specs.StateTyping.{HasStateType, HaveArgumentTypes, context_of_arguments, no_pasts}
use Rattle.delta_state.specs.Settled.{has_tag, is_settled, are_settled}
use Rattle.delta_state.proofs.HeldNames.{mark_is, held_prefix, nothing_more, arguments_extend}
use Rattle.delta_state.specs.Laws.{GivesNothing, SettledGivesNothing}

-- what is empty on names is so on fewer of them
pub left_of : (xs ys : List ℕ) (T : NameTypes) (d : Environment) → EmptyOn (xs ++ ys) T d → EmptyOn xs T d
left_of xs ys T d h = record { at = λ x m. h.at x (holds-left x xs ys m) }

pub right_of : (xs ys : List ℕ) (T : NameTypes) (d : Environment) → EmptyOn (xs ++ ys) T d → EmptyOn ys T d
right_of xs ys T d h = record { at = λ x m. h.at x (holds-right x xs ys m) }

pub tail_of : (z : ℕ) (xs : List ℕ) (T : NameTypes) (d : Environment) → EmptyOn (z ∷ xs) T d → EmptyOn xs T d
tail_of z xs T d h = record { at = λ x m. h.at x (holds-tail x z xs m) }

-- a prefix of a sum without a side, and one of a star without a mark
pub sum_untagged : (s t : StreamType) (p : StreamPrefix) → IsPrefix (sum s t) p → has_tag p ≡ false → p ≡ sum_emp
sum_untagged s t sum_emp h n = refl
sum_untagged s t (in_left p) h n = absurd (true≢false n)
sum_untagged s t (in_right p) h n = absurd (true≢false n)
sum_untagged s t _ h n = absurd h

pub star_untagged : (s : StreamType) (p : StreamPrefix) → IsPrefix (star s) p → has_tag p ≡ false → p ≡ star_emp
star_untagged s star_emp h n = refl
star_untagged s star_done h n = absurd (true≢false n)
star_untagged s (star_first p) h n = absurd (true≢false n)
star_untagged s (star_rest p q) h n = absurd (true≢false n)
star_untagged s _ h n = absurd h

-- what arguments give: nothing of any
pub record GiveNothing (args : ArgumentTrees) (a : Runs) : Type 0 where
  pub outs : (x : ℕ) → value_at eps_emp (argument_names args) a.outs x ≡ emp (types_of_arguments args x)
  pub calls : a.calls ≡ 0
  pub level : a.level ≡ 0

deeper_none : (still : Bool) (level : ℕ) → level ≡ 0 → deeper still level ≡ 0
deeper_none true level e = e
deeper_none false level e = omega (arith, e)

let_nothing : (is_name : Bool) {s r : StreamType} {a b : Run} → GivesNothing s a → GivesNothing r b → GivesNothing r (let_run is_name a b)
let_nothing is_name {a = a} {b = b} x y =
    let first = deeper_none false a.level x.level in
    let second = deeper_none (is_name || is_maximal a.out) b.level y.level in
    record { out = y.out; calls = omega (arith, x.calls, y.calls); level = omega (arith, first, second) }

frame_nothing : {args : ArgumentTrees} {r : StreamType} {a : Runs} {b : Run} → GiveNothing args a → GivesNothing r b → GivesNothing r (frame_run a b)
frame_nothing {a = a} {b = b} x y =
    let first = deeper_none false a.level x.level in
    let second = deeper_none a.are_shut b.level y.level in
    record { out = y.out; calls = omega (arith, x.calls, y.calls); level = omega (arith, first, second) }

module _ (funs : List CoreBody) (counts : ℕ → Bool) where
  mutual
    -- a settled typed state gives nothing, over types T and H of all names that its context has
    pub settled_nothing : (s : StateTree) (c : Context) (T : NameTypes) (H : PastTypes) (r : StreamType) → Extends c T H → HasStateType funs counts c s r → is_settled s r ≡ true → (d : Environment) → EmptyOn (free_in_state s) T d
        → GivesNothing r (run_state (fun_at funs) s T r d)
    settled_nothing (sink t) c T H r e k i d h = record { out = ap emp k.0; calls = refl; level = refl }
    settled_nothing (var_state x) c T H r e k i d h = record { out = h.at x (holds-head x []) ∙ ap emp (e.stream x r k); calls = refl; level = refl }
    settled_nothing (par_state a b) c T H (par s t) e k i d h =
        let x = settled_nothing a c T H s e k.0 (and_first (is_settled a s) (is_settled b t) i) d (left_of (free_in_state a) (free_in_state b) T d h) in
        let y = settled_nothing b c T H t e k.1 (and_second (is_settled a s) (is_settled b t) i) d (right_of (free_in_state a) (free_in_state b) T d h) in
        record { out = ap₂ par_both x.out y.out; calls = omega (arith, x.calls, y.calls); level = omega (arith, x.level, y.level) }
    settled_nothing (par_state a b) c T H _ e k i d h = absurd k
    settled_nothing (cat_state a l) c T H (cat s t) e k i d h =
        let x = settled_nothing a c T H s e k.0 (and_first (is_settled a s) (not (null_of s)) i) d (left_of (free_in_state a) (free_names l.term) T d h) in
        let first = cat_run-nothing s (run_state (fun_at funs) a T s d) (run_later (fun_at funs) l T t d) x.out (not-true (null_of s) (and_second (is_settled a s) (not (null_of s)) i)) in
        subst (GivesNothing (cat s t)) (sym first) (record { out = ap cat_fst x.out; calls = x.calls; level = x.level })
    settled_nothing (cat_state a l) c T H _ e k i d h = absurd k
    settled_nothing (let_state x s a b) c T H r e k i d h =
        let q = settled_nothing a c T H s e k.0 (and_first (is_settled a s) (is_settled b r) i) d (left_of (free_in_state a) (without x (free_in_state b)) T d h) in
        let_nothing (is_var_state a) q
        (settled_nothing b _ (put x s T) H r (extends_name c T H x s s (place_let x (free_in_state a) true c.order) e refl) k.1 (and_second (is_settled a s) (is_settled b r) i) _
        (empty_put x s (run_state (fun_at funs) a T s d).out T d (free_in_state b) q.out (right_of (free_in_state a) (without x (free_in_state b)) T d h)))
    settled_nothing (let_par_state x y z a) c T H r e k i d h =
        let same = type_in c T H e z _ k.1 in
        let hz : d z ≡ par_both (emp (par_left (T z))) (emp (par_right (T z))) = h.at z (holds-head z _) ∙ ap emp (subst (λ t. T z ≡ par (par_left t) (par_right t)) same (e.stream z _ k.1)) in
        settled_nothing a _ _ H r
        (extends_name _ _ H y _ _ (place_like y z (place_like x z c.order)) (extends_name c T H x _ _ (place_like x z c.order) e (ap par_left same)) (ap par_right same)) k.2 i _
        (empty_put y _ (right_part (d z)) (put x (par_left (T z)) T) (put x (left_part (d z)) d) (free_in_state a) (ap right_part hz)
        (empty_put x _ (left_part (d z)) T d (without y (free_in_state a)) (ap left_part hz) (tail_of z _ T d h)))
    settled_nothing (let_cat_state x y z a) c T H r e k i d h =
        let same = type_in c T H e z _ k.1 in
        let hz : d z ≡ cat_fst (emp (cat_first (T z))) = h.at z (holds-head z _) ∙ ap emp (subst (λ t. T z ≡ cat (cat_first t) (cat_second t)) same (e.stream z _ k.1)) in
        let both = extends_name _ _ H y _ _ (place_like y z (place_like x z c.order)) (extends_name c T H x _ _ (place_like x z c.order) e (ap cat_first same)) (ap cat_second same) in
        settled_nothing a _ _ H r (record { stream = both.stream; historical = both.historical }) k.2 i _
        (empty_put y _ (second_part (cat_second (T z)) (d z)) (put x (cat_first (T z)) T) (put x (first_part (d z)) d) (free_in_state a) (ap (second_part (cat_second (T z))) hz)
        (empty_put x _ (first_part (d z)) T d (without y (free_in_state a)) (ap first_part hz) (tail_of z _ T d h)))
    settled_nothing (sum_state z t held x l y m) c T H r e k i d h =
        let first = holds-head z _ in
        let typed = mark_is held z _ k.2.subject_typed in
        let prefix = held_prefix c T H e (free_in_sum z x l y m) held k.1 z first in
        let none = sum_untagged _ _ (prefixes_held held z) (subst (λ s. IsPrefix s (prefixes_held held z)) typed prefix) (not-true (has_tag (prefixes_held held z)) i) in
        let now : with_held held d z ≡ sum_emp = nothing_more c T H e (free_in_sum z x l y m) held k.1 z first d (h.at z first) ∙ none in
        subst
        (λ p. GivesNothing r
        (sum_run r p (λ q. run_later (fun_at funs) l (put x (sum_left (types_held held z)) (types_held held)) r (put x q (with_held held d)))
        (λ q. run_later (fun_at funs) m (put y (sum_right (types_held held z)) (types_held held)) r (put y q (with_held held d)))))
        (sym now) (record { out = refl; calls = refl; level = refl })
    settled_nothing (star_state z t held l y ys m) c T H r e k i d h =
        let first = holds-head z _ in
        let typed = mark_is held z _ k.2.subject_typed in
        let prefix = held_prefix c T H e (free_in_star z l y ys m) held k.1 z first in
        let none = star_untagged _ (prefixes_held held z) (subst (λ s. IsPrefix s (prefixes_held held z)) typed prefix) (not-true (has_tag (prefixes_held held z)) i) in
        let now : with_held held d z ≡ star_emp = nothing_more c T H e (free_in_star z l y ys m) held k.1 z first d (h.at z first) ∙ none in
        subst
        (λ p. GivesNothing r
        (star_run r p (run_later (fun_at funs) l (types_held held) r (with_held held d))
        (λ q w. run_later (fun_at funs) m (put ys (star_items (types_held held z)) (put y (star_item (types_held held z)) (types_held held))) r (put ys w (put y q (with_held held d))))))
        (sym now) (record { out = refl; calls = refl; level = refl })
    settled_nothing (wait_state x t held l) c T H r e k i d h =
        let first = holds-head x _ in
        let now = nothing_more c T H e (free_in_wait x l) held k.1 x first d (h.at x first) in
        subst
        (λ b. GivesNothing r (wait_run r b (run_later (fun_at funs) (knowing x (types_held held x) (value_of (with_held held d x)) l) (types_held held) r (with_held held d))))
        (sym (ap is_maximal now ∙ not-true (is_maximal (prefixes_held held x)) i)) (record { out = refl; calls = refl; level = refl })
    settled_nothing (frame_state args s) c T H r e k i d h =
        let q = settled_nothings args c T H e k.0 (and_first (are_settled args) (is_settled s r) i) d h in
        frame_nothing q
        (settled_nothing s (context_of_arguments c args) (types_of_arguments args) no_pasts r (arguments_extend c args) k.1 (and_second (are_settled args) (is_settled s r) i) _
        (record { at = λ x m. q.outs x }))

    -- so do the arguments of a frame
    pub settled_nothings : (args : ArgumentTrees) (c : Context) (T : NameTypes) (H : PastTypes) → Extends c T H → HaveArgumentTypes funs counts c args → are_settled args ≡ true → (d : Environment) → EmptyOn (free_in_arguments args) T d
        → GiveNothing args (run_arguments (fun_at funs) args T d)
    settled_nothings no_arguments c T H e k i d h = record { outs = λ x. refl; calls = refl; level = refl }
    settled_nothings (argument_before u t s args) c T H e k i d h =
        let x = settled_nothing s c T H t e k.0 (and_first (is_settled s t) (are_settled args) i) d (left_of (free_in_state s) (free_in_arguments args) T d h) in
        let y = settled_nothings args c T H e k.1 (and_second (is_settled s t) (are_settled args) i) d (right_of (free_in_state s) (free_in_arguments args) T d h) in
        record { outs = λ z. by_name z (eqb z u) x.out (y.outs z); calls = omega (arith, x.calls, y.calls); level = omega (arith, x.level, y.level) }
      where
        by_name : (z : ℕ) (b : Bool) → (run_state (fun_at funs) s T t d).out ≡ emp t → value_at eps_emp (argument_names args) (run_arguments (fun_at funs) args T d).outs z ≡ emp (types_of_arguments args z)
            → (if b then (run_state (fun_at funs) s T t d).out else value_at eps_emp (argument_names args) (run_arguments (fun_at funs) args T d).outs z) ≡ emp (if b then t else types_of_arguments args z)
        by_name z true first rest = first
        by_name z false first rest = rest

pub settled_gives_nothing : SettledGivesNothing
settled_gives_nothing funs counts c s r env typed settled nothing =
    settled_nothing funs counts s c _ c.past r (extends_own c) typed settled env (record { at = nothing })
