-- What gives its mark at once never gives a whole first part without the mark behind it.
use Rattle.std.proofs.Common.{◌≡◌, ◌∙◌, ℕ, Bool, true, false, true≢false, ◌&&◌, refl, sym}
use Rattle.stream_type.specs.StreamType.{StreamType, cat, null_of}
use Rattle.stream_prefix.specs.StreamPrefix.{StreamPrefix, cat_fst, in_left, in_right, star_emp, star_done, star_first, star_rest, emp, is_maximal}
use Rattle.stream_prefix.proofs.Joins.{is_maximal-emp}
use Rattle.bunch.specs.Names.{put}
use Rattle.bunch.proofs.Tests.{and_first, and_second}
use Rattle.hist_value.specs.Wholes.{value_of}
use Rattle.core_term.specs.CoreTerm.{CoreTerm, CoreBody, cat_term, let_term, let_par_term, let_cat_term, case_sum_term, case_star_term, wait_term}
use Rattle.core_term.specs.Environment.{Environment, NameTypes}
use Rattle.core_term.specs.Meaning.{Past, Calls, run_with, call_at}
use Rattle.core_term.specs.Parts.{cat_first, sum_left, sum_right, star_item, star_items}
use Rattle.core_term.specs.Run.{Run, cat_run_at, cat_run, sum_run, star_run, wait_run}
use Rattle.delta_state.specs.StateTree.{LaterTree, StateTree, cat_state, let_state, let_par_state, let_cat_state, sum_state, star_state, wait_state, frame_state}
use Rattle.delta_state.specs.StateMeaning.{knowing, types_held, with_held, run_later, run_sum, run_star, run_wait, run_state, past_in}
use Rattle.state_rewriting.specs.MarksAtOnce.{term_marks_at_once, marks_at_once}

-- whether the first part of a sequence is whole, and the mark behind it hasn't come
abbrev pub lacks_mark : StreamPrefix → Bool
lacks_mark (cat_fst p) = is_maximal p
lacks_mark _ = false

-- two parts, one after the other, have the mark as soon as the first is whole
cat_has_mark : (a b : Run) → lacks_mark (cat_run a b).out ≡ false
cat_has_mark a b = go (is_maximal a.out) refl
  where
    go : (c : Bool) → is_maximal a.out ≡ c → lacks_mark (cat_run_at c a b).out ≡ false
    go true m = refl
    go false m = m

module _ (r : StreamType) (n : null_of (cat_first r) ≡ false) where
  -- where something has to come first, nothing lacks no mark,
  none_has_mark : lacks_mark (emp r) ≡ false
  none_has_mark = go r n
    where
      go : (t : StreamType) → null_of (cat_first t) ≡ false → lacks_mark (emp t) ≡ false
      go (cat s t) m = is_maximal-emp s ∙ m
      go _ m = refl

  -- and neither does a case each of whose branches lacks none,
  sum_has_mark : (p : StreamPrefix) (a b : StreamPrefix → Run) → ((q : StreamPrefix) → lacks_mark (a q).out ≡ false) → ((q : StreamPrefix) → lacks_mark (b q).out ≡ false) → lacks_mark (sum_run r p a b).out ≡ false
  sum_has_mark (in_left p) a b f g = f p
  sum_has_mark (in_right p) a b f g = g p
  sum_has_mark _ a b f g = none_has_mark

  star_has_mark : (p : StreamPrefix) (a : Run) (b : StreamPrefix → StreamPrefix → Run) → lacks_mark a.out ≡ false → ((q o : StreamPrefix) → lacks_mark (b q o).out ≡ false) → lacks_mark (star_run r p a b).out ≡ false
  star_has_mark star_done a b f g = f
  star_has_mark (star_first p) a b f g = g p star_emp
  star_has_mark (star_rest p q) a b f g = g p q
  star_has_mark _ a b f g = none_has_mark

  -- nor a wait
  wait_has_mark : (c : Bool) (a : Run) → lacks_mark a.out ≡ false → lacks_mark (wait_run r c a).out ≡ false
  wait_has_mark true a f = f
  wait_has_mark false a f = none_has_mark

  module _ (funs : ℕ → CoreBody) (call : Calls) where
    -- so no term does that gives its mark at once,
    term_has_mark : (e : CoreTerm) → term_marks_at_once e ≡ true → (T : NameTypes) (d : Environment) (v : Past) → lacks_mark (run_with funs call e T r d v).out ≡ false
    term_has_mark (cat_term a b) k T d v = cat_has_mark (run_with funs call a T _ d v) (run_with funs call b T _ d v)
    term_has_mark (let_term x s a b) k T d v = term_has_mark b k _ _ v
    term_has_mark (let_par_term x y z a) k T d v = term_has_mark a k _ _ v
    term_has_mark (let_cat_term x y z a) k T d v = term_has_mark a k _ _ v
    term_has_mark (case_sum_term z t x a y b) k T d v =
        sum_has_mark (d z) _ _ (λ q. term_has_mark a (and_first (term_marks_at_once a) (term_marks_at_once b) k) _ _ v) (λ q. term_has_mark b (and_second (term_marks_at_once a) (term_marks_at_once b) k) _ _ v)
    term_has_mark (case_star_term z t a y ys b) k T d v =
        star_has_mark (d z) _ _ (term_has_mark a (and_first (term_marks_at_once a) (term_marks_at_once b) k) _ _ v) (λ q o. term_has_mark b (and_second (term_marks_at_once a) (term_marks_at_once b) k) _ _ v)
    term_has_mark (wait_term x t a) k T d v = wait_has_mark (is_maximal (d x)) _ (term_has_mark a k _ _ _)
    term_has_mark _ k T d v = absurd (true≢false (sym k))

  module _ (funs : ℕ → CoreBody) where
    -- no code once it is reached,
    later_has_mark : (l : LaterTree) → term_marks_at_once l.term ≡ true → (T : NameTypes) (d : Environment) → lacks_mark (run_later funs l T r d).out ≡ false
    later_has_mark l k T d = term_has_mark funs (call_at funs l.depth) l.term k T d (past_in l.past)

    -- nor a case that waits, on any types and any input,
    cases_have_mark : (z x y : ℕ) (l m : LaterTree) → (term_marks_at_once l.term && term_marks_at_once m.term) ≡ true → (T : NameTypes) (d : Environment) → lacks_mark (run_sum funs z x l y m T r d).out ≡ false
    cases_have_mark z x y l m k T d =
        sum_has_mark (d z) (λ p. run_later funs l (put x (sum_left (T z)) T) r (put x p d)) (λ p. run_later funs m (put y (sum_right (T z)) T) r (put y p d))
        (λ q. later_has_mark l (and_first (term_marks_at_once l.term) (term_marks_at_once m.term) k) _ _) (λ q. later_has_mark m (and_second (term_marks_at_once l.term) (term_marks_at_once m.term) k) _ _)

    items_have_mark : (z y ys : ℕ) (l m : LaterTree) → (term_marks_at_once l.term && term_marks_at_once m.term) ≡ true → (T : NameTypes) (d : Environment) → lacks_mark (run_star funs z l y ys m T r d).out ≡ false
    items_have_mark z y ys l m k T d =
        star_has_mark (d z) (run_later funs l T r d) (λ p q. run_later funs m (put ys (star_items (T z)) (put y (star_item (T z)) T)) r (put ys q (put y p d)))
        (later_has_mark l (and_first (term_marks_at_once l.term) (term_marks_at_once m.term) k) T d) (λ q o. later_has_mark m (and_second (term_marks_at_once l.term) (term_marks_at_once m.term) k) _ _)

    -- nor a wait,
    waits_have_mark : (x : ℕ) (l : LaterTree) → term_marks_at_once l.term ≡ true → (T : NameTypes) (d : Environment) → lacks_mark (run_wait funs x l T r d).out ≡ false
    waits_have_mark x l k T d = wait_has_mark (is_maximal (d x)) (run_later funs (knowing x (T x) (value_of (d x)) l) T r d) (later_has_mark (knowing x (T x) (value_of (d x)) l) k T d)

    -- and so no state
    pub state_has_mark : (s : StateTree) → marks_at_once s ≡ true → (T : NameTypes) (d : Environment) → lacks_mark (run_state funs s T r d).out ≡ false
    state_has_mark (cat_state a l) k T d = cat_has_mark (run_state funs a T _ d) (run_later funs l T _ d)
    state_has_mark (let_state x s a b) k T d = state_has_mark b k _ _
    state_has_mark (let_par_state x y z a) k T d = state_has_mark a k _ _
    state_has_mark (let_cat_state x y z a) k T d = state_has_mark a k _ _
    state_has_mark (sum_state z t held x l y m) k T d = cases_have_mark z x y l m k (types_held held) (with_held held d)
    state_has_mark (star_state z t held l y ys m) k T d = items_have_mark z y ys l m k (types_held held) (with_held held d)
    state_has_mark (wait_state x t held l) k T d = waits_have_mark x l k (types_held held) (with_held held d)
    state_has_mark (frame_state args s) k T d = state_has_mark s k _ _
    state_has_mark _ k T d = absurd (true≢false (sym k))
