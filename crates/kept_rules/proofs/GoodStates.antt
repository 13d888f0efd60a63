-- A kept state is typed just where each of its states is good, and at most one of them is the first that isn't.
use Rattle.std.proofs.Common.{◌≡◌, ◌∙◌, ◌<◌, ◌≤◌, ◌⊎◌, inl, inr, ℕ, zero, suc, Bool, true, false, true≢false, not, List, [], ◌∷◌, ◌++◌, eqb, if◌then◌else◌, ap, refl, sym, subst, append_assoc, append-nil, arith}
use Rattle.std.proofs.lemmas.Bool.{eqb-true, not-true, not_from_false, and_from}
use Rattle.std.proofs.lemmas.List.Elements.{All-append, All-nil, All-cons, All-head, All-tail}
use Rattle.std.specs.Prelude.{Option, Some, None, is_some, slice_get, IsSomeAnd}
use Rattle.std.specs.List.{All}
use Rattle.stream_type.specs.StreamType.{StreamType, cat, par, null_of}
use Rattle.bunch.specs.Names.{holds}
use Rattle.bunch.specs.BunchTree.{leaf_names}
use Rattle.bunch.proofs.Tests.{and_first, and_second}
use Rattle.core_term.specs.CoreTerm.{CoreBody, CoreProgram}
use Rattle.core_term.specs.FreeNames.{bound_names, is_distinct}
use Rattle.core_term.specs.Inert.{is_inert_fun}
use Rattle.core_term.specs.Parts.{par_left, par_right, cat_first, cat_second, sum_left, sum_right, star_item, star_items}
use Rattle.core_term.specs.Typing.{Context, type_at, with_name_like, with_fact, with_parts}
use Rattle.core_term.proofs.Sides.{holds-head, holds-left, holds-right}
use Rattle.core_term.proofs.BoundOnce.{not_again, distinct_tail, distinct_left, distinct_right, distinct_apart}
use Rattle.delta_state.specs.Apart.{IsApart}
use Rattle.delta_state.specs.StateTree.{LaterTree, StateTree, ArgumentTrees, sink, var_state, par_state, cat_state, let_state, let_par_state, let_cat_state, sum_state, star_state, wait_state, frame_state, no_arguments, argument_before, argument_names, laters_of, laters_in}
use Rattle.delta_state.specs.StateTyping.{HasStateType, HaveArgumentTypes, IsTypedLater, with_known, with_past, marks_held, context_held, context_of_arguments}
use Rattle.delta_state.specs.Settled.{is_settled, are_settled}
use Rattle.delta_state.specs.Stands.{depth_after}
use Rattle.delta_state.proofs.WholeStates.{all_left, all_right}
use Rattle.state_steps.proofs.KnownNames.{past_types-same}
use Rattle.state_steps.proofs.StateSteps.{parameter_there}
use Rattle.kept_state.specs.KeptTree.{KeptTree}
use Rattle.kept_state.specs.KeptNames.{BodiesOnce, BodiesOnceIn, PastsApart, PastsApartIn, IsPastApart}
use Rattle.kept_state.specs.KeptTyping.{IsTypedKept, context_kept, types_kept}
use Rattle.kept_state.proofs.BoundApart.{typed_once_is_apart}
use Rattle.kept_state.proofs.TypedWaits.{NotBound, not_bound_put, not_left, not_right, not_tail, not_bound_two}
use Rattle.kept_state.proofs.TidyKeptStates.{held_there}
use Rattle.kept_rules.specs.InTurn.{StateAt, names_in_turn, names_of_arguments, states_of, states_of_arguments, states_kept}
use Rattle.kept_rules.specs.StateRules.{IsGoodLater, IsGood, AreGood, IsGoodAt}
use Rattle.kept_rules.specs.Laws.{TypedIsGood, UntypedIsNotTyped, OneFirst}
use Rattle.kept_rules.proofs.NamesInTurn.{distinct_in_turn, distinct_bound}

-- names that are bound before a form, by it and in its parts
first_of : (before own parts : List ℕ) → is_distinct (before ++ (own ++ parts)) ≡ true → is_distinct (before ++ own) ≡ true
first_of before own parts d = distinct_left (before ++ own) parts (ap is_distinct (append_assoc before own parts) ∙ d)

rest_of : (before own parts : List ℕ) → is_distinct (before ++ (own ++ parts)) ≡ true → is_distinct ((before ++ own) ++ parts) ≡ true
rest_of before own parts d = ap is_distinct (append_assoc before own parts) ∙ d

pub whole_of : (before own parts : List ℕ) → is_distinct ((before ++ own) ++ parts) ≡ true → is_distinct (before ++ (own ++ parts)) ≡ true
whole_of before own parts d = ap is_distinct (sym (append_assoc before own parts)) ∙ d

pub nothing_more : (before own : List ℕ) → is_distinct (before ++ own) ≡ true → is_distinct (before ++ (own ++ [])) ≡ true
nothing_more before own d = ap (λ l. is_distinct (before ++ l)) (append-nil own) ∙ d

-- each stream of a context is bound before
abbrev Within : (ℕ → Option StreamType) → List ℕ → Type 0
Within types before = (x : ℕ) → is_some (types x) ≡ true → holds x before ≡ true

within_more : (types : ℕ → Option StreamType) (before more : List ℕ) → Within types before → Within types (before ++ more)
within_more types before more w x i = holds-left x before more (w x i)

within_put : (x : ℕ) (s : StreamType) (types : ℕ → Option StreamType) (before : List ℕ) → holds x before ≡ true → Within types before → Within (λ y. if eqb y x then Some s else types y) before
within_put x s types before h w y i = go (eqb y x) refl i
  where
    go : (c : Bool) → eqb y x ≡ c → is_some (if c then Some s else types y) ≡ true → holds y before ≡ true
    go true e k = subst (λ z. holds z before ≡ true) (sym (eqb-true y x e)) h
    go false e k = w y k

-- so none is bound after
not_after : (types : ℕ → Option StreamType) (before own : List ℕ) → Within types before → is_distinct (before ++ own) ≡ true → NotBound types own
not_after types before own w d x i m = distinct_apart before own d x (w x i) m

module _ (funs : List CoreBody) (d : ℕ) where
  abbrev Deep : LaterTree → Type 0
  Deep l = d ≤ l.depth

  good_both : (js ks : List StateAt) → AreGood funs d js → AreGood funs d ks → AreGood funs d (js ++ ks)
  good_both [] ks g h = h
  good_both (j ∷ js) ks g h = (g.0, good_both js ks g.1 h)

  good_left : (js ks : List StateAt) → AreGood funs d (js ++ ks) → AreGood funs d js
  good_left [] ks g = tt
  good_left (j ∷ js) ks g = (g.0, good_left js ks g.1)

  good_right : (js ks : List StateAt) → AreGood funs d (js ++ ks) → AreGood funs d ks
  good_right [] ks g = g
  good_right (j ∷ js) ks g = good_right js ks g.1

  good_at : (js : List StateAt) (n : ℕ) (j : StateAt) → AreGood funs d js → slice_get js n ≡ Some j → IsGood funs d j
  good_at [] n j g e = absurd (cc e)
  good_at (k ∷ js) zero j g e = subst (IsGood funs d) (cc e) g.0
  good_at (k ∷ js) (suc n) j g e = good_at js n j g.1 e

  good_all : (js : List StateAt) → ((n : ℕ) (j : StateAt) → slice_get js n ≡ Some j → IsGood funs d j) → AreGood funs d js
  good_all [] f = tt
  good_all (j ∷ js) f = (f 0 j refl, good_all js (λ n. f (suc n)))

  later_good : (c : Context) (inside : Context → Context) (others : List ℕ) (l : LaterTree) (r : StreamType) → IsTypedLater funs (is_inert_fun funs) c inside l r → IsPastApart others l → Deep l → IsGoodLater funs d c inside others l r
  later_good c inside others l r h a e = record { has_values = h.has_values; has_type = h.has_type; is_apart = a; is_deep = e }

  mutual
    -- each state in a typed state is good
    goods : (s : StateTree) (c : Context) (r : StreamType) (before : List ℕ) → HasStateType funs (is_inert_fun funs) c s r → is_settled s r ≡ true → BodiesOnce s → PastsApart s → All Deep (laters_of s) → is_distinct (before ++ names_in_turn s) ≡ true
        → AreGood funs d (states_of c r before s)
    goods (sink t) c r before h i o p e n = (record { rule = h; once = n }, tt)
    goods (var_state x) c r before h i o p e n = (record { rule = h; once = n }, tt)
    goods (par_state a b) c (par s t) before h i o p e n =
        let w = before ++ [] in
        let m = rest_of before [] (names_in_turn a ++ names_in_turn b) n in (
          record { rule = refl; once = first_of before [] (names_in_turn a ++ names_in_turn b) n },
          good_both (states_of c s w a) (states_of c t (w ++ names_in_turn a) b)
              (goods a c s w h.0 (and_first (is_settled a s) (is_settled b t) i) o.0 p.0 (all_left Deep (laters_of a) (laters_of b) e) (first_of w (names_in_turn a) (names_in_turn b) m))
              (goods b c t (w ++ names_in_turn a) h.1 (and_second (is_settled a s) (is_settled b t) i) o.1 p.1 (all_right Deep (laters_of a) (laters_of b) e) (rest_of w (names_in_turn a) (names_in_turn b) m)),
        )
    goods (par_state a b) c _ before h i o p e n = absurd h
    goods (cat_state a l) c (cat s t) before h i o p e n =
        let own = bound_names l.term in (
          record {
            rule = (refl, not-true (null_of s) (and_second (is_settled a s) (not (null_of s)) i), later_good c (λ q. q) [] l t h.1 p.1 (All-head Deep l [] (all_right Deep (laters_of a) (l ∷ []) e)), h.2);
            once = first_of before own (names_in_turn a) n;
          },
          goods a c s (before ++ own) h.0 (and_first (is_settled a s) (not (null_of s)) i) o p.0 (all_left Deep (laters_of a) (l ∷ []) e) (rest_of before own (names_in_turn a) n),
        )
    goods (cat_state a l) c _ before h i o p e n = absurd h
    goods (let_state x s a b) c r before h i o p e n =
        let w = before ++ (x ∷ []) in
        let m = rest_of before (x ∷ []) (names_in_turn a ++ names_in_turn b) n in (
          record { rule = tt; once = first_of before (x ∷ []) (names_in_turn a ++ names_in_turn b) n },
          good_both (states_of c s w a) (states_of _ r (w ++ names_in_turn a) b)
              (goods a c s w h.0 (and_first (is_settled a s) (is_settled b r) i) o.0 p.0 (all_left Deep (laters_of a) (laters_of b) e) (first_of w (names_in_turn a) (names_in_turn b) m))
              (goods b _ r (w ++ names_in_turn a) h.1 (and_second (is_settled a s) (is_settled b r) i) o.1 p.1 (all_right Deep (laters_of a) (laters_of b) e) (rest_of w (names_in_turn a) (names_in_turn b) m)),
        )
    goods (let_par_state x y z a) c r before h i o p e n =
        let own = x ∷ (y ∷ []) in
        (record { rule = h.1; once = first_of before own (names_in_turn a) n }, goods a _ r (before ++ own) h.2 i o p e (rest_of before own (names_in_turn a) n))
    goods (let_cat_state x y z a) c r before h i o p e n =
        let own = x ∷ (y ∷ []) in
        (record { rule = h.1; once = first_of before own (names_in_turn a) n }, goods a _ r (before ++ own) h.2 i o p e (rest_of before own (names_in_turn a) n))
    goods (sum_state z t held x l y m) c r before h i o p e n =
        let k = context_held held c.order in (
          record {
            rule = (
              h.0,
              h.1,
              not-true _ i,
              record {
                subject = h.2.subject_typed;
                left = later_good k (with_name_like x (sum_left (type_at k z)) z) (x ∷ []) l r h.2.left_typed p.0 (All-head Deep l (m ∷ []) e);
                right = later_good k (with_name_like y (sum_right (type_at k z)) z) (y ∷ []) m r h.2.right_typed p.1 (All-head Deep m [] (All-tail Deep l (m ∷ []) e));
              },
            );
            once = first_of before (x ∷ (bound_names l.term ++ (y ∷ bound_names m.term))) [] n;
          },
          tt,
        )
    goods (star_state z t held l y ys m) c r before h i o p e n =
        let k = context_held held c.order in (
          record {
            rule = (
              h.0,
              h.1,
              not-true _ i,
              record {
                subject = h.2.subject_typed;
                at_end = later_good k (λ q. q) [] l r h.2.end_typed p.0 (All-head Deep l (m ∷ []) e);
                at_item = later_good k (λ q. with_fact y ys (with_parts y (star_item (type_at k z)) ys (star_items (type_at k z)) z q)) (y ∷ (ys ∷ [])) m r h.2.item_typed p.1 (All-head Deep m [] (All-tail Deep l (m ∷ []) e));
              },
            );
            once = first_of before (bound_names l.term ++ (y ∷ (ys ∷ bound_names m.term))) [] n;
          },
          tt,
        )
    goods (wait_state x t held l) c r before h i o p e n =
        let k = context_held held c.order in (
          record {
            rule = (
              h.0,
              h.1,
              not-true _ i,
              record {
                subject = h.2.subject_typed;
                not_null = h.2.subject_not_null;
                rest = later_good k (with_known x (type_at k x)) (x ∷ []) l r h.2.rest_typed p.0 (All-head Deep l [] e);
                not_used = p.1;
              },
            );
            once = first_of before (bound_names l.term) [] n;
          },
          tt,
        )
    goods (frame_state args s) c r before h i o p e n = (
      record { rule = distinct_left (argument_names args) (names_in_turn s) (distinct_in_turn (argument_names args) s o.1); once = first_of before [] (names_of_arguments args) n },
      good_both (states_of_arguments c (before ++ []) args) (states_of (context_of_arguments c args) r (argument_names args) s)
          (goods_in args c (before ++ []) h.0 (and_first (are_settled args) (is_settled s r) i) o.0 p.0 (all_left Deep (laters_in args) (laters_of s) e) (rest_of before [] (names_of_arguments args) n))
          (goods s (context_of_arguments c args) r (argument_names args) h.1 (and_second (are_settled args) (is_settled s r) i) o.2 p.1 (all_right Deep (laters_in args) (laters_of s) e) (distinct_in_turn (argument_names args) s o.1)),
    )

    goods_in : (args : ArgumentTrees) (c : Context) (before : List ℕ) → HaveArgumentTypes funs (is_inert_fun funs) c args → are_settled args ≡ true → BodiesOnceIn args → PastsApartIn args → All Deep (laters_in args)
        → is_distinct (before ++ names_of_arguments args) ≡ true → AreGood funs d (states_of_arguments c before args)
    goods_in no_arguments c before h i o p e n = tt
    goods_in (argument_before x t s args) c before h i o p e n =
        good_both (states_of c t before s) (states_of_arguments c (before ++ names_in_turn s) args)
        (goods s c t before h.0 (and_first (is_settled s t) (are_settled args) i) o.0 p.0 (all_left Deep (laters_of s) (laters_in args) e) (first_of before (names_in_turn s) (names_of_arguments args) n))
        (goods_in args c (before ++ names_in_turn s) h.1 (and_second (is_settled s t) (are_settled args) i) o.1 p.1 (all_right Deep (laters_of s) (laters_in args) e) (rest_of before (names_in_turn s) (names_of_arguments args) n))

  -- a state is as a kept state asks
  record IsWhole (c : Context) (s : StateTree) (r : StreamType) (before : List ℕ) : Type 0 where
    typed : HasStateType funs (is_inert_fun funs) c s r
    settled : is_settled s r ≡ true
    bodies : BodiesOnce s
    pasts : PastsApart s
    deep : All Deep (laters_of s)
    once : is_distinct (before ++ names_in_turn s) ≡ true

  record AreWhole (c : Context) (args : ArgumentTrees) (before : List ℕ) : Type 0 where
    typed : HaveArgumentTypes funs (is_inert_fun funs) c args
    settled : are_settled args ≡ true
    bodies : BodiesOnceIn args
    pasts : PastsApartIn args
    deep : All Deep (laters_in args)
    once : is_distinct (before ++ names_of_arguments args) ≡ true

  -- code whose form binds no name for it,
  later_none : (l : LaterTree) (c : Context) (r : StreamType) (others : List ℕ) → IsGoodLater funs d c (λ q. q) others l r → NotBound c.types (bound_names l.term) → is_distinct (bound_names l.term) ≡ true → IsTypedLater funs (is_inert_fun funs) c (λ q. q) l r
  later_none l c r others g n o = record {
    has_values = g.has_values;
    has_type = g.has_type;
    binds_apart = typed_once_is_apart funs (is_inert_fun funs) (with_past l.past c) l.term r g.has_type (subst (λ T. NotBound T (bound_names l.term)) (sym (past_types-same l.past c)) n) o;
  }

  -- or makes one known,
  later_known : (l : LaterTree) (c : Context) (r : StreamType) (x : ℕ) (t : StreamType) (others : List ℕ) → IsGoodLater funs d c (with_known x t) others l r → NotBound c.types (bound_names l.term) → is_distinct (bound_names l.term) ≡ true
      → IsTypedLater funs (is_inert_fun funs) c (with_known x t) l r
  later_known l c r x t others g n o = record {
    has_values = g.has_values;
    has_type = g.has_type;
    binds_apart = typed_once_is_apart funs (is_inert_fun funs) (with_known x t (with_past l.past c)) l.term r g.has_type (subst (λ T. NotBound T (bound_names l.term)) (sym (past_types-same l.past c)) n) o;
  }

  -- or binds x,
  later_one : (l : LaterTree) (c : Context) (r : StreamType) (x : ℕ) (s : StreamType) (z : ℕ) (others : List ℕ) → IsGoodLater funs d c (with_name_like x s z) others l r → NotBound c.types (x ∷ bound_names l.term) → is_distinct (x ∷ bound_names l.term) ≡ true
      → IsTypedLater funs (is_inert_fun funs) c (with_name_like x s z) l r
  later_one l c r x s z others g n o = record {
    has_values = g.has_values;
    has_type = g.has_type;
    binds_apart = typed_once_is_apart funs (is_inert_fun funs) (with_name_like x s z (with_past l.past c)) l.term r g.has_type
        (subst (λ T. NotBound (λ y. if eqb y x then Some s else T y) (bound_names l.term)) (sym (past_types-same l.past c)) (not_bound_put x s c.types (bound_names l.term) (not_again x (bound_names l.term) o) (not_tail c.types x (bound_names l.term) n)))
        (distinct_tail x (bound_names l.term) o);
  }

  -- or x and y
  later_two : (l : LaterTree) (c : Context) (r : StreamType) (x y : ℕ) (s t : StreamType) (z : ℕ) (others : List ℕ) → IsGoodLater funs d c (λ q. with_fact x y (with_parts x s y t z q)) others l r → NotBound c.types (x ∷ (y ∷ bound_names l.term))
      → is_distinct (x ∷ (y ∷ bound_names l.term)) ≡ true → IsTypedLater funs (is_inert_fun funs) c (λ q. with_fact x y (with_parts x s y t z q)) l r
  later_two l c r x y s t z others g n o = record {
    has_values = g.has_values;
    has_type = g.has_type;
    binds_apart = typed_once_is_apart funs (is_inert_fun funs) (with_fact x y (with_parts x s y t z (with_past l.past c))) l.term r g.has_type
        (subst (λ T. NotBound (λ w. if eqb w y then Some t else (if eqb w x then Some s else T w)) (bound_names l.term)) (sym (past_types-same l.past c)) (not_bound_two x y s t c.types (bound_names l.term) o n))
        (distinct_tail y (bound_names l.term) (distinct_tail x (y ∷ bound_names l.term) o));
  }

  -- two new names of which the first isn't a name from before
  parts_apart : (before more : List ℕ) (x y z : ℕ) → is_distinct (before ++ (x ∷ (y ∷ more))) ≡ true → holds z before ≡ true → IsApart x y z
  parts_apart before more x y z o h = record {
    from_subject = λ e. distinct_apart before (x ∷ (y ∷ more)) o z h (subst (λ w. holds w (x ∷ (y ∷ more)) ≡ true) e (holds-head x (y ∷ more)));
    from_second = λ e. not_again x (y ∷ more) (distinct_right before (x ∷ (y ∷ more)) o) (subst (λ w. holds w (y ∷ more) ≡ true) (sym e) (holds-head y more));
  }

  mutual
    -- a state of which each state in it is good is as a kept state asks
    whole : (s : StateTree) (c : Context) (r : StreamType) (before : List ℕ) → Within c.types before → AreGood funs d (states_of c r before s) → IsWhole c s r before
    whole (sink t) c r before w g = record { typed = g.0.rule; settled = refl; bodies = tt; pasts = tt; deep = All-nil Deep; once = g.0.once }
    whole (var_state x) c r before w g = record { typed = g.0.rule; settled = refl; bodies = tt; pasts = tt; deep = All-nil Deep; once = g.0.once }
    whole (par_state a b) c r before w g =
        let u = before ++ [] in
        let ja = states_of c (par_left r) u a in
        let jb = states_of c (par_right r) (u ++ names_in_turn a) b in
        let f = whole a c (par_left r) u (within_more c.types before [] w) (good_left ja jb g.1) in
        let k = whole b c (par_right r) (u ++ names_in_turn a) (within_more c.types u (names_in_turn a) (within_more c.types before [] w)) (good_right ja jb g.1) in
        record {
          typed = subst (λ t. HasStateType funs (is_inert_fun funs) c (par_state a b) t) (sym g.0.rule) (f.typed, k.typed);
          settled = and_from (is_settled a (par_left r)) (is_settled b (par_right r)) f.settled k.settled;
          bodies = (f.bodies, k.bodies);
          pasts = (f.pasts, k.pasts);
          deep = All-append Deep (laters_of a) (laters_of b) f.deep k.deep;
          once = whole_of before [] (names_in_turn a ++ names_in_turn b) (whole_of u (names_in_turn a) (names_in_turn b) k.once);
        }
    whole (cat_state a l) c r before w g =
        let own = bound_names l.term in
        let f = whole a c (cat_first r) (before ++ own) (within_more c.types before own w) g.1 in
        record {
          typed = subst (λ t. HasStateType funs (is_inert_fun funs) c (cat_state a l) t) (sym g.0.rule.0)
              (f.typed, later_none l c (cat_second r) [] g.0.rule.2 (not_after c.types before own w g.0.once) (distinct_right before own g.0.once), g.0.rule.3);
          settled = and_from (is_settled a (cat_first r)) (not (null_of (cat_first r))) f.settled (not_from_false (null_of (cat_first r)) g.0.rule.1);
          bodies = f.bodies;
          pasts = (f.pasts, g.0.rule.2.is_apart);
          deep = All-append Deep (laters_of a) (l ∷ []) f.deep (All-cons Deep l [] g.0.rule.2.is_deep (All-nil Deep));
          once = whole_of before own (names_in_turn a) f.once;
        }
    whole (let_state x s a b) c r before w g =
        let u = before ++ (x ∷ []) in
        let ja = states_of c s u a in
        let jb = states_of _ r (u ++ names_in_turn a) b in
        let f = whole a c s u (within_more c.types before (x ∷ []) w) (good_left ja jb g.1) in
        let v = u ++ names_in_turn a in
        let there : holds x v ≡ true = holds-left x u (names_in_turn a) (holds-right x before (x ∷ []) (holds-head x [])) in
        let k = whole b _ r v (within_put x s c.types v there (within_more c.types u (names_in_turn a) (within_more c.types before (x ∷ []) w))) (good_right ja jb g.1) in
        record {
          typed = (f.typed, k.typed);
          settled = and_from (is_settled a s) (is_settled b r) f.settled k.settled;
          bodies = (f.bodies, k.bodies);
          pasts = (f.pasts, k.pasts);
          deep = All-append Deep (laters_of a) (laters_of b) f.deep k.deep;
          once = whole_of before (x ∷ []) (names_in_turn a ++ names_in_turn b) (whole_of u (names_in_turn a) (names_in_turn b) k.once);
        }
    whole (let_par_state x y z a) c r before w g =
        let own = x ∷ (y ∷ []) in
        let v = before ++ own in
        let f = whole a _ r v
        (within_put y (par_right (type_at c z)) _ v (holds-right y before own (holds-right y (x ∷ []) (y ∷ []) (holds-head y [])))
        (within_put x (par_left (type_at c z)) c.types v (holds-right x before own (holds-head x (y ∷ []))) (within_more c.types before own w))) g.1 in
        record {
          typed = ((parts_apart before [] x y z g.0.once (w z (ap is_some g.0.rule))).from_subject, g.0.rule, f.typed);
          settled = f.settled;
          bodies = f.bodies;
          pasts = f.pasts;
          deep = f.deep;
          once = whole_of before own (names_in_turn a) f.once;
        }
    whole (let_cat_state x y z a) c r before w g =
        let own = x ∷ (y ∷ []) in
        let v = before ++ own in
        let f = whole a _ r v
        (within_put y (cat_second (type_at c z)) _ v (holds-right y before own (holds-right y (x ∷ []) (y ∷ []) (holds-head y [])))
        (within_put x (cat_first (type_at c z)) c.types v (holds-right x before own (holds-head x (y ∷ []))) (within_more c.types before own w))) g.1 in
        record {
          typed = (parts_apart before [] x y z g.0.once (w z (ap is_some g.0.rule)), g.0.rule, f.typed);
          settled = f.settled;
          bodies = f.bodies;
          pasts = f.pasts;
          deep = f.deep;
          once = whole_of before own (names_in_turn a) f.once;
        }
    whole (sum_state z t held x l y m) c r before w g =
        let k = context_held held c.order in
        let bl = bound_names l.term in
        let bm = bound_names m.term in
        let own : List ℕ = (x ∷ bl) ++ (y ∷ bm) in
        let h = g.0.rule.3 in
        let n : NotBound (marks_held held) own = λ v i. not_after c.types before own w g.0.once v (held_there c held g.0.rule.1.are_left v i) in
        let o = distinct_right before own g.0.once in
        record {
          typed = (
            g.0.rule.0,
            g.0.rule.1,
            record {
              subject_typed = h.subject;
              left_typed = later_one l k r x (sum_left (type_at k z)) z (x ∷ []) h.left (not_left (marks_held held) (x ∷ bl) (y ∷ bm) n) (distinct_left (x ∷ bl) (y ∷ bm) o);
              right_typed = later_one m k r y (sum_right (type_at k z)) z (y ∷ []) h.right (not_right (marks_held held) (x ∷ bl) (y ∷ bm) n) (distinct_right (x ∷ bl) (y ∷ bm) o);
            },
          );
          settled = not_from_false _ g.0.rule.2;
          bodies = tt;
          pasts = (h.left.is_apart, h.right.is_apart);
          deep = All-cons Deep l (m ∷ []) h.left.is_deep (All-cons Deep m [] h.right.is_deep (All-nil Deep));
          once = nothing_more before own g.0.once;
        }
    whole (star_state z t held l y ys m) c r before w g =
        let k = context_held held c.order in
        let bl = bound_names l.term in
        let bm = bound_names m.term in
        let own : List ℕ = bl ++ (y ∷ (ys ∷ bm)) in
        let h = g.0.rule.3 in
        let n : NotBound (marks_held held) own = λ v i. not_after c.types before own w g.0.once v (held_there c held g.0.rule.1.are_left v i) in
        let o = distinct_right before own g.0.once in
        let there : holds z before ≡ true = w z (held_there c held g.0.rule.1.are_left z (ap is_some h.subject)) in
        record {
          typed = (
            g.0.rule.0,
            g.0.rule.1,
            record {
              item_apart = parts_apart (before ++ bl) bm y ys z (rest_of before bl (y ∷ (ys ∷ bm)) g.0.once) (holds-left z before bl there);
              subject_typed = h.subject;
              end_typed = later_none l k r [] h.at_end (not_left (marks_held held) bl (y ∷ (ys ∷ bm)) n) (distinct_left bl (y ∷ (ys ∷ bm)) o);
              item_typed = later_two m k r y ys (star_item (type_at k z)) (star_items (type_at k z)) z (y ∷ (ys ∷ [])) h.at_item (not_right (marks_held held) bl (y ∷ (ys ∷ bm)) n) (distinct_right bl (y ∷ (ys ∷ bm)) o);
            },
          );
          settled = not_from_false _ g.0.rule.2;
          bodies = tt;
          pasts = (h.at_end.is_apart, h.at_item.is_apart);
          deep = All-cons Deep l (m ∷ []) h.at_end.is_deep (All-cons Deep m [] h.at_item.is_deep (All-nil Deep));
          once = nothing_more before own g.0.once;
        }
    whole (wait_state x t held l) c r before w g =
        let k = context_held held c.order in
        let own = bound_names l.term in
        let h = g.0.rule.3 in
        let n : NotBound (marks_held held) own = λ v i. not_after c.types before own w g.0.once v (held_there c held g.0.rule.1.are_left v i) in
        record {
          typed = (
            g.0.rule.0,
            g.0.rule.1,
            record {
              subject_typed = h.subject;
              subject_not_null = h.not_null;
              rest_typed = later_known l k r x (type_at k x) (x ∷ []) h.rest n (distinct_right before own g.0.once);
            },
          );
          settled = not_from_false _ g.0.rule.2;
          bodies = tt;
          pasts = (h.rest.is_apart, h.not_used);
          deep = All-cons Deep l [] h.rest.is_deep (All-nil Deep);
          once = nothing_more before own g.0.once;
        }
    whole (frame_state args s) c r before w g =
        let u = before ++ [] in
        let ja = states_of_arguments c u args in
        let jb = states_of (context_of_arguments c args) r (argument_names args) s in
        let f = all_whole args c u (within_more c.types before [] w) (first_of before [] [] (nothing_more before [] g.0.once)) (good_left ja jb g.1) in
        let k = whole s (context_of_arguments c args) r (argument_names args) (parameter_there args) (good_right ja jb g.1) in
        record {
          typed = (f.typed, k.typed);
          settled = and_from (are_settled args) (is_settled s r) f.settled k.settled;
          bodies = (f.bodies, distinct_bound (argument_names args) s k.once, k.bodies);
          pasts = (f.pasts, k.pasts);
          deep = All-append Deep (laters_in args) (laters_of s) f.deep k.deep;
          once = whole_of before [] (names_of_arguments args) f.once;
        }

    all_whole : (args : ArgumentTrees) (c : Context) (before : List ℕ) → Within c.types before → is_distinct before ≡ true → AreGood funs d (states_of_arguments c before args) → AreWhole c args before
    all_whole no_arguments c before w o g = record { typed = tt; settled = refl; bodies = tt; pasts = tt; deep = All-nil Deep; once = ap is_distinct (append-nil before) ∙ o }
    all_whole (argument_before x t s args) c before w o g =
        let js = states_of c t before s in
        let u = before ++ names_in_turn s in
        let ks = states_of_arguments c u args in
        let f = whole s c t before w (good_left js ks g) in
        let k = all_whole args c u (within_more c.types before (names_in_turn s) w) f.once (good_right js ks g) in
        record {
          typed = (f.typed, k.typed);
          settled = and_from (is_settled s t) (are_settled args) f.settled k.settled;
          bodies = (f.bodies, k.bodies);
          pasts = (f.pasts, k.pasts);
          deep = All-append Deep (laters_of s) (laters_in args) f.deep k.deep;
          once = whole_of before (names_in_turn s) (names_of_arguments args) k.once;
        }

-- main's parameters are bound before all states
main_within : (c : CoreProgram) (k : KeptTree) → Within (context_kept c k).types (leaf_names c.main.params)
main_within c k x i = go (holds x (leaf_names c.main.params)) i
  where
    go : (b : Bool) → is_some (if b then Some (types_kept c k x) else None) ≡ true → b ≡ true
    go true m = refl
    go false m = absurd (true≢false (sym m))

pub typed_is_good : TypedIsGood
typed_is_good c k = (forth, back)
  where
    params : List ℕ
    params = leaf_names c.main.params

    forth : IsTypedKept c k → (n : ℕ) (j : StateAt) → slice_get (states_kept c k) n ≡ Some j → IsGoodAt c k n j
    forth h n j e = record {
      placed = λ i. h.is_placed;
      good = good_at c.funs (depth_after k.events) (states_kept c k) n j
          (goods c.funs (depth_after k.events) k.state (context_kept c k) k.out params h.is_typed h.settled h.are_apart.bodies_once h.are_apart.pasts_apart h.is_deep (distinct_in_turn params k.state h.are_apart.bound_once))
          e;
    }

    back : ((n : ℕ) (j : StateAt) → slice_get (states_kept c k) n ≡ Some j → IsGoodAt c k n j) → IsTypedKept c k
    back f =
        let w = whole c.funs (depth_after k.events) k.state (context_kept c k) k.out params (main_within c k) (good_all c.funs (depth_after k.events) (states_kept c k) (λ n j e. (f n j e).good)) in
        record {
          is_placed = (f 0 _ refl).placed refl;
          is_typed = w.typed;
          are_apart = record { bound_once = distinct_bound params k.state w.once; bodies_once = w.bodies; pasts_apart = w.pasts };
          settled = w.settled;
          is_deep = w.deep;
        }

-- what fails at a number contradicts that all is good there
fails_not : (c : CoreProgram) (k : KeptTree) (n : ℕ) (o : Option StateAt) → slice_get (states_kept c k) n ≡ o → IsSomeAnd o (λ j. IsGoodAt c k n j → ⊥) → ((j : StateAt) → slice_get (states_kept c k) n ≡ Some j → IsGoodAt c k n j) → ⊥
fails_not c k n None e h f = h
fails_not c k n (Some j) e h f = h (f j e)

pub untyped_is_not_typed : UntypedIsNotTyped
untyped_is_not_typed c k n u t = fails_not c k n (slice_get (states_kept c k) n) refl u.fails ((typed_is_good c k).0 t n)

pub one_first : OneFirst
one_first c k m n u v = go (le_or_lt m n)
  where
    le_or_lt : (a b : ℕ) → (a < b) ⊎ ((b < a) ⊎ (a ≡ b))
    le_or_lt zero zero = inr (inr refl)
    le_or_lt zero (suc b) = inl (omega arith)
    le_or_lt (suc a) zero = inr (inl (omega arith))
    le_or_lt (suc a) (suc b) = more (le_or_lt a b)
      where
        more : (a < b) ⊎ ((b < a) ⊎ (a ≡ b)) → (suc a < suc b) ⊎ ((suc b < suc a) ⊎ (suc a ≡ suc b))
        more (inl l) = inl (omega (arith, l))
        more (inr (inl l)) = inr (inl (omega (arith, l)))
        more (inr (inr e)) = inr (inr (ap suc e))

    go : (m < n) ⊎ ((n < m) ⊎ (m ≡ n)) → m ≡ n
    go (inl l) = absurd (fails_not c k m (slice_get (states_kept c k) m) refl u.fails (λ j. v.before m j l))
    go (inr (inl l)) = absurd (fails_not c k n (slice_get (states_kept c k) n) refl v.fails (λ j. u.before n j l))
    go (inr (inr e)) = e
