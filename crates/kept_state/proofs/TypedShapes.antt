-- What is typed has the shapes that bytes tell.
use Rattle.std.proofs.Common.{ℕ, Bool, List, [], ◌∷◌}
use Rattle.std.specs.List.{All, AllByRecursion}
use Rattle.std.proofs.lemmas.List.Elements.{recursion_from_All}
use Rattle.stream_type.specs.StreamType.{StreamType, cat, par, sum, star}
use Rattle.stream_prefix.specs.StreamPrefix.{StreamPrefix, IsPrefix, eps_emp, one_emp, one_full, int_emp, int_full, par_both, cat_fst, cat_both, sum_emp, in_left, in_right, star_emp, star_done, star_first, star_rest}
use Rattle.hist_value.specs.HistType.{HistType, pair_type, sum_type, list_type, past}
use Rattle.hist_value.specs.HistValue.{HistValue, HasType, unit_value, number, pair_of, left_of, right_of, no_items, item_before}
use Rattle.core_term.specs.CoreTerm.{CoreBody}
use Rattle.core_term.specs.Inert.{is_inert_fun}
use Rattle.core_term.specs.Typing.{Context}
use Rattle.delta_state.specs.StateTree.{HeldName, LaterTree, StateTree, ArgumentTrees, sink, var_state, par_state, cat_state, let_state, let_par_state, let_cat_state, sum_state, star_state, wait_state, frame_state, no_arguments, argument_before}
use Rattle.delta_state.specs.StateTyping.{HasStateType, HaveArgumentTypes}
use Rattle.kept_state.specs.KeptSizes.{IsOfStar, IsShaped, IsOfList, IsShapedValue, AreShaped, IsShapedLater, IsShapedState, AreShapedArguments}
use Rattle.kept_state.specs.Laws.{TypedIsShaped, TypedOneSpelling}
use Rattle.kept_state.proofs.SameStates.{one_spelling}

-- a prefix of a star is of a star
of_star : (s : StreamType) (p : StreamPrefix) → IsPrefix (star s) p → IsOfStar p
of_star s star_emp h = tt
of_star s star_done h = tt
of_star s (star_first p) h = tt
of_star s (star_rest p q) h = tt
of_star s _ h = absurd h

-- a prefix of any type has its shape
prefix_shaped : (t : StreamType) (p : StreamPrefix) → IsPrefix t p → IsShaped p
prefix_shaped t eps_emp h = tt
prefix_shaped t one_emp h = tt
prefix_shaped t one_full h = tt
prefix_shaped t int_emp h = tt
prefix_shaped t (int_full n) h = tt
prefix_shaped t sum_emp h = tt
prefix_shaped t star_emp h = tt
prefix_shaped t star_done h = tt
prefix_shaped (par s t) (par_both p q) h = (prefix_shaped s p h.0, prefix_shaped t q h.1)
prefix_shaped (cat s t) (cat_fst p) h = prefix_shaped s p h
prefix_shaped (cat s t) (cat_both p q) h = (prefix_shaped s p h.0, prefix_shaped t q h.2)
prefix_shaped (sum s t) (in_left p) h = prefix_shaped s p h
prefix_shaped (sum s t) (in_right p) h = prefix_shaped t p h
prefix_shaped (star s) (star_first p) h = prefix_shaped s p h
prefix_shaped (star s) (star_rest p q) h = (prefix_shaped s p h.0, of_star s q h.2, prefix_shaped (star s) q h.2)
prefix_shaped _ _ h = absurd h

-- a value of a list's type is a list
of_list : (t : HistType) (v : HistValue) → HasType (list_type t) v → IsOfList v
of_list t no_items h = tt
of_list t (item_before v w) h = tt
of_list t _ h = absurd h

-- a value of any type has its shape
value_shaped : (t : HistType) (v : HistValue) → HasType t v → IsShapedValue v
value_shaped t unit_value h = tt
value_shaped t (number n) h = tt
value_shaped t no_items h = tt
value_shaped (pair_type s t) (pair_of v w) h = (value_shaped s v h.0, value_shaped t w h.1)
value_shaped (sum_type s t) (left_of v) h = value_shaped s v h
value_shaped (sum_type s t) (right_of v) h = value_shaped t v h
value_shaped (list_type s) (item_before v w) h = (value_shaped s v h.0, of_list s w h.1, value_shaped (list_type s) w h.1)
value_shaped _ _ h = absurd h

-- what follows for each thing of a list
of_each : {A : Type 0} (P Q : A → Type 0) (xs : List A) → ((x : A) → P x → Q x) → AllByRecursion P xs → AllByRecursion Q xs
of_each P Q [] f h = tt
of_each P Q (x ∷ xs) f h = (f x h.0, of_each P Q xs f h.1)

-- what is held of each name
held_shaped : (held : List HeldName) → All (λ h. IsPrefix h.type h.prefix) held → AreShaped held
held_shaped held h = of_each (λ n. IsPrefix n.type n.prefix) (λ n. IsShaped n.prefix) held (λ n. prefix_shaped n.type n.prefix) (recursion_from_All (λ n. IsPrefix n.type n.prefix) held h)

-- the values of code that isn't reached
later_shaped : (l : LaterTree) → All (λ e. HasType (past e.type) e.value) l.past → IsShapedLater l
later_shaped l h = of_each (λ e. HasType (past e.type) e.value) (λ e. IsShapedValue e.value) l.past (λ e. value_shaped (past e.type) e.value) (recursion_from_All (λ e. HasType (past e.type) e.value) l.past h)

module _ (funs : List CoreBody) (counts : ℕ → Bool) where
  mutual
    -- a typed state has the shapes
    state_shaped : (c : Context) (s : StateTree) (r : StreamType) → HasStateType funs counts c s r → IsShapedState s
    state_shaped c (sink t) r h = tt
    state_shaped c (var_state x) r h = tt
    state_shaped c (par_state a b) (par s t) h = (state_shaped _ a s h.0, state_shaped _ b t h.1)
    state_shaped c (par_state a b) _ h = absurd h
    state_shaped c (cat_state a l) (cat s t) h = (state_shaped _ a s h.0, later_shaped l h.1.has_values)
    state_shaped c (cat_state a l) _ h = absurd h
    state_shaped c (let_state x s a b) r h = (state_shaped _ a s h.0, state_shaped _ b r h.1)
    state_shaped c (let_par_state x y z a) r h = state_shaped _ a r h.2
    state_shaped c (let_cat_state x y z a) r h = state_shaped _ a r h.2
    state_shaped c (sum_state z t held x l y m) r h = (held_shaped held h.1.are_prefixes, later_shaped l h.2.left_typed.has_values, later_shaped m h.2.right_typed.has_values)
    state_shaped c (star_state z t held l y ys m) r h = (held_shaped held h.1.are_prefixes, later_shaped l h.2.end_typed.has_values, later_shaped m h.2.item_typed.has_values)
    state_shaped c (wait_state x t held l) r h = (held_shaped held h.1.are_prefixes, later_shaped l h.2.rest_typed.has_values)
    state_shaped c (frame_state args s) r h = (arguments_shaped c args h.0, state_shaped _ s r h.1)

    -- so have the arguments of a frame
    arguments_shaped : (c : Context) (args : ArgumentTrees) → HaveArgumentTypes funs counts c args → AreShapedArguments args
    arguments_shaped c no_arguments h = tt
    arguments_shaped c (argument_before x t s args) h = (state_shaped _ s t h.0, arguments_shaped c args h.1)

-- what is typed has its shape
pub typed_is_shaped : TypedIsShaped
typed_is_shaped c k h = state_shaped c.funs (is_inert_fun c.funs) _ k.state k.out h.is_typed

-- so its bytes are of no other
pub typed_one_spelling : TypedOneSpelling
typed_one_spelling c d k l ps qs f g h i e = one_spelling k l ps qs f g (typed_is_shaped c k h) (typed_is_shaped d l i) e
