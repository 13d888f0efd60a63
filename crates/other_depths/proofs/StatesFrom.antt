-- What is left of a state has the depths of its code, less some of the calls that were made.
use Rattle.std.proofs.Common.{◌≡◌, ℕ, true, List, [], ◌∷◌, ◌++◌}
use Rattle.std.specs.List.{All}
use Rattle.std.proofs.lemmas.List.Elements.{All-head, All-tail, All-weaker}
use Rattle.stream_type.specs.StreamType.{StreamType}
use Rattle.stream_prefix.specs.StreamPrefix.{eps_emp, is_maximal}
use Rattle.bunch.specs.Names.{put, holds, value_at}
use Rattle.hist_value.specs.Wholes.{value_of}
use Rattle.core_term.specs.CoreTerm.{CoreBody}
use Rattle.core_term.specs.Environment.{Environment, NameTypes}
use Rattle.core_term.specs.Parts.{par_left, par_right, cat_first, cat_second, sum_left, sum_right, star_item, star_items}
use Rattle.delta_state.specs.StateTree.{LaterTree, StateTree, ArgumentTrees, sink, var_state, par_state, cat_state, let_state, let_par_state, let_cat_state, sum_state, star_state, wait_state, frame_state, no_arguments, argument_before, argument_names, laters_of, laters_in}
use Rattle.delta_state.specs.StateMeaning.{knowing, types_held, with_held, types_of_arguments, run_later, run_state, run_arguments}
use Rattle.delta_state.specs.Rest.{rest_later, rest_of, rest_of_arguments}
use Rattle.delta_state.proofs.WholeStates.{all_left, all_right}
use Rattle.other_depths.specs.Suits.{ComesFrom}
use Rattle.other_depths.proofs.FormsFrom.{AllFrom, none_from, both_from, last_from, one_from, two_from, cat_from, wait_from, cut_from, sum_from, star_from}
use Rattle.other_depths.proofs.TermsFrom.{among_from, rest_from}

module _ (depths : List ℕ) where
  -- the depth of this code is there
  abbrev pub IsThere : LaterTree → Type 0
  IsThere l = holds l.depth depths ≡ true

  there_left : (xs ys : List LaterTree) → All IsThere (xs ++ ys) → All IsThere xs
  there_left = all_left IsThere

  there_right : (xs ys : List LaterTree) → All IsThere (xs ++ ys) → All IsThere ys
  there_right = all_right IsThere

  there_first : (l : LaterTree) (ls : List LaterTree) → All IsThere (l ∷ ls) → IsThere l
  there_first = All-head IsThere

  there_second : (l m : LaterTree) → All IsThere (l ∷ (m ∷ [])) → IsThere m
  there_second l m w = All-head IsThere m [] (All-tail IsThere l (m ∷ []) w)

  there_last : (xs : List LaterTree) (l : LaterTree) → All IsThere (xs ++ (l ∷ [])) → IsThere l
  there_last xs l w = All-head IsThere l [] (there_right xs (l ∷ []) w)

  module _ (funs : ℕ → CoreBody) where
    -- code once it is reached
    pub later_from : (l : LaterTree) (T : NameTypes) (r : StreamType) (d : Environment) → IsThere l → AllFrom depths (run_later funs l T r d).calls (laters_of (rest_later funs l T r d))
    later_from l T r d there =
        let n = (run_later funs l T r d).calls in
        All-weaker (λ i. ComesFrom (l.depth ∷ []) n i.depth) (λ i. ComesFrom depths n i.depth) (λ i w. among_from depths n l.depth i.depth there w) (laters_of (rest_later funs l T r d)) (rest_from funs l.depth l.term T r d l.past)

    mutual
      pub state_from : (s : StateTree) (T : NameTypes) (r : StreamType) (d : Environment) → All IsThere (laters_of s) → AllFrom depths (run_state funs s T r d).calls (laters_of (rest_of funs s T r d))
      state_from (sink t) T r d w = none_from depths 0
      state_from (var_state x) T r d w = none_from depths 0
      state_from (par_state a b) T r d w =
          both_from depths _ _ _ _ (state_from a T (par_left r) d (there_left (laters_of a) (laters_of b) w)) (state_from b T (par_right r) d (there_right (laters_of a) (laters_of b) w))
      state_from (cat_state a l) T r d w =
          let first = run_state funs a T (cat_first r) d in
          let there = there_last (laters_of a) l w in
          cat_from depths first (run_later funs l T (cat_second r) d) _ _ (later_from l T (cat_second r) d there)
          (last_from depths first.calls _ l (state_from a T (cat_first r) d (there_left (laters_of a) (l ∷ []) w)) there)
      state_from (let_state x s a b) T r d w =
          both_from depths _ _ _ _ (state_from a T s d (there_left (laters_of a) (laters_of b) w))
          (state_from b (put x s T) r (put x (run_state funs a T s d).out d) (there_right (laters_of a) (laters_of b) w))
      state_from (let_par_state x y z a) T r d w = state_from a _ r _ w
      state_from (let_cat_state x y z a) T r d w = cut_from depths _ x y z (T z) (d z) _ (state_from a _ r _ w)
      state_from (sum_state z t held x l y m) T r d w =
          let B = types_held held in
          let e = with_held held d in
          let first = there_first l (m ∷ []) w in
          let second = there_second l m w in
          sum_from depths z x y (B z) r (e z) (λ u. run_later funs l (put x (sum_left (B z)) B) r (put x u e)) (λ u. run_later funs m (put y (sum_right (B z)) B) r (put y u e)) _ _ _ (two_from depths 0 l m first second)
          (λ u. later_from l (put x (sum_left (B z)) B) r (put x u e) first) (λ u. later_from m (put y (sum_right (B z)) B) r (put y u e) second)
      state_from (star_state z t held l y ys m) T r d w =
          let B = types_held held in
          let e = with_held held d in
          let first = there_first l (m ∷ []) w in
          let second = there_second l m w in
          star_from depths z y ys (B z) r (e z) (run_later funs l B r e) (λ u v. run_later funs m (put ys (star_items (B z)) (put y (star_item (B z)) B)) r (put ys v (put y u e))) _ _ _ (two_from depths 0 l m first second)
          (later_from l B r e first) (λ u v. later_from m (put ys (star_items (B z)) (put y (star_item (B z)) B)) r (put ys v (put y u e)) second)
      state_from (wait_state x t held l) T r d w =
          let B = types_held held in
          let e = with_held held d in
          let known = knowing x (B x) (value_of (e x)) l in
          let there = there_first l [] w in
          wait_from depths r (is_maximal (e x)) (run_later funs known B r e) _ _ (later_from known B r e there) (one_from depths 0 l there)
      state_from (frame_state args s) T r d w =
          both_from depths _ _ _ _ (arguments_from args T d (there_left (laters_in args) (laters_of s) w))
          (state_from s (types_of_arguments args) r (value_at eps_emp (argument_names args) (run_arguments funs args T d).outs) (there_right (laters_in args) (laters_of s) w))

      -- arguments
      pub arguments_from : (args : ArgumentTrees) (T : NameTypes) (d : Environment) → All IsThere (laters_in args) → AllFrom depths (run_arguments funs args T d).calls (laters_in (rest_of_arguments funs args T d))
      arguments_from no_arguments T d w = none_from depths 0
      arguments_from (argument_before x t s args) T d w =
          both_from depths _ _ _ _ (state_from s T t d (there_left (laters_of s) (laters_in args) w)) (arguments_from args T d (there_right (laters_of s) (laters_in args) w))
