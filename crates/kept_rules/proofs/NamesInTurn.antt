-- The names that a state binds in the order of its states are those that it binds.
use Rattle.std.proofs.Common.{◌≡◌, ℕ, true, List, [], ◌∷◌, ◌++◌, refl, arith}
use Rattle.core_term.specs.FreeNames.{bound_names, is_distinct}
use Rattle.delta_state.specs.StateTree.{StateTree, ArgumentTrees, sink, var_state, par_state, cat_state, let_state, let_par_state, let_cat_state, sum_state, star_state, wait_state, frame_state, no_arguments, argument_before}
use Rattle.kept_state.specs.KeptNames.{bound_in_state, bound_in_arguments}
use Rattle.names_kept.proofs.NameCounts.{times, times_both, fewer_both, fewer_same, fewer_distinct}
use Rattle.kept_rules.specs.InTurn.{names_in_turn, names_of_arguments}

mutual
  -- each as often
  times_in_turn : (x : ℕ) (s : StateTree) → times x (bound_in_state s) ≡ times x (names_in_turn s)
  times_in_turn x (sink t) = refl
  times_in_turn x (var_state y) = refl
  times_in_turn x (par_state a b) =
      let i = times_in_turn x a in
      let j = times_in_turn x b in
      let p = times_both x (bound_in_state a) (bound_in_state b) in
      let q = times_both x (names_in_turn a) (names_in_turn b) in
      omega (arith, i, j, p, q)
  times_in_turn x (cat_state a l) =
      let i = times_in_turn x a in
      let p = times_both x (bound_in_state a) (bound_names l.term) in
      let q = times_both x (bound_names l.term) (names_in_turn a) in
      omega (arith, i, p, q)
  times_in_turn x (let_state y s a b) =
      let i = times_in_turn x a in
      let j = times_in_turn x b in
      let p = times_both x (bound_in_state a) (bound_in_state b) in
      let q = times_both x (names_in_turn a) (names_in_turn b) in
      omega (arith, i, j, p, q)
  times_in_turn x (let_par_state y u z a) = let i = times_in_turn x a in omega (arith, i)
  times_in_turn x (let_cat_state y u z a) = let i = times_in_turn x a in omega (arith, i)
  times_in_turn x (sum_state z t held y l u m) = let p = times_both x (bound_names l.term ++ (u ∷ bound_names m.term)) [] in omega (arith, p)
  times_in_turn x (star_state z t held l y ys m) = let p = times_both x (bound_names l.term ++ (y ∷ (ys ∷ bound_names m.term))) [] in omega (arith, p)
  times_in_turn x (wait_state z t held l) = let p = times_both x (bound_names l.term) [] in omega (arith, p)
  times_in_turn x (frame_state args s) = times_of_arguments x args

  times_of_arguments : (x : ℕ) (args : ArgumentTrees) → times x (bound_in_arguments args) ≡ times x (names_of_arguments args)
  times_of_arguments x no_arguments = refl
  times_of_arguments x (argument_before y t s args) =
      let i = times_in_turn x s in
      let j = times_of_arguments x args in
      let p = times_both x (bound_in_state s) (bound_in_arguments args) in
      let q = times_both x (names_in_turn s) (names_of_arguments args) in
      omega (arith, i, j, p, q)

-- so they are distinct, beside others, where these are
pub distinct_in_turn : (before : List ℕ) (s : StateTree) → is_distinct (before ++ bound_in_state s) ≡ true → is_distinct (before ++ names_in_turn s) ≡ true
distinct_in_turn before s d =
    fewer_distinct (fewer_both before before (names_in_turn s) (bound_in_state s) (fewer_same before) (record { at = λ x. let i = times_in_turn x s in omega (arith, i) })) d

pub distinct_bound : (before : List ℕ) (s : StateTree) → is_distinct (before ++ names_in_turn s) ≡ true → is_distinct (before ++ bound_in_state s) ≡ true
distinct_bound before s d =
    fewer_distinct (fewer_both before before (bound_in_state s) (names_in_turn s) (fewer_same before) (record { at = λ x. let i = times_in_turn x s in omega (arith, i) })) d
