-- States at other depths: where these suit the calls that a state makes, it runs the same.
use Rattle.std.proofs.Common.{◌≡◌, ◌∙◌, ℕ, ◌≤◌, List, [], ◌∷◌, ◌++◌, arith, ap, ap₂, refl}
use Rattle.std.specs.List.{All}
use Rattle.std.proofs.lemmas.List.Elements.{All-head, All-tail}
use Rattle.stream_type.specs.StreamType.{StreamType}
use Rattle.stream_prefix.specs.StreamPrefix.{eps_emp, is_maximal}
use Rattle.bunch.specs.Names.{put, value_at}
use Rattle.hist_value.specs.Wholes.{value_of}
use Rattle.core_term.specs.CoreTerm.{CoreBody}
use Rattle.core_term.specs.Environment.{Environment, NameTypes}
use Rattle.core_term.specs.Parts.{par_left, par_right, cat_first, cat_second, sum_left, sum_right, star_item, star_items}
use Rattle.core_term.specs.Run.{Run, Runs, par_run, let_run, run_before, frame_run}
use Rattle.delta_state.specs.StateTree.{LaterTree, StateTree, ArgumentTrees, sink, var_state, par_state, cat_state, let_state, let_par_state, let_cat_state, sum_state, star_state, wait_state, frame_state, no_arguments, argument_before, is_var_state, argument_names, laters_of, laters_in}
use Rattle.delta_state.specs.StateMeaning.{past_in, knowing, types_held, with_held, types_of_arguments, run_later, run_state, run_arguments}
use Rattle.delta_state.proofs.WholeStates.{all_left, all_right}
use Rattle.mapped_states.proofs.MappedForms.{is_var_stays, argument_names_stay, types_of_arguments_stay}
use Rattle.other_depths.specs.Depths.{deepened_later, deepened, deepened_arguments}
use Rattle.other_depths.specs.Suits.{SuitsAt, Suits}
use Rattle.other_depths.proofs.SameRuns.{Same, cat_same, sum_same, star_same, wait_same}
use Rattle.other_depths.proofs.Calls.{term_same_at}

-- g's depths suit code that isn't reached, and all code of arguments
abbrev pub SuitsLater : (ℕ → ℕ) → ℕ → LaterTree → Type 0
SuitsLater g n l = SuitsAt g n l.depth

abbrev pub SuitArguments : (ℕ → ℕ) → ℕ → ArgumentTrees → Type 0
SuitArguments g n args = All (SuitsLater g n) (laters_in args)

module _ (g : ℕ → ℕ) (n : ℕ) where
  -- of two parts they suit the first, and the second
  pub suits_left : (xs ys : List LaterTree) → All (SuitsLater g n) (xs ++ ys) → All (SuitsLater g n) xs
  suits_left = all_left (SuitsLater g n)

  pub suits_right : (xs ys : List LaterTree) → All (SuitsLater g n) (xs ++ ys) → All (SuitsLater g n) ys
  suits_right = all_right (SuitsLater g n)

  -- the first of code in a row, the second, and the last one
  pub suits_first : (l : LaterTree) (ls : List LaterTree) → All (SuitsLater g n) (l ∷ ls) → SuitsAt g n l.depth
  suits_first = All-head (SuitsLater g n)

  pub suits_second : (l m : LaterTree) → All (SuitsLater g n) (l ∷ (m ∷ [])) → SuitsAt g n m.depth
  suits_second l m w = All-head (SuitsLater g n) m [] (All-tail (SuitsLater g n) l (m ∷ []) w)

  pub suits_last : (xs : List LaterTree) (l : LaterTree) → All (SuitsLater g n) (xs ++ (l ∷ [])) → SuitsAt g n l.depth
  suits_last xs l w = All-head (SuitsLater g n) l [] (suits_right xs (l ∷ []) w)

module _ (g : ℕ → ℕ) (n : ℕ) (funs : ℕ → CoreBody) where
  -- code once it is reached
  pub later_same : (l : LaterTree) (T : NameTypes) (r : StreamType) (d : Environment) → SuitsAt g n l.depth → Same n (run_later funs l T r d) (run_later funs (deepened_later g l) T r d)
  later_same l T r d w = record { same = term_same_at funs n l.depth (g l.depth) w.is_deep w.other_is_deep l.term T r d (past_in l.past) }

  mutual
    pub state_same : (s : StateTree) (T : NameTypes) (r : StreamType) (d : Environment) → (run_state funs s T r d).calls ≤ n → Suits g n s → run_state funs (deepened g s) T r d ≡ run_state funs s T r d
    state_same (sink t) T r d h w = refl
    state_same (var_state x) T r d h w = refl
    state_same (par_state a b) T r d h w =
        ap₂ par_run (state_same a T (par_left r) d (omega (arith, h)) (suits_left g n (laters_of a) (laters_of b) w)) (state_same b T (par_right r) d (omega (arith, h)) (suits_right g n (laters_of a) (laters_of b) w))
    state_same (cat_state a l) T r d h w =
        cat_same n _ _ _ _ (record { same = λ i. state_same a T (cat_first r) d i (suits_left g n (laters_of a) (l ∷ []) w) }) (later_same l T (cat_second r) d (suits_last g n (laters_of a) l w)) h
    state_same (let_state x s a b) T r d h w =
        let A = run_state funs a T s d in
        ap₂ (λ v (u : Run). let_run v u (run_state funs (deepened g b) (put x s T) r (put x u.out d))) (is_var_stays _ _ a) (state_same a T s d (omega (arith, h)) (suits_left g n (laters_of a) (laters_of b) w))
        ∙ ap (let_run (is_var_state a) A) (state_same b (put x s T) r (put x A.out d) (omega (arith, h)) (suits_right g n (laters_of a) (laters_of b) w))
    state_same (let_par_state x y z a) T r d h w = state_same a _ r _ h w
    state_same (let_cat_state x y z a) T r d h w = state_same a _ r _ h w
    state_same (sum_state z t held x l y m) T r d h w =
        let B = types_held held in
        let e = with_held held d in
        sum_same n r (e z) _ _ _ _ (λ u. later_same l (put x (sum_left (B z)) B) r (put x u e) (suits_first g n l (m ∷ []) w)) (λ u. later_same m (put y (sum_right (B z)) B) r (put y u e) (suits_second g n l m w)) h
    state_same (star_state z t held l y ys m) T r d h w =
        let B = types_held held in
        let e = with_held held d in
        star_same n r (e z) _ _ _ _ (later_same l B r e (suits_first g n l (m ∷ []) w))
        (λ u v. later_same m (put ys (star_items (B z)) (put y (star_item (B z)) B)) r (put ys v (put y u e)) (suits_second g n l m w)) h
    state_same (wait_state x t held l) T r d h w =
        let B = types_held held in
        let e = with_held held d in
        wait_same n r (is_maximal (e x)) _ _ (later_same (knowing x (B x) (value_of (e x)) l) B r e (suits_first g n l [] w)) h
    state_same (frame_state args s) T r d h w =
        let B = types_of_arguments args in
        let inside = run_arguments funs args T d in
        let names = argument_names args in
        ap (λ (u : Runs). frame_run u (run_state funs (deepened g s) (types_of_arguments (deepened_arguments g args)) r (value_at eps_emp (argument_names (deepened_arguments g args)) u.outs)))
        (arguments_same args T d (omega (arith, h)) (suits_left g n (laters_in args) (laters_of s) w))
        ∙ ap₂ (λ C (us : List ℕ). frame_run inside (run_state funs (deepened g s) C r (value_at eps_emp us inside.outs))) (types_of_arguments_stay _ _ args) (argument_names_stay _ _ args)
        ∙ ap (frame_run inside) (state_same s B r (value_at eps_emp names inside.outs) (omega (arith, h)) (suits_right g n (laters_in args) (laters_of s) w))

    -- arguments
    pub arguments_same : (args : ArgumentTrees) (T : NameTypes) (d : Environment) → (run_arguments funs args T d).calls ≤ n → SuitArguments g n args
        → run_arguments funs (deepened_arguments g args) T d ≡ run_arguments funs args T d
    arguments_same no_arguments T d h w = refl
    arguments_same (argument_before x t s args) T d h w =
        ap (λ v. run_before v (run_state funs (deepened g s) T t d) (run_arguments funs (deepened_arguments g args) T d)) (is_var_stays _ _ s)
        ∙ ap₂ (run_before (is_var_state s)) (state_same s T t d (omega (arith, h)) (suits_left g n (laters_of s) (laters_in args) w))
        (arguments_same args T d (omega (arith, h)) (suits_right g n (laters_of s) (laters_in args) w))
