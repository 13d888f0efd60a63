-- What is left of states at other depths: where these suit the calls that a state makes, what was left, at those.
use Rattle.std.proofs.Common.{◌≡◌, ◌∙◌, ℕ, ◌≤◌, List, [], ◌∷◌, arith, ap, ap₂, refl}
use Rattle.stream_type.specs.StreamType.{StreamType}
use Rattle.stream_prefix.specs.StreamPrefix.{eps_emp, is_maximal, der}
use Rattle.bunch.specs.Names.{put, value_at}
use Rattle.hist_value.specs.Wholes.{value_of}
use Rattle.core_term.specs.CoreTerm.{CoreBody}
use Rattle.core_term.specs.Environment.{Environment, NameTypes}
use Rattle.core_term.specs.Parts.{par_left, par_right, cat_first, cat_second, sum_left, sum_right, star_item, star_items}
use Rattle.core_term.specs.Run.{Run, Runs}
use Rattle.core_term.proofs.WholeRuns.{cat_calls_first}
use Rattle.delta_state.specs.StateTree.{LaterTree, StateTree, ArgumentTrees, sink, var_state, par_state, cat_state, let_state, let_par_state, let_cat_state, sum_state, star_state, wait_state, frame_state, no_arguments, argument_before, argument_names, laters_of, laters_in}
use Rattle.delta_state.specs.StateMeaning.{knowing, types_held, with_held, types_of_arguments, run_later, run_state, run_arguments}
use Rattle.delta_state.specs.Rest.{rest_later, rest_of, rest_of_arguments}
use Rattle.mapped_states.proofs.MappedForms.{argument_names_stay, types_of_arguments_stay}
use Rattle.other_depths.specs.Depths.{deepened_later, deepened, deepened_arguments}
use Rattle.other_depths.specs.Suits.{SuitsAt, Suits}
use Rattle.other_depths.proofs.SameRests.{SameRest, cat_rest_same, wait_rest_same, cut_same, sum_rest_same, star_rest_same}
use Rattle.other_depths.proofs.TermRests.{rest_same_at}
use Rattle.other_depths.proofs.StateRuns.{SuitArguments, suits_left, suits_right, suits_first, suits_second, suits_last, state_same, arguments_same}

module _ (g : ℕ → ℕ) (n : ℕ) (funs : ℕ → CoreBody) where
  -- code once it is reached
  pub later_rest_same : (l : LaterTree) (T : NameTypes) (r : StreamType) (d : Environment) → SuitsAt g n l.depth → SameRest g n (run_later funs l T r d) (rest_later funs l T r d) (rest_later funs (deepened_later g l) T r d)
  later_rest_same l T r d w = record { same = rest_same_at g funs n l.depth w l.term T r d l.past }

  mutual
    pub state_rest_same : (s : StateTree) (T : NameTypes) (r : StreamType) (d : Environment) → (run_state funs s T r d).calls ≤ n → Suits g n s → rest_of funs (deepened g s) T r d ≡ deepened g (rest_of funs s T r d)
    state_rest_same (sink t) T r d h w = refl
    state_rest_same (var_state x) T r d h w = refl
    state_rest_same (par_state a b) T r d h w =
        ap₂ par_state (state_rest_same a T (par_left r) d (omega (arith, h)) (suits_left g n (laters_of a) (laters_of b) w))
        (state_rest_same b T (par_right r) d (omega (arith, h)) (suits_right g n (laters_of a) (laters_of b) w))
    state_rest_same (cat_state a l) T r d h w =
        let first = run_state funs a T (cat_first r) d in
        let second = run_later funs l T (cat_second r) d in
        let i = cat_calls_first first second n h in
        let v = suits_left g n (laters_of a) (l ∷ []) w in
        cat_rest_same g n first _ second (state_same g n funs a T (cat_first r) d i v) h _ _ _ _ (later_rest_same l T (cat_second r) d (suits_last g n (laters_of a) l w))
        (ap (λ s. cat_state s (deepened_later g l)) (state_rest_same a T (cat_first r) d i v))
    state_rest_same (let_state x s a b) T r d h w =
        let u = run_state funs a T s d in
        let v = suits_left g n (laters_of a) (laters_of b) w in
        ap₂ (λ (u : Run) c. let_state x (der u.out s) c (rest_of funs (deepened g b) (put x s T) r (put x u.out d))) (state_same g n funs a T s d (omega (arith, h)) v) (state_rest_same a T s d (omega (arith, h)) v)
        ∙ ap (let_state x (der u.out s) (deepened g (rest_of funs a T s d))) (state_rest_same b (put x s T) r (put x u.out d) (omega (arith, h)) (suits_right g n (laters_of a) (laters_of b) w))
    state_rest_same (let_par_state x y z a) T r d h w = ap (let_par_state x y z) (state_rest_same a _ r _ h w)
    state_rest_same (let_cat_state x y z a) T r d h w = cut_same g n x y z (T z) (d z) _ _ (state_rest_same a _ r _ h w)
    state_rest_same (sum_state z t held x l y m) T r d h w =
        let B = types_held held in
        let e = with_held held d in
        sum_rest_same g n z x y (B z) r (e z) (λ u. run_later funs l (put x (sum_left (B z)) B) r (put x u e)) (λ u. run_later funs m (put y (sum_right (B z)) B) r (put y u e)) h _ _ _ _ _ _ refl
        (λ u. later_rest_same l (put x (sum_left (B z)) B) r (put x u e) (suits_first g n l (m ∷ []) w))
        (λ u. later_rest_same m (put y (sum_right (B z)) B) r (put y u e) (suits_second g n l m w))
    state_rest_same (star_state z t held l y ys m) T r d h w =
        let B = types_held held in
        let e = with_held held d in
        star_rest_same g n z y ys (B z) r (e z) (run_later funs l B r e) (λ u v. run_later funs m (put ys (star_items (B z)) (put y (star_item (B z)) B)) r (put ys v (put y u e))) h _ _ _ _ _ _ refl
        (later_rest_same l B r e (suits_first g n l (m ∷ []) w))
        (λ u v. later_rest_same m (put ys (star_items (B z)) (put y (star_item (B z)) B)) r (put ys v (put y u e)) (suits_second g n l m w))
    state_rest_same (wait_state x t held l) T r d h w =
        let B = types_held held in
        let e = with_held held d in
        let known = knowing x (B x) (value_of (e x)) l in
        wait_rest_same g n r (is_maximal (e x)) (run_later funs known B r e) h _ _ _ _ (later_rest_same known B r e (suits_first g n l [] w)) refl
    state_rest_same (frame_state args s) T r d h w =
        let B = types_of_arguments args in
        let outs = (run_arguments funs args T d).outs in
        let v = suits_left g n (laters_in args) (laters_of s) w in
        ap₂ frame_state (arguments_rest_same args T d (omega (arith, h)) v)
        (ap (λ (u : Runs). rest_of funs (deepened g s) (types_of_arguments (deepened_arguments g args)) r (value_at eps_emp (argument_names (deepened_arguments g args)) u.outs)) (arguments_same g n funs args T d (omega (arith, h)) v)
        ∙ ap₂ (λ C (us : List ℕ). rest_of funs (deepened g s) C r (value_at eps_emp us outs)) (types_of_arguments_stay _ _ args) (argument_names_stay _ _ args)
        ∙ state_rest_same s B r (value_at eps_emp (argument_names args) outs) (omega (arith, h)) (suits_right g n (laters_in args) (laters_of s) w))

    -- what is left of arguments
    pub arguments_rest_same : (args : ArgumentTrees) (T : NameTypes) (d : Environment) → (run_arguments funs args T d).calls ≤ n → SuitArguments g n args
        → rest_of_arguments funs (deepened_arguments g args) T d ≡ deepened_arguments g (rest_of_arguments funs args T d)
    arguments_rest_same no_arguments T d h w = refl
    arguments_rest_same (argument_before x t s args) T d h w =
        let v = suits_left g n (laters_of s) (laters_in args) w in
        ap₂ (λ (u : Run) c. argument_before x (der u.out t) c (rest_of_arguments funs (deepened_arguments g args) T d)) (state_same g n funs s T t d (omega (arith, h)) v) (state_rest_same s T t d (omega (arith, h)) v)
        ∙ ap (argument_before x (der (run_state funs s T t d).out t) (deepened g (rest_of funs s T t d))) (arguments_rest_same args T d (omega (arith, h)) (suits_right g n (laters_of s) (laters_in args) w))
