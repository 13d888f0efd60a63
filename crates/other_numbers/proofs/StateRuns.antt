-- States on other numbers: a state runs the same way, and asks the same, with those numbers.
use Rattle.std.proofs.Common.{◌≡◌, ◌∙◌, ℕ, ℤ, map, ap, refl, sym, subst}
use Rattle.stream_type.specs.StreamType.{StreamType}
use Rattle.stream_prefix.specs.StreamPrefix.{StreamPrefix, eps_emp, is_maximal}
use Rattle.bunch.specs.Names.{put, value_at}
use Rattle.hist_value.specs.Wholes.{value_of}
use Rattle.core_term.specs.CoreTerm.{CoreBody}
use Rattle.core_term.specs.Environment.{Environment, NameTypes}
use Rattle.core_term.specs.Parts.{par_left, par_right, cat_first, cat_second, sum_left, sum_right, star_item, star_items}
use Rattle.core_term.specs.Run.{Run, Runs, let_run, run_before}
use Rattle.delta_state.specs.StateTree.{LaterTree, StateTree, ArgumentTrees, sink, var_state, par_state, cat_state, let_state, let_par_state, let_cat_state, sum_state, star_state, wait_state, frame_state, no_arguments, argument_before, is_var_state, argument_names}
use Rattle.delta_state.specs.StateMeaning.{past_in, knowing, types_held, with_held, types_of_arguments, run_later, run_sum, run_star, run_wait, run_state, run_arguments}
use Rattle.mapped_states.proofs.MappedForms.{is_var_stays, types_of_arguments_stay}
use Rattle.other_numbers.specs.Numbers.{exchanged}
use Rattle.other_numbers.specs.StateNumbers.{exchanged_known, exchanged_held, exchanged_later, exchanged_state, exchanged_arguments}
use Rattle.other_numbers.specs.Asked.{once_whole, sum_asked, star_asked}
use Rattle.other_numbers.specs.StateAsked.{asked_later, asked_of, asked_of_arguments}
use Rattle.other_numbers.specs.Commutes.{AllCommute}
use Rattle.other_numbers.proofs.ValueNumbers.{value_of_goes}
use Rattle.other_numbers.proofs.NameNumbers.{Along, along_put}
use Rattle.other_numbers.proofs.RunNumbers.{Goes, GoAll, quiet_goes, empty_goes, par_goes, cat_goes, let_goes, sum_goes, star_goes, wait_goes, no_runs_go, before_goes, frame_goes}
use Rattle.other_numbers.proofs.TermRuns.{commute_left, commute_right, along_pair, along_row}
use Rattle.other_numbers.proofs.Calls.{deep_term_goes}
use Rattle.other_numbers.proofs.HeldNumbers.{along_known, types_held_stay, along_held, along_arguments}

module _ (f : ℤ → ℤ) (funs : ℕ → CoreBody) where
  -- code once it is reached
  pub later_goes : (l : LaterTree) (T : NameTypes) (r : StreamType) (d d' : Environment) → Along (exchanged f) d d' → AllCommute f (asked_later funs l T r d)
      → Goes f (run_later funs l T r d) (run_later funs (exchanged_later f l) T r d') (asked_later funs l T r d) (asked_later funs (exchanged_later f l) T r d')
  later_goes l T r d d' h q = deep_term_goes f funs l.depth l.term T r d d' (past_in l.past) (past_in (map (exchanged_known f) l.past)) h (along_known f l.past) q

  -- code after a wait, whose subject is whole
  pub known_later_goes : (x : ℕ) (t : StreamType) (u u' : StreamPrefix) → u' ≡ exchanged f u → (l : LaterTree) (T : NameTypes) (r : StreamType) (d d' : Environment) → Along (exchanged f) d d'
      → AllCommute f (asked_later funs (knowing x t (value_of u) l) T r d)
      → Goes f (run_later funs (knowing x t (value_of u) l) T r d) (run_later funs (knowing x t (value_of u') (exchanged_later f l)) T r d')
      (asked_later funs (knowing x t (value_of u) l) T r d) (asked_later funs (knowing x t (value_of u') (exchanged_later f l)) T r d')
  known_later_goes x t u u' e l T r d d' h q =
      subst (λ v. Goes f (run_later funs (knowing x t (value_of u) l) T r d) (run_later funs (knowing x t v (exchanged_later f l)) T r d')
      (asked_later funs (knowing x t (value_of u) l) T r d) (asked_later funs (knowing x t v (exchanged_later f l)) T r d')) (sym (ap value_of e ∙ value_of_goes f u))
      (later_goes (knowing x t (value_of u) l) T r d d' h q)

  mutual
    pub state_goes : (s : StateTree) (T : NameTypes) (r : StreamType) (d d' : Environment) → Along (exchanged f) d d' → AllCommute f (asked_of funs s T r d)
        → Goes f (run_state funs s T r d) (run_state funs (exchanged_state f s) T r d') (asked_of funs s T r d) (asked_of funs (exchanged_state f s) T r d')
    state_goes (sink t) T r d d' h q = empty_goes f t
    state_goes (var_state x) T r d d' h q = quiet_goes f (d x) (d' x) (h.at x)
    state_goes (par_state a b) T r d d' h q =
        let first = asked_of funs a T (par_left r) d in
        let second = asked_of funs b T (par_right r) d in
        par_goes f (state_goes a T (par_left r) d d' h (commute_left f first second q)) (state_goes b T (par_right r) d d' h (commute_right f first second q))
    state_goes (cat_state a l) T r d d' h q =
        let first = asked_of funs a T (cat_first r) d in
        let second = once_whole (is_maximal (run_state funs a T (cat_first r) d).out) (asked_later funs l T (cat_second r) d) in
        cat_goes f _ _ _ _ _ _ _ _ (state_goes a T (cat_first r) d d' h (commute_left f first second q)) (later_goes l T (cat_second r) d d' h) (commute_right f first second q)
    state_goes (let_state x s a b) T r d d' h q =
        let first = asked_of funs a T s d in
        let second = asked_of funs b (put x s T) r (put x (run_state funs a T s d).out d) in
        let head = state_goes a T s d d' h (commute_left f first second q) in
        let body = state_goes b (put x s T) r (put x (run_state funs a T s d).out d) (put x (run_state funs (exchanged_state f a) T s d').out d')
        (along_put (exchanged f) x (run_state funs a T s d).out (run_state funs (exchanged_state f a) T s d').out d d' (ap (λ (u : Run). u.out) head.same_run) h) (commute_right f first second q) in
        let whole = let_goes f (is_var_state a) head body in
        record { same_run = ap (λ w. let_run w (run_state funs (exchanged_state f a) T s d') (run_state funs (exchanged_state f b) (put x s T) r (put x (run_state funs (exchanged_state f a) T s d').out d'))) (is_var_stays _ _ a) ∙ whole.same_run; same_asks = whole.same_asks }
    state_goes (let_par_state x y z a) T r d d' h q = state_goes a _ r _ _ (along_pair f x y z d d' h) q
    state_goes (let_cat_state x y z a) T r d d' h q = state_goes a _ r _ _ (along_row f x y z (cat_second (T z)) d d' h) q
    state_goes (sum_state z t held x l y m) T r d d' h q =
        let e = with_held held d in
        let e' = with_held (map (exchanged_held f) held) d' in
        let i = along_held f held d d' h in
        let asks = λ (B : NameTypes) (c : Environment) (l m : LaterTree). sum_asked (c z) (λ p. asked_later funs l (put x (sum_left (B z)) B) r (put x p c)) (λ p. asked_later funs m (put y (sum_right (B z)) B) r (put y p c)) in
        let B = types_held held in
        subst (λ B'. Goes f (run_sum funs z x l y m B r e) (run_sum funs z x (exchanged_later f l) y (exchanged_later f m) B' r e') (asks B e l m) (asks B' e' (exchanged_later f l) (exchanged_later f m))) (sym (types_held_stay f held))
        (sum_goes f r (e z) (e' z) (i.at z) _ _ _ _ _ _ _ _
        (λ u. later_goes l (put x (sum_left (B z)) B) r (put x u e) (put x (exchanged f u) e') (along_put (exchanged f) x u (exchanged f u) e e' refl i))
        (λ u. later_goes m (put y (sum_right (B z)) B) r (put y u e) (put y (exchanged f u) e') (along_put (exchanged f) y u (exchanged f u) e e' refl i)) q)
    state_goes (star_state z t held l y ys m) T r d d' h q =
        let e = with_held held d in
        let e' = with_held (map (exchanged_held f) held) d' in
        let i = along_held f held d d' h in
        let asks = λ (B : NameTypes) (c : Environment) (l m : LaterTree). star_asked (c z) (asked_later funs l B r c) (λ p q. asked_later funs m (put ys (star_items (B z)) (put y (star_item (B z)) B)) r (put ys q (put y p c))) in
        let B = types_held held in
        subst (λ B'. Goes f (run_star funs z l y ys m B r e) (run_star funs z (exchanged_later f l) y ys (exchanged_later f m) B' r e') (asks B e l m) (asks B' e' (exchanged_later f l) (exchanged_later f m))) (sym (types_held_stay f held))
        (star_goes f r (e z) (e' z) (i.at z) _ _ _ _ _ _ _ _ (later_goes l B r e e' i)
        (λ u v. later_goes m (put ys (star_items (B z)) (put y (star_item (B z)) B)) r (put ys v (put y u e)) (put ys (exchanged f v) (put y (exchanged f u) e'))
        (along_put (exchanged f) ys v (exchanged f v) _ _ refl (along_put (exchanged f) y u (exchanged f u) e e' refl i))) q)
    state_goes (wait_state x t held l) T r d d' h q =
        let e = with_held held d in
        let e' = with_held (map (exchanged_held f) held) d' in
        let i = along_held f held d d' h in
        let asks = λ (B : NameTypes) (c : Environment) (l : LaterTree). once_whole (is_maximal (c x)) (asked_later funs (knowing x (B x) (value_of (c x)) l) B r c) in
        let B = types_held held in
        subst (λ B'. Goes f (run_wait funs x l B r e) (run_wait funs x (exchanged_later f l) B' r e') (asks B e l) (asks B' e' (exchanged_later f l))) (sym (types_held_stay f held))
        (wait_goes f r (e x) (e' x) (i.at x) _ _ _ _ (known_later_goes x (B x) (e x) (e' x) (i.at x) l B r e e' i) q)
    state_goes (frame_state args s) T r d d' h q =
        let inside = asked_of_arguments funs args T d in
        let B = types_of_arguments args in
        let e = value_at eps_emp (argument_names args) (run_arguments funs args T d).outs in
        let e' = value_at eps_emp (argument_names (exchanged_arguments f args)) (run_arguments funs (exchanged_arguments f args) T d').outs in
        let body = asked_of funs s B r e in
        let g = arguments_go args T d d' h (commute_left f inside body q) in
        let i = along_arguments f args (run_arguments funs args T d).outs (run_arguments funs (exchanged_arguments f args) T d').outs (ap (λ (u : Runs). u.outs) g.same_runs) in
        frame_goes f g
        (subst (λ B'. Goes f (run_state funs s B r e) (run_state funs (exchanged_state f s) B' r e') (asked_of funs s B r e) (asked_of funs (exchanged_state f s) B' r e')) (sym (types_of_arguments_stay _ _ args))
        (state_goes s B r e e' i (commute_right f inside body q)))

    -- arguments
    pub arguments_go : (args : ArgumentTrees) (T : NameTypes) (d d' : Environment) → Along (exchanged f) d d' → AllCommute f (asked_of_arguments funs args T d)
        → GoAll f (run_arguments funs args T d) (run_arguments funs (exchanged_arguments f args) T d') (asked_of_arguments funs args T d) (asked_of_arguments funs (exchanged_arguments f args) T d')
    arguments_go no_arguments T d d' h q = no_runs_go f
    arguments_go (argument_before x t s args) T d d' h q =
        let first = asked_of funs s T t d in
        let others = asked_of_arguments funs args T d in
        let whole = before_goes f (is_var_state s) (state_goes s T t d d' h (commute_left f first others q)) (arguments_go args T d d' h (commute_right f first others q)) in
        record { same_runs = ap (λ w. run_before w (run_state funs (exchanged_state f s) T t d') (run_arguments funs (exchanged_arguments f args) T d')) (is_var_stays _ _ s) ∙ whole.same_runs; same_asks = whole.same_asks }
