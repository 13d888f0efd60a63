-- What is left of calls, of code and of states on other numbers.
use Rattle.std.proofs.Common.{◌≡◌, ◌∙◌, ℕ, zero, suc, ℤ, List, [], ◌∷◌, map, eqb, if◌then◌else◌, ap, ap₂, refl, sym, subst}
use Rattle.stream_type.specs.StreamType.{StreamType}
use Rattle.stream_prefix.specs.StreamPrefix.{eps_emp, is_maximal, der}
use Rattle.bunch.specs.Names.{put, value_at}
use Rattle.bunch.specs.BunchTree.{leaf_names}
use Rattle.hist_value.specs.HistValue.{HistValue, unit_value}
use Rattle.hist_value.specs.Wholes.{value_of}
use Rattle.core_term.specs.CoreTerm.{CoreBody, past_names}
use Rattle.core_term.specs.Environment.{Environment, NameTypes}
use Rattle.core_term.specs.Agreement.{types_in}
use Rattle.core_term.specs.Parts.{par_left, par_right, cat_first, cat_second, sum_left, sum_right, star_item, star_items}
use Rattle.core_term.specs.Run.{Run, Runs}
use Rattle.core_term.specs.Meaning.{Past, call_at}
use Rattle.delta_state.specs.StateTree.{LaterTree, StateTree, ArgumentTrees, sink, var_state, par_state, cat_state, let_state, let_par_state, let_cat_state, sum_state, star_state, wait_state, frame_state, no_arguments, argument_before, argument_names}
use Rattle.delta_state.specs.StateMeaning.{past_in, knowing, types_held, with_held, types_of_arguments, run_state, run_arguments}
use Rattle.delta_state.specs.Rest.{held_more, known_of, sum_rest, star_rest_state, call_rest_at, rest_with, rest_later, rest_of, rest_of_arguments}
use Rattle.mapped_states.proofs.MappedForms.{types_of_arguments_stay}
use Rattle.other_numbers.specs.Numbers.{exchanged}
use Rattle.other_numbers.specs.StateNumbers.{exchanged_held, exchanged_later, exchanged_state, exchanged_arguments}
use Rattle.other_numbers.specs.Asked.{once_whole, asked_with, call_asked_at}
use Rattle.other_numbers.specs.StateAsked.{asked_later, asked_of, asked_of_arguments}
use Rattle.other_numbers.specs.Commutes.{AllCommute}
use Rattle.other_numbers.proofs.PrefixNumbers.{maximal_stays}
use Rattle.other_numbers.proofs.ValueNumbers.{value_of_goes}
use Rattle.other_numbers.proofs.NameNumbers.{Along, along_put}
use Rattle.other_numbers.proofs.TermRuns.{commute_left, commute_right, along_pair, along_row}
use Rattle.other_numbers.proofs.Calls.{along_params}
use Rattle.other_numbers.proofs.HeldNumbers.{known_of_goes, types_held_stay, along_held, held_more_goes, along_arguments}
use Rattle.other_numbers.proofs.StateRuns.{state_goes, arguments_go}
use Rattle.other_numbers.proofs.TermRests.{CallsLeave, term_rest_goes, whole_rest_goes, run_leaves, cut_goes, sum_rest_goes, star_rest_goes}

-- the historical parameters of a body have the values that it is called with
known_values : (es : List (ℕ × StreamType)) (vs : List HistValue) (x : ℕ) → past_in (known_of es vs) x ≡ value_at unit_value (map (λ e. e.0) es) vs x
known_values [] vs x = refl
known_values (e ∷ es) [] x = refl
known_values (e ∷ es) (v ∷ vs) x = ap (λ w. if eqb x e.0 then v else w) (known_values es vs x)

module _ (f : ℤ → ℤ) (funs : ℕ → CoreBody) where
  -- what calls leave at each depth
  pub calls_leave_at : (k : ℕ) → CallsLeave f funs k (call_rest_at funs k)
  unfolding call_asked_at call_rest_at
  calls_leave_at zero = record { goes = λ j vs ps h. refl }
  calls_leave_at (suc k) = record {
    goes = λ j vs ps h.
        let b = funs j in
        let T = types_in b.params in
        let d = value_at eps_emp (leaf_names b.params) ps in
        let d' = value_at eps_emp (leaf_names b.params) (map (exchanged f) ps) in
        let same : past_in (known_of b.past vs) ≡ value_at unit_value (past_names b) vs = λ i x. known_values b.past vs x i in
        ap (rest_with funs k (call_rest_at funs k) b.body T b.result d') (known_of_goes f b.past vs)
        ∙ term_rest_goes f funs k (call_rest_at funs k) (calls_leave_at k) b.body T b.result d d' (known_of b.past vs) (along_params f (leaf_names b.params) ps)
        (subst (λ (p : Past). AllCommute f (asked_with funs (call_at funs k) (call_asked_at funs k) b.body T b.result d p)) (sym same) h);
  }

  -- what is left of code once it is reached
  pub later_rest_goes : (l : LaterTree) (T : NameTypes) (r : StreamType) (d d' : Environment) → Along (exchanged f) d d' → AllCommute f (asked_later funs l T r d)
      → rest_later funs (exchanged_later f l) T r d' ≡ exchanged_state f (rest_later funs l T r d)
  later_rest_goes l T r d d' h q = term_rest_goes f funs l.depth (call_rest_at funs l.depth) (calls_leave_at l.depth) l.term T r d d' l.past h q

  mutual
    -- what is left of a state
    pub state_rest_goes : (s : StateTree) (T : NameTypes) (r : StreamType) (d d' : Environment) → Along (exchanged f) d d' → AllCommute f (asked_of funs s T r d)
        → rest_of funs (exchanged_state f s) T r d' ≡ exchanged_state f (rest_of funs s T r d)
    state_rest_goes (sink t) T r d d' h q = refl
    state_rest_goes (var_state x) T r d d' h q = refl
    state_rest_goes (par_state a b) T r d d' h q =
        let first = asked_of funs a T (par_left r) d in
        let second = asked_of funs b T (par_right r) d in
        ap₂ par_state (state_rest_goes a T (par_left r) d d' h (commute_left f first second q)) (state_rest_goes b T (par_right r) d d' h (commute_right f first second q))
    state_rest_goes (cat_state a l) T r d d' h q =
        let u = (run_state funs a T (cat_first r) d).out in
        let first = asked_of funs a T (cat_first r) d in
        let second = asked_later funs l T (cat_second r) d in
        let i = state_goes f funs a T (cat_first r) d d' h (commute_left f first (once_whole (is_maximal u) second) q) in
        whole_rest_goes f (is_maximal u) _ (ap (λ (v : Run). is_maximal v.out) i.same_run ∙ maximal_stays f u) second (commute_right f first (once_whole (is_maximal u) second) q) _ _ _ _
        (later_rest_goes l T (cat_second r) d d' h)
        (ap (λ v. cat_state v (exchanged_later f l)) (state_rest_goes a T (cat_first r) d d' h (commute_left f first (once_whole (is_maximal u) second) q)))
    state_rest_goes (let_state x s a b) T r d d' h q =
        let u = (run_state funs a T s d).out in
        let u' = (run_state funs (exchanged_state f a) T s d').out in
        let first = asked_of funs a T s d in
        let second = asked_of funs b (put x s T) r (put x u d) in
        let i = state_goes f funs a T s d d' h (commute_left f first second q) in
        let head = state_rest_goes a T s d d' h (commute_left f first second q) in
        let body = state_rest_goes b (put x s T) r (put x u d) (put x u' d') (along_put (exchanged f) x u u' d d' (ap (λ (v : Run). v.out) i.same_run) h) (commute_right f first second q) in
        ap₂ (λ t v. let_state x t v (rest_of funs (exchanged_state f b) (put x s T) r (put x u' d'))) (run_leaves f s i) head ∙ ap (let_state x (der u s) (exchanged_state f (rest_of funs a T s d))) body
    state_rest_goes (let_par_state x y z a) T r d d' h q = ap (let_par_state x y z) (state_rest_goes a _ r _ _ (along_pair f x y z d d' h) q)
    state_rest_goes (let_cat_state x y z a) T r d d' h q = cut_goes f x y z (T z) (d z) (d' z) (h.at z) _ _ (state_rest_goes a _ r _ _ (along_row f x y z (cat_second (T z)) d d' h) q)
    state_rest_goes (sum_state z t held x l y m) T r d d' h q =
        let e = with_held held d in
        let e' = with_held (map (exchanged_held f) held) d' in
        let i = along_held f held d d' h in
        let B = types_held held in
        ap (λ (B' : NameTypes). sum_rest z x y (B' z) (e' z) (sum_state z t (held_more (map (exchanged_held f) held) d') x (exchanged_later f l) y (exchanged_later f m))
        (λ p. rest_later funs (exchanged_later f l) (put x (sum_left (B' z)) B') r (put x p e')) (λ p. rest_later funs (exchanged_later f m) (put y (sum_right (B' z)) B') r (put y p e'))) (types_held_stay f held)
        ∙ sum_rest_goes f z x y (B z) (e z) (e' z) (i.at z) _ _ _ _ _ _ _ _
        (ap (λ ns. sum_state z t ns x (exchanged_later f l) y (exchanged_later f m)) (held_more_goes f held d d' h))
        (λ u. later_rest_goes l (put x (sum_left (B z)) B) r (put x u e) (put x (exchanged f u) e') (along_put (exchanged f) x u (exchanged f u) e e' refl i))
        (λ u. later_rest_goes m (put y (sum_right (B z)) B) r (put y u e) (put y (exchanged f u) e') (along_put (exchanged f) y u (exchanged f u) e e' refl i)) q
    state_rest_goes (star_state z t held l y ys m) T r d d' h q =
        let e = with_held held d in
        let e' = with_held (map (exchanged_held f) held) d' in
        let i = along_held f held d d' h in
        let B = types_held held in
        ap (λ (B' : NameTypes). star_rest_state z y ys (B' z) (e' z) (star_state z t (held_more (map (exchanged_held f) held) d') (exchanged_later f l) y ys (exchanged_later f m))
        (rest_later funs (exchanged_later f l) B' r e') (λ p v. rest_later funs (exchanged_later f m) (put ys (star_items (B' z)) (put y (star_item (B' z)) B')) r (put ys v (put y p e')))) (types_held_stay f held)
        ∙ star_rest_goes f z y ys (B z) (e z) (e' z) (i.at z) _ _ _ _ _ _ _ _
        (ap (λ ns. star_state z t ns (exchanged_later f l) y ys (exchanged_later f m)) (held_more_goes f held d d' h))
        (later_rest_goes l B r e e' i)
        (λ u v. later_rest_goes m (put ys (star_items (B z)) (put y (star_item (B z)) B)) r (put ys v (put y u e)) (put ys (exchanged f v) (put y (exchanged f u) e'))
        (along_put (exchanged f) ys v (exchanged f v) _ _ refl (along_put (exchanged f) y u (exchanged f u) e e' refl i))) q
    state_rest_goes (wait_state x t held l) T r d d' h q =
        let e = with_held held d in
        let e' = with_held (map (exchanged_held f) held) d' in
        let i = along_held f held d d' h in
        let B = types_held held in
        let known = knowing x (B x) (value_of (e x)) l in
        ap (λ (B' : NameTypes). if is_maximal (e' x) then rest_later funs (knowing x (B' x) (value_of (e' x)) (exchanged_later f l)) B' r e' else wait_state x t (held_more (map (exchanged_held f) held) d') (exchanged_later f l)) (types_held_stay f held)
        ∙ whole_rest_goes f (is_maximal (e x)) (is_maximal (e' x)) (ap is_maximal (i.at x) ∙ maximal_stays f (e x)) (asked_later funs known B r e) q _ _ _ _
        (λ g. ap (λ v. rest_later funs (knowing x (B x) v (exchanged_later f l)) B r e') (ap value_of (i.at x) ∙ value_of_goes f (e x)) ∙ later_rest_goes known B r e e' i g)
        (ap (λ ns. wait_state x t ns (exchanged_later f l)) (held_more_goes f held d d' h))
    state_rest_goes (frame_state args s) T r d d' h q =
        let inside = asked_of_arguments funs args T d in
        let B = types_of_arguments args in
        let e = value_at eps_emp (argument_names args) (run_arguments funs args T d).outs in
        let e' = value_at eps_emp (argument_names (exchanged_arguments f args)) (run_arguments funs (exchanged_arguments f args) T d').outs in
        let body = asked_of funs s B r e in
        let g = arguments_go f funs args T d d' h (commute_left f inside body q) in
        let i = along_arguments f args (run_arguments funs args T d).outs (run_arguments funs (exchanged_arguments f args) T d').outs (ap (λ (u : Runs). u.outs) g.same_runs) in
        ap₂ frame_state (arguments_rest_go args T d d' h (commute_left f inside body q))
        (ap (λ B'. rest_of funs (exchanged_state f s) B' r e') (types_of_arguments_stay _ _ args) ∙ state_rest_goes s B r e e' i (commute_right f inside body q))

    -- what is left of arguments
    pub arguments_rest_go : (args : ArgumentTrees) (T : NameTypes) (d d' : Environment) → Along (exchanged f) d d' → AllCommute f (asked_of_arguments funs args T d)
        → rest_of_arguments funs (exchanged_arguments f args) T d' ≡ exchanged_arguments f (rest_of_arguments funs args T d)
    arguments_rest_go no_arguments T d d' h q = refl
    arguments_rest_go (argument_before x t s args) T d d' h q =
        let first = asked_of funs s T t d in
        let others = asked_of_arguments funs args T d in
        let i = state_goes f funs s T t d d' h (commute_left f first others q) in
        ap₂ (λ u v. argument_before x u v (rest_of_arguments funs (exchanged_arguments f args) T d')) (run_leaves f t i) (state_rest_goes s T t d d' h (commute_left f first others q))
        ∙ ap (argument_before x (der (run_state funs s T t d).out t) (exchanged_state f (rest_of funs s T t d))) (arguments_rest_go args T d d' h (commute_right f first others q))
