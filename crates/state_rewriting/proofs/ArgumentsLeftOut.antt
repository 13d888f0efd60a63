-- The rewriting of a frame with arguments that aren't used: the type is kept, and the runs are lighter.
use Rattle.std.proofs.Common.{⊎_elim, ◌≡◌, ◌∙◌, ◌≤◌, ℕ, Bool, true, false, ◌&&◌, ◌||◌, List, ◌++◌, eqb, if◌then◌else◌, ap, ap₂, refl, sym, arith}
use Rattle.std.proofs.lemmas.Bool.{eqb-true}
use Rattle.std.specs.Prelude.{Some}
use Rattle.std.specs.List.{All, list_all}
use Rattle.stream_type.specs.StreamType.{StreamType}
use Rattle.stream_prefix.specs.StreamPrefix.{eps_emp, is_maximal}
use Rattle.bunch.specs.Names.{holds, value_at}
use Rattle.bunch.proofs.Tests.{and_first, and_second}
use Rattle.core_term.specs.CoreTerm.{CoreBody, fun_at}
use Rattle.core_term.specs.Environment.{Environment, NameTypes}
use Rattle.core_term.specs.Inert.{is_inert_fun}
use Rattle.core_term.specs.Run.{Run, Runs, run_before, frame_run}
use Rattle.core_term.specs.Typing.{Context, is_before, IsTypedBody}
use Rattle.core_term.proofs.Sides.{holds-left, holds-right, holds-split}
use Rattle.core_term.proofs.TypedTerms.{Extends}
use Rattle.core_term.proofs.GrowingRuns.{Streams, Continues}
use Rattle.core_term.proofs.FreeRuns.{Alike}
use Rattle.core_term.proofs.Retyping.{Among}
use Rattle.delta_state.specs.StateTree.{StateTree, ArgumentTrees, frame_state, no_arguments, argument_before, is_var_state, argument_names, argument_at, free_in_state, free_in_arguments}
use Rattle.delta_state.specs.StateMeaning.{types_of_arguments, run_state, run_arguments}
use Rattle.delta_state.specs.StateTyping.{HasStateType, HaveArgumentTypes, marks_of_arguments, facts_of_arguments, context_of_arguments, no_pasts}
use Rattle.delta_state.specs.Settled.{is_settled, are_settled}
use Rattle.delta_state.proofs.GrowingStates.{state_run_grows}
use Rattle.state_steps.proofs.Seeing.{Sees}
use Rattle.state_steps.proofs.NarrowedStates.{narrow_state}
use Rattle.state_steps.proofs.FreeStateRuns.{state_same}
use Rattle.state_rewriting.specs.Rewriting.{without_argument}
use Rattle.state_rewriting.proofs.OtherNames.{apart_from}
use Rattle.state_rewriting.proofs.FittingParts.{served_fewer, Fits}
use Rattle.state_rewriting.proofs.LighterParts.{lighter_to, CostLess, LighterState, less_frame, less_behind}
use Rattle.state_rewriting.proofs.BindingsLeftOut.{NoOther}

-- at a name y that isn't u, an entry of u doesn't count
passes : {A : Type 0} (x u y : ℕ) (a : A) (f g : A) → eqb y u ≡ false → f ≡ g → eqb x u ≡ true → (if eqb y x then a else f) ≡ g
passes x u y a f g n e k = ap (λ b. if b then a else f) (ap (λ w. eqb y w) (eqb-true x u k) ∙ n) ∙ e

-- an entry that stays is there on both sides
meets : {A : Type 0} (b : Bool) (a : A) (f g : A) → f ≡ g → (if b then a else f) ≡ (if b then a else g)
meets b a f g e = ap (λ h. if b then a else h) e

-- so at other names than u the arguments less those of u have the same parameters,
pub names_without : (u : ℕ) (args : ArgumentTrees) (y : ℕ) → eqb y u ≡ false → holds y (argument_names args) ≡ holds y (argument_names (without_argument u args))
names_without u no_arguments y n = refl
names_without u (argument_before x t s args) y n = go (eqb x u) refl (names_without u args y n)
  where
    go : (b : Bool) → eqb x u ≡ b → holds y (argument_names args) ≡ holds y (argument_names (without_argument u args))
        → (eqb y x || holds y (argument_names args)) ≡ holds y (argument_names (if b then without_argument u args else argument_before x t s (without_argument u args)))
    go true k e = ap (λ c. c || holds y (argument_names args)) (ap (λ w. eqb y w) (eqb-true x u k) ∙ n) ∙ e
    go false k e = ap (λ c. eqb y x || c) e

-- the same types in the context
pub marks_without : (u : ℕ) (args : ArgumentTrees) (y : ℕ) → eqb y u ≡ false → marks_of_arguments args y ≡ marks_of_arguments (without_argument u args) y
marks_without u no_arguments y n = refl
marks_without u (argument_before x t s args) y n = go (eqb x u) refl (marks_without u args y n)
  where
    go : (b : Bool) → eqb x u ≡ b → marks_of_arguments args y ≡ marks_of_arguments (without_argument u args) y
        → (if eqb y x then Some t else marks_of_arguments args y) ≡ marks_of_arguments (if b then without_argument u args else argument_before x t s (without_argument u args)) y
    go true k e = passes x u y (Some t) _ _ n e k
    go false k e = meets (eqb y x) (Some t) _ _ e

-- the same types in the run
types_without : (u : ℕ) (args : ArgumentTrees) (y : ℕ) → eqb y u ≡ false → types_of_arguments args y ≡ types_of_arguments (without_argument u args) y
types_without u no_arguments y n = refl
types_without u (argument_before x t s args) y n = go (eqb x u) refl (types_without u args y n)
  where
    go : (b : Bool) → eqb x u ≡ b → types_of_arguments args y ≡ types_of_arguments (without_argument u args) y
        → (if eqb y x then t else types_of_arguments args y) ≡ types_of_arguments (if b then without_argument u args else argument_before x t s (without_argument u args)) y
    go true k e = passes x u y t _ _ n e k
    go false k e = meets (eqb y x) t _ _ e

-- and the same arguments
pub at_without : (u : ℕ) (args : ArgumentTrees) (y : ℕ) → eqb y u ≡ false → argument_at args y ≡ argument_at (without_argument u args) y
at_without u no_arguments y n = refl
at_without u (argument_before x t s args) y n = go (eqb x u) refl (at_without u args y n)
  where
    go : (b : Bool) → eqb x u ≡ b → argument_at args y ≡ argument_at (without_argument u args) y
        → (if eqb y x then s else argument_at args y) ≡ argument_at (if b then without_argument u args else argument_before x t s (without_argument u args)) y
    go true k e = passes x u y s _ _ n e k
    go false k e = meets (eqb y x) s _ _ e

module _ (funs : ℕ → CoreBody) (T : NameTypes) (d : Environment) where
  -- and give the same
  outs_without : (u : ℕ) (args : ArgumentTrees) (y : ℕ) → eqb y u ≡ false
      → value_at eps_emp (argument_names args) (run_arguments funs args T d).outs y ≡ value_at eps_emp (argument_names (without_argument u args)) (run_arguments funs (without_argument u args) T d).outs y
  outs_without u no_arguments y n = refl
  outs_without u (argument_before x t s args) y n = go (eqb x u) refl (outs_without u args y n)
    where
      go : (b : Bool) → eqb x u ≡ b → value_at eps_emp (argument_names args) (run_arguments funs args T d).outs y ≡ value_at eps_emp (argument_names (without_argument u args)) (run_arguments funs (without_argument u args) T d).outs y
          → (if eqb y x then (run_state funs s T t d).out else value_at eps_emp (argument_names args) (run_arguments funs args T d).outs y)
          ≡ value_at eps_emp (argument_names (if b then without_argument u args else argument_before x t s (without_argument u args))) (run_arguments funs (if b then without_argument u args else argument_before x t s (without_argument u args)) T d).outs y
      go true k e = passes x u y (run_state funs s T t d).out _ _ n e k
      go false k e = meets (eqb y x) (run_state funs s T t d).out _ _ e

-- the free names of fewer arguments are among those of all
free_without : (u : ℕ) (args : ArgumentTrees) → Among (free_in_arguments (without_argument u args)) (free_in_arguments args)
free_without u no_arguments = record { at = λ y m. m }
free_without u (argument_before x t s args) = record { at = λ y m. go y (eqb x u) (free_without u args) m }
  where
    go : (y : ℕ) (b : Bool) → Among (free_in_arguments (without_argument u args)) (free_in_arguments args) → holds y (free_in_arguments (if b then without_argument u args else argument_before x t s (without_argument u args))) ≡ true
        → holds y (free_in_state s ++ free_in_arguments args) ≡ true
    go y true f m = holds-right y (free_in_state s) (free_in_arguments args) (f.at y m)
    go y false f m = ⊎_elim (λ i. holds-left y (free_in_state s) (free_in_arguments args) i) (λ i. holds-right y (free_in_state s) (free_in_arguments args) (f.at y i)) (holds-split y (free_in_state s) (free_in_arguments (without_argument u args)) m)

module _ (funs : List CoreBody) (counts : ℕ → Bool) where
  -- fewer arguments are typed, if all are,
  typed_without : (u : ℕ) (args : ArgumentTrees) (c : Context) → HaveArgumentTypes funs counts c args → HaveArgumentTypes funs counts c (without_argument u args)
  typed_without u no_arguments c h = h
  typed_without u (argument_before x t s args) c h = go (eqb x u) (typed_without u args c h.1)
    where
      go : (b : Bool) → HaveArgumentTypes funs counts c (without_argument u args) → HaveArgumentTypes funs counts c (if b then without_argument u args else argument_before x t s (without_argument u args))
      go true k = k
      go false k = (h.0, k)

  -- and settled
  settled_without : (u : ℕ) (args : ArgumentTrees) → are_settled args ≡ true → are_settled (without_argument u args) ≡ true
  settled_without u no_arguments i = i
  settled_without u (argument_before x t s args) i = go (eqb x u) (settled_without u args (and_second (is_settled s t) (are_settled args) i))
    where
      go : (b : Bool) → are_settled (without_argument u args) ≡ true → are_settled (if b then without_argument u args else argument_before x t s (without_argument u args)) ≡ true
      go true k = k
      go false k = ap₂ ◌&&◌ (and_first (is_settled s t) (are_settled args) i) k

  -- the same facts stand between other names than u
  facts_without : (u : ℕ) (args : ArgumentTrees) (c : Context) (y z : ℕ) → eqb y u ≡ false → eqb z u ≡ false → facts_of_arguments c args y z ≡ facts_of_arguments c (without_argument u args) y z
  facts_without u args c y z n m =
      ap₂ ◌&&◌ (ap₂ ◌&&◌ (names_without u args y n) (names_without u args z m))
      (ap₂ (λ p q. list_all (λ v. list_all (λ w. is_before c v w) (free_in_state q)) (free_in_state p)) (at_without u args y n) (at_without u args z m))

  -- so a body that doesn't use u sees no less
  body_without : (u : ℕ) (args : ArgumentTrees) (c : Context) (xs : List ℕ) → holds u xs ≡ false → Sees xs (context_of_arguments c args) (context_of_arguments c (without_argument u args))
  body_without u args c xs n = record {
    types = λ y s m k. sym (marks_without u args y (apart_from u y xs n m)) ∙ k;
    order = record { at = λ y z my mz h. sym (facts_without u args c y z (apart_from u y xs n my) (apart_from u z xs n mz)) ∙ h };
    past = λ y h k. k;
  }

  -- and the frame fits without the arguments of u
  pub dropped_fits : (c : Context) (r : StreamType) (args : ArgumentTrees) (a : StateTree) (u : ℕ) → holds u (free_in_state a) ≡ false → HasStateType funs counts c (frame_state args a) r → is_settled (frame_state args a) r ≡ true
      → Fits funs counts NoOther c r (frame_state args a) (frame_state (without_argument u args) a)
  dropped_fits c r args a u n t i = record {
    typed = (typed_without u args c t.0, narrow_state funs counts a _ _ r (body_without u args c (free_in_state a) n) t.1);
    settled = ap₂ ◌&&◌ (settled_without u args (and_first (are_settled args) (is_settled a r) i)) (and_second (are_settled args) (is_settled a r) i);
    free = served_fewer NoOther (free_in_arguments args) (free_in_arguments (without_argument u args)) (free_without u args);
  }

-- fewer arguments cost no more
fewer_dropped : {a a' x x' : Runs} (v : Bool) (b b' : Run) → b.calls ≤ b'.calls → CostLess a a' x x' → CostLess (run_before v b a) (run_before v b' a') x x'
fewer_dropped {a = a} {a' = a'} v b b' g h = record {
  calls = omega (arith, h.calls);
  rise = omega (arith, h.rise, g);
  level = omega (arith, h.level);
  next_level = omega (arith, h.next_level);
  shut = λ e. h.shut (and_second (v || is_maximal b.out) a.are_shut e);
  next_shut = λ e. h.next_shut (and_second (v || is_maximal b'.out) a'.are_shut e);
}

module _ (funs : List CoreBody) (typed : All (IsTypedBody funs) funs) where
  -- so arguments less those of u cost no more
  runs_without : (u : ℕ) (args : ArgumentTrees) (c : Context) (T : NameTypes) → Extends c T no_pasts → HaveArgumentTypes funs (is_inert_fun funs) c args → (d e : Environment) → Streams T d → Continues T d e
      → CostLess (run_arguments (fun_at funs) args T d) (run_arguments (fun_at funs) args T e) (run_arguments (fun_at funs) (without_argument u args) T d) (run_arguments (fun_at funs) (without_argument u args) T e)
  runs_without u no_arguments c T w t d e s g = record { calls = omega arith; rise = omega arith; level = omega arith; next_level = omega arith; shut = λ k. k; next_shut = λ k. k }
  runs_without u (argument_before x q a args) c T w t d e s g = go (eqb x u) (runs_without u args c T w t.1 d e s g)
    where
      A : Runs
      A = run_arguments (fun_at funs) args T d

      A' : Runs
      A' = run_arguments (fun_at funs) args T e

      B : Run
      B = run_state (fun_at funs) a T q d

      B' : Run
      B' = run_state (fun_at funs) a T q e

      go : (b : Bool) → CostLess A A' (run_arguments (fun_at funs) (without_argument u args) T d) (run_arguments (fun_at funs) (without_argument u args) T e)
          → CostLess (run_before (is_var_state a) B A) (run_before (is_var_state a) B' A') (run_arguments (fun_at funs) (if b then without_argument u args else argument_before x q a (without_argument u args)) T d)
          (run_arguments (fun_at funs) (if b then without_argument u args else argument_before x q a (without_argument u args)) T e)
      go true h = fewer_dropped (is_var_state a) B B' (state_run_grows funs typed a c T q w t.0 d e s g).calls h
      go false h = less_behind h (is_var_state a) B B'

  -- and a body that doesn't use u has the same of them
  body_alike : (u : ℕ) (args : ArgumentTrees) (a : StateTree) (T : NameTypes) (d : Environment) → holds u (free_in_state a) ≡ false
      → Alike (free_in_state a) (types_of_arguments args) (types_of_arguments (without_argument u args)) (value_at eps_emp (argument_names args) (run_arguments (fun_at funs) args T d).outs)
      (value_at eps_emp (argument_names (without_argument u args)) (run_arguments (fun_at funs) (without_argument u args) T d).outs)
  body_alike u args a T d n = record {
    at = λ y m. let k = apart_from u y (free_in_state a) n m in (types_without u args y k, outs_without (fun_at funs) T d u args y k);
  }

  -- so the runs of the frame without the arguments of u are lighter
  pub dropped_lighter : (r : StreamType) (args : ArgumentTrees) (a : StateTree) (u : ℕ) → holds u (free_in_state a) ≡ false → (c : Context) (T : NameTypes) → Extends c T no_pasts → HasStateType funs (is_inert_fun funs) c (frame_state args a) r → (d e : Environment) → Streams T d → Continues T d e
      → LighterState funs T r d e (frame_state args a) (frame_state (without_argument u args) a)
  dropped_lighter r args a u n c T w t d e s g =
      let X = run_arguments (fun_at funs) (without_argument u args) T d in
      let X' = run_arguments (fun_at funs) (without_argument u args) T e in
      lighter_to (ap (frame_run X) (state_same (fun_at funs) a _ _ r _ _ (body_alike u args a T d n))) (ap (frame_run X') (state_same (fun_at funs) a _ _ r _ _ (body_alike u args a T e n)))
      (less_frame (runs_without u args c T w t.0 d e s g) _ _)
