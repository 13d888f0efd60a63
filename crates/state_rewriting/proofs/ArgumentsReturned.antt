-- The rewriting of a frame whose body is the name of one of its parameters: the argument of that takes its place. The
-- type is kept, and the runs are lighter.
use Rattle.std.proofs.Common.{◌≡◌, ◌≤◌, ◌+◌, ℕ, Bool, true, false, ◌&&◌, ◌||◌, List, [], ◌∷◌, eqb, if◌then◌else◌, ap, ap₂, refl, arith}
use Rattle.std.specs.List.{All}
use Rattle.std.proofs.lemmas.Bool.{or_right}
use Rattle.stream_type.specs.StreamType.{StreamType}
use Rattle.stream_prefix.specs.StreamPrefix.{is_maximal}
use Rattle.core_term.specs.CoreTerm.{CoreBody, fun_at}
use Rattle.core_term.specs.Environment.{Environment, NameTypes}
use Rattle.core_term.specs.Inert.{is_inert_fun}
use Rattle.core_term.specs.Run.{Run, Runs, quiet, frame_run}
use Rattle.core_term.specs.Typing.{Context, IsTypedBody}
use Rattle.core_term.proofs.TypedTerms.{Extends}
use Rattle.core_term.proofs.GrowingRuns.{Streams, Continues}
use Rattle.delta_state.specs.StateTree.{ArgumentTrees, var_state, frame_state, no_arguments, argument_before, is_var_state, argument_at, free_in_state, free_in_arguments}
use Rattle.delta_state.specs.StateMeaning.{run_state, run_arguments}
use Rattle.delta_state.specs.StateTyping.{HasStateType, no_pasts}
use Rattle.delta_state.specs.Settled.{is_settled, are_settled}
use Rattle.state_steps.proofs.NamesAmong.{among_argument}
use Rattle.state_rewriting.specs.Rewriting.{is_plain, stand_once}
use Rattle.state_rewriting.proofs.FittingParts.{served_fewer, Fits}
use Rattle.state_rewriting.proofs.LighterParts.{Lighter, lighter_from, LighterState}
use Rattle.state_rewriting.proofs.BindingsLeftOut.{NoOther, deeper_up}
use Rattle.state_rewriting.proofs.FramesJoined.{argument_typed, argument_settled, out_at, calls_are, level_at, shares}
use Rattle.bunch.proofs.Tests.{and_first}

module _ (funs : List CoreBody) (counts : ℕ → Bool) where
  -- the argument has the type that the parameter has in the body, and is settled
  pub returned_fits : (c : Context) (r : StreamType) (args : ArgumentTrees) (u : ℕ) → HasStateType funs counts c (frame_state args (var_state u)) r → is_settled (frame_state args (var_state u)) r ≡ true → Fits funs counts NoOther c r (frame_state args (var_state u)) (argument_at args u)
  returned_fits c r args u t i = record {
    typed = argument_typed funs counts args c u r t.0 t.1;
    settled = argument_settled funs counts args u r (and_first (are_settled args) true i) t.1;
    free = served_fewer NoOther (free_in_arguments args) (free_in_state (argument_at args u)) (among_argument args u);
  }

-- of no names each argument is passed on once at most,
none_once : (args : ArgumentTrees) → stand_once args [] ≡ true
none_once no_arguments = refl
none_once (argument_before x t s args) = ap₂ ◌&&◌ (or_right (is_plain s) true refl) (none_once args)

-- and so it is of one name
alone_once : (args : ArgumentTrees) (u : ℕ) → stand_once args (u ∷ []) ≡ true
alone_once no_arguments u = refl
alone_once (argument_before x t s args) u = go (eqb u x) (alone_once args u)
  where
    go : (b : Bool) → stand_once args (u ∷ []) ≡ true → ((is_plain s || (if b then true else true)) && stand_once args (if b then [] else u ∷ [])) ≡ true
    go true k = ap₂ ◌&&◌ (or_right (is_plain s) true refl) (none_once args)
    go false k = ap₂ ◌&&◌ (or_right (is_plain s) true refl) k

-- an argument is lighter than the frame that gives just what it gives; v says whether it is a name
given_alone : (v : Bool) (i i' : Runs) (a a' : Run) → a.calls ≤ i.calls → a'.calls + i.calls ≤ i'.calls + a.calls → a.level ≤ i.level → a'.level ≤ i'.level → Lighter false v (frame_run i (quiet a.out)) (frame_run i' (quiet a'.out)) a a'
given_alone v i i' a a' h k l n =
    let up = deeper_up false i.level in
    let next_up = deeper_up false i'.level in
    record {
      out = refl;
      next = refl;
      calls = omega (arith, h);
      rise = omega (arith, k);
      level = omega (arith, l, up);
      next_level = omega (arith, n, next_up);
      shut = λ e. or_right v (is_maximal a.out) e;
      next_shut = λ e. or_right v (is_maximal a'.out) e;
    }

module _ (funs : List CoreBody) (typed : All (IsTypedBody funs) funs) where
  -- so the runs of the argument are lighter
  pub returned_lighter : (r : StreamType) (args : ArgumentTrees) (u : ℕ) → (c : Context) (T : NameTypes) → Extends c T no_pasts → HasStateType funs (is_inert_fun funs) c (frame_state args (var_state u)) r → (d e : Environment) → Streams T d → Continues T d e
      → LighterState funs T r d e (frame_state args (var_state u)) (argument_at args u)
  returned_lighter r args u c T w t d e s g =
      let A = run_arguments (fun_at funs) args T d in
      let A' = run_arguments (fun_at funs) args T e in
      let a = run_state (fun_at funs) (argument_at args u) T r d in
      let a' = run_state (fun_at funs) (argument_at args u) T r e in
      let m = shares funs typed T d e args c w t.0 s g (u ∷ []) (alone_once args u) in
      let mc = m.calls in
      let mr = m.rise in
      let q = calls_are (fun_at funs) T d args u r t.1 in
      let q' = calls_are (fun_at funs) T e args u r t.1 in
      lighter_from (ap (λ p. frame_run A (quiet p)) (out_at (fun_at funs) T d args u r t.1)) (ap (λ p. frame_run A' (quiet p)) (out_at (fun_at funs) T e args u r t.1))
      (given_alone (is_var_state (argument_at args u)) A A' a a' (omega (arith, mc, q)) (omega (arith, mr, q, q')) (level_at (fun_at funs) T d args u r t.1) (level_at (fun_at funs) T e args u r t.1))
