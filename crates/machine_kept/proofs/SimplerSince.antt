-- What stands for a kept state still does after any number of rewritings.
use Rattle.std.proofs.Common.{◌≡◌, ◌∙◌, ℕ, Bool, true, false, if◌then◌else◌, ap, refl, subst, sym, arith}
use Rattle.std.specs.Prelude.{Some, None, unwrap_or}
use Rattle.stream_type.specs.StreamType.{StreamType, eps}
use Rattle.stream_prefix.specs.StreamPrefix.{StreamPrefix, IsPrefix, IsPart, der, join}
use Rattle.stream_prefix.proofs.Derivations.{Derives, derives, is_prefix}
use Rattle.stream_prefix.proofs.Joins.{der-emp}
use Rattle.bunch.specs.Names.{holds}
use Rattle.bunch.specs.BunchTree.{leaf_names}
use Rattle.bunch.proofs.Tables.{value_at-none}
use Rattle.core_term.specs.CoreTerm.{CoreProgram, fun_at}
use Rattle.core_term.specs.Environment.{NameTypes, empty_at}
use Rattle.core_term.specs.Typing.{types_of}
use Rattle.core_term.specs.Split.{split}
use Rattle.core_term.proofs.GrowingRuns.{continues_same}
use Rattle.delta_state.specs.StateTree.{StateTree}
use Rattle.delta_state.specs.StateMeaning.{run_state}
use Rattle.delta_state.specs.Laws.{IsTypedState}
use Rattle.state_steps.specs.Laws.{IsRunnable}
use Rattle.state_steps.proofs.SplitInputs.{IsSplit, after_is_part}
use Rattle.state_steps.proofs.SourceSteps.{le_trans, pred_le}
use Rattle.state_rewriting.specs.Rewriting.{Simpler, SimplerBy, as_it_is, one_more}
use Rattle.state_rewriting.specs.Laws.{IsSettledOf, KeepsRun}
use Rattle.state_rewriting.proofs.SimplerStates.{simpler_keeps_type, simpler_keeps_run, simpler_keeps_depth}
use Rattle.kept_state.specs.KeptTree.{KeptTree}
use Rattle.kept_state.specs.KeptPlace.{rest_bunch, context_over}
use Rattle.kept_state.specs.KeptTyping.{types_kept}
use Rattle.kept_state.specs.KeptMeaning.{input_kept, mean_kept, split_kept, split_kept_after, types_since, output_since, rest_run_kept, StandsForKept}
use Rattle.kept_state.proofs.RestBunches.{outside, rest_names}
use Rattle.kept_state.proofs.RestSplits.{rest_is_split}

-- a name that isn't one of main's parameters has no type left,
pub kept_outside : (c : CoreProgram) (k : KeptTree) (x : ℕ) → holds x (leaf_names c.main.params) ≡ false → types_kept c k x ≡ eps
kept_outside c k x n = value_at-none eps (leaf_names c.main.params) k.ins x n

module _ (c : CoreProgram) (k : KeptTree) (p : StreamPrefix) where
  -- nor has it after p,
  since_outside : (x : ℕ) → holds x (leaf_names c.main.params) ≡ false → types_since c k p x ≡ eps
  since_outside x n =
      ap (λ i. der (if i then split (rest_bunch c.main.params (types_kept c k) k.cuts) p x else empty_at (types_kept c k) x) (types_kept c k x)) (outside (rest_names c.main.params (types_kept c k) k.cuts) x n)
      ∙ (der-emp (types_kept c k x) ∙ kept_outside c k x n)

  -- so the context has the types that are left
  context_types : types_of (context_over c.main.params (types_since c k p)) ≡ types_since c k p
  context_types = λ i x. at x (holds x (leaf_names c.main.params)) refl i
    where
      at : (x : ℕ) (b : Bool) → holds x (leaf_names c.main.params) ≡ b → types_of (context_over c.main.params (types_since c k p)) x ≡ types_since c k p x
      at x true m = ap (λ i. unwrap_or (if i then Some (types_since c k p x) else None) eps) m
      at x false m = ap (λ i. unwrap_or (if i then Some (types_since c k p x) else None) eps) m ∙ sym (since_outside x m)

module _ (c : CoreProgram) (runnable : IsRunnable c) (k : KeptTree) (n : ℕ) (p : StreamPrefix) (h : Derives (input_kept c k) p) where
  -- its input is split over the names of main's parameters
  is_split : IsSplit (input_kept c k) (types_kept c k) (split_kept c k) (split_kept_after c k)
  is_split = rest_is_split c.main.params (types_kept c k) k.cuts

  -- so it does after one rewriting
  once : (a b : StateTree) → StandsForKept c k n p a → Simpler (output_since c k p) a b → StandsForKept c k n p b
  once a b st s =
      record {
        is_typed = kept.typed;
        settled = kept.settled;
        is_deep = simpler_keeps_depth (output_since c k p) a b n s st.is_deep;
        gives_rest = λ q i. st.gives_rest q i ∙ ap (join (mean_kept c k p)) (sym (at q q i (same q i)).same);
        calls_rest = λ q i. let j = st.calls_rest q i in let l = (at q q i (same q i)).calls in omega (arith, j, l);
        calls_rise = λ q r i m. let j = st.calls_rise q r i m in let l = (at q (join q r) i (more q r i m)).rise in omega (arith, j, l);
        levels_below = λ q i. le_trans _ _ _ (pred_le _ _ (at q q i (same q i)).level) (st.levels_below q i);
      }
    where
      typed : IsTypedState c.funs (context_over c.main.params (types_since c k p)) a (output_since c k p)
      typed = record { funs_typed = runnable.is_typed.funs_typed; none_past = λ x. refl; state_typed = st.is_typed }

      kept : IsSettledOf c.funs (context_over c.main.params (types_since c k p)) (output_since c k p) b
      kept = simpler_keeps_type c.funs (context_over c.main.params (types_since c k p)) (output_since c k p) a b typed st.settled s

      -- what comes on the names after p,
      comes : (q : StreamPrefix) → IsPrefix (der p (input_kept c k)) q → (x : ℕ) → Derives (types_since c k p x) (split_kept_after c k p q x)
      comes q i x = is_split.after_derives h (derives (der p (input_kept c k)) q i) x

      -- nothing more of it
      same : (q : StreamPrefix) → IsPrefix (der p (input_kept c k)) q → (x : ℕ) → IsPart (types_since c k p x) (split_kept_after c k p q x) (split_kept_after c k p q x)
      same q i x = (continues_same (types_since c k p) (split_kept_after c k p q) (record { at = comes q i })).at x

      -- and more
      more : (q r : StreamPrefix) → IsPrefix (der p (input_kept c k)) q → IsPrefix (der q (der p (input_kept c k))) r → (x : ℕ) → IsPart (types_since c k p x) (split_kept_after c k p q x) (split_kept_after c k p (join q r) x)
      more q r i m x = after_is_part is_split h (derives (der p (input_kept c k)) q i) (derives (der q (der p (input_kept c k))) r m) x

      -- on both the simpler state gives the same, and costs no more
      at : (q w : StreamPrefix) → IsPrefix (der p (input_kept c k)) q → ((x : ℕ) → IsPart (types_since c k p x) (split_kept_after c k p q x) (split_kept_after c k p w x))
          → KeepsRun (rest_run_kept c k p a q) (rest_run_kept c k p a w) (rest_run_kept c k p b q) (rest_run_kept c k p b w)
      at q w i g =
          let F = fun_at c.funs in
          let r = output_since c k p in
          let d = split_kept_after c k p q in
          let e = split_kept_after c k p w in
          let C = context_over c.main.params (types_since c k p) in
          let types = context_types c k p in
          subst (λ (T : NameTypes). KeepsRun (run_state F a T r d) (run_state F a T r e) (run_state F b T r d) (run_state F b T r e)) types
          (simpler_keeps_run c.funs C r a b d e typed s (λ x. subst (λ (T : NameTypes). IsPrefix (T x) (d x)) (sym types) (is_prefix (comes q i x))) (λ x. subst (λ (T : NameTypes). IsPart (T x) (d x) (e x)) (sym types) (g x)))

  -- and after any number of them; the type left is kept as a variable
  often : {r : StreamType} {a b : StateTree} → SimplerBy r a b → r ≡ output_since c k p → StandsForKept c k n p a → StandsForKept c k n p b
  often as_it_is e st = st
  often (one_more {b = b} {e = q} l i) e st = once b q (often l e st) (subst (λ r. Simpler r b q) e i)

  pub simpler_stands_since : (a b : StateTree) → StandsForKept c k n p a → SimplerBy (output_since c k p) a b → StandsForKept c k n p b
  simpler_stands_since a b st s = often s refl st
