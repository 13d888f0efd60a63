-- What a kept state gives, and that nothing comes first.
use Rattle.std.proofs.Common.{◌≡◌, ◌≤◌, ℕ, [], ◌∙◌, ap, sym, subst}
use Rattle.stream_type.specs.StreamType.{reach_of}
use Rattle.stream_prefix.specs.StreamPrefix.{StreamPrefix, IsPart, der, emp, join}
use Rattle.stream_prefix.proofs.Derivations.{Derives, derives, is_prefix}
use Rattle.event_word.specs.Canon.{canon}
use Rattle.event_word.proofs.Spelling.{canon-emp}
use Rattle.event_frame.specs.declared.version.Version.{Version}
use Rattle.event_frame.specs.Frames.{frames}
use Rattle.core_term.specs.CoreTerm.{CoreProgram}
use Rattle.core_term.specs.Inert.{is_inert_fun}
use Rattle.delta_state.specs.StateTyping.{no_pasts}
use Rattle.delta_state.proofs.GrowingStates.{state_run_grows}
use Rattle.delta_state.proofs.SettledStates.{settled_nothing}
use Rattle.delta_session.specs.OneShot.{Grows}
use Rattle.delta_session.specs.Programs.{CanRun}
use Rattle.state_steps.specs.Laws.{IsRunnable}
use Rattle.state_steps.proofs.SourceSteps.{extends_types}
use Rattle.kept_state.specs.KeptTree.{KeptTree}
use Rattle.kept_state.specs.KeptTyping.{IsTypedKept, types_kept, context_kept}
use Rattle.kept_state.specs.KeptMeaning.{input_kept, split_kept, split_kept_after, mean_kept}
use Rattle.kept_state.proofs.RestSplits.{rest_derives, rest_after_derives, rest_empty, rest_join}
use Rattle.kept_state.proofs.KeptSteps.{kept_derives}
use Rattle.delta_runner.specs.KeptOneShot.{one_shot_kept, meaning_since}

module _ (c : CoreProgram) (can : CanRun c) (k : KeptTree) (typed : IsTypedKept c k) where
  -- it runs
  pub runnable : IsRunnable c
  runnable = record { is_core = can.core; is_typed = can.typed }

  -- on more input a kept state gives no less
  pub kept_grows : {p q : StreamPrefix} → Derives (input_kept c k) p → Derives (der p (input_kept c k)) q → IsPart k.out (mean_kept c k p) (mean_kept c k (join p q))
  kept_grows {p = p} {q = q} h i =
      let b = c.main.params in
      let T = types_kept c k in
      (state_run_grows c.funs can.typed.funs_typed k.state (context_kept c k) T k.out (extends_types b T) typed.is_typed (split_kept c k p) (split_kept c k (join p q))
      (record { at = rest_derives b T k.cuts h })
      (record { at = λ x. record { rest = split_kept_after c k p q x; comes = is_prefix (rest_after_derives b T k.cuts h i x); joins = sym (rest_join b T k.cuts h i x) } })).part

  -- what is said since is a prefix of what was left of the output's type, and on more input no less
  pub since_grows : Grows (one_shot_kept c k)
  since_grows = record {
    typed = λ p h. is_prefix (kept_derives c runnable k typed (derives (input_kept c k) p h));
    parts = λ p q h part.
        subst (λ (r : StreamPrefix). IsPart k.out (mean_kept c k p) (mean_kept c k r)) part.joins
        (kept_grows (derives (input_kept c k) p h) (derives _ part.rest part.comes));
  }

  -- which reaches no farther than the program's result
  pub reaches_less : reach_of k.out ≤ reach_of c.main.result
  reaches_less = typed.is_placed.reaches

-- nothing comes first: a settled state gives nothing on nothing
pub first_is_nothing : (v : Version) (budget : ℕ) (c : CoreProgram) (k : KeptTree) → IsTypedKept c k → (meaning_since v budget c k).first ≡ []
first_is_nothing v budget c k typed =
    ap (λ p. frames v (canon p))
    (settled_nothing c.funs (is_inert_fun c.funs) k.state (context_kept c k) (types_kept c k) no_pasts k.out (extends_types c.main.params (types_kept c k)) typed.is_typed typed.settled (split_kept c k (emp (input_kept c k)))
    (record { at = λ x m. ap (λ e. e x) (rest_empty c.main.params (types_kept c k) k.cuts) })).out
    ∙ ap (frames v) (canon-emp k.out)
