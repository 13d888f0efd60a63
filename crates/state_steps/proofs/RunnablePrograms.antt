-- A program that binds its names once and is typed: its bodies bind apart, and its parameters are distinct.
use Rattle.std.proofs.Common.{◌≡◌, ◌∙◌, ◌≢◌, ℕ, List, [], ◌∷◌, refl, sym, Bool, ◌++◌}
use Rattle.std.specs.List.{All}
use Rattle.std.specs.Prelude.{Some, None}
use Rattle.stream_type.specs.StreamType.{StreamType}
use Rattle.stream_prefix.specs.StreamPrefix.{StreamPrefix}
use Rattle.stream_prefix.proofs.Derivations.{Derives, derives, is_prefix}
use Rattle.bunch.specs.BunchTree.{leaf_names, IsDistinct, as_type}
use Rattle.bunch.specs.Facts.{Facts}
use Rattle.core_term.specs.CoreTerm.{CoreBody, fun_at, CoreProgram, no_body, past_names, CoreTerm, CoreTerms}
use Rattle.core_term.specs.Environment.{NameTypes}
use Rattle.core_term.specs.FreeNames.{bound_names}
use Rattle.core_term.specs.Inert.{is_inert_fun}
use Rattle.core_term.specs.Meaning.{mean}
use Rattle.core_term.specs.Typing.{HasType, context_of, past_params}
use Rattle.core_term.proofs.BoundOnce.{distinct_left, distinct_right, distinct_bunch, core_bodies, core_main}
use Rattle.core_term.proofs.TypedRuns.{all_at, mean_is_typed}
use Rattle.core_term.proofs.TypedTerms.{PastTypes, Typed, TypedAll, var_typed, eps_typed, unit_typed, nil_typed, past_typed, par_typed, cat_typed, cons_typed, inl_typed, inr_typed, let_typed, let_par_typed, let_cat_typed, case_sum_typed, case_star_typed, wait_typed, call_typed, none_typed, more_typed}
use Rattle.delta_state.specs.Apart.{BindsApart, BindApart}
use Rattle.state_steps.specs.Laws.{IsRunnable}
use Rattle.state_steps.proofs.FactsWithin.{within_itself}
use Rattle.state_steps.proofs.NarrowedTerms.{narrow}
use Rattle.state_steps.proofs.CalledBodies.{body_context}

module _ (funs : ℕ → CoreBody) (counts : ℕ → Bool) where
  mutual
    -- a derivation in which the first names of parts differ from what they stand beside binds them apart
    pub binds_apart : {T : NameTypes} {O : Facts} {H : PastTypes} {e : CoreTerm} {r : StreamType} → Typed funs counts ◌≢◌ T O H e r → BindsApart e
    binds_apart (var_typed e) = tt
    binds_apart eps_typed = tt
    binds_apart unit_typed = tt
    binds_apart nil_typed = tt
    binds_apart (past_typed g) = tt
    binds_apart (par_typed a b) = (binds_apart a, binds_apart b)
    binds_apart (cat_typed a b o) = (binds_apart a, binds_apart b)
    binds_apart (cons_typed a b o) = (binds_apart a, binds_apart b)
    binds_apart (inl_typed a) = binds_apart a
    binds_apart (inr_typed a) = binds_apart a
    binds_apart (let_typed a b) = (binds_apart a, binds_apart b)
    binds_apart (let_par_typed n e a) = (n, binds_apart a)
    binds_apart (let_cat_typed n m e a) = (record { from_subject = n; from_second = m }, binds_apart a)
    binds_apart (case_sum_typed e a b) = (binds_apart a, binds_apart b)
    binds_apart (case_star_typed n m e a b) = (record { from_subject = n; from_second = m }, binds_apart a, binds_apart b)
    binds_apart (wait_typed n a) = binds_apart a
    binds_apart (call_typed e h as' o) = bind_apart as'

    bind_apart : {T : NameTypes} {O : Facts} {H : PastTypes} {es : CoreTerms} {ts : List StreamType} → TypedAll funs counts ◌≢◌ T O H es ts → BindApart es
    bind_apart none_typed = tt
    bind_apart (more_typed a as') = (binds_apart a, bind_apart as')

module _ (c : CoreProgram) (runnable : IsRunnable c) where
  -- each function binds first names apart,
  pub all_apart : All (λ b. BindsApart b.body) c.funs
  all_apart = all_at (λ b. BindsApart b.body) no_body c.funs (λ f. binds_apart (fun_at c.funs) (is_inert_fun c.funs) ((core_bodies c runnable.is_core runnable.is_typed).body f))

  -- and so does main
  pub main_apart : BindsApart c.main.body
  main_apart = binds_apart (fun_at c.funs) (is_inert_fun c.funs) (core_main c runnable.is_core runnable.is_typed)

  -- the parameters of main are distinct
  pub distinct_params : IsDistinct c.main.params
  distinct_params = distinct_bunch c.main.params (distinct_left (leaf_names c.main.params) (bound_names c.main.body) (distinct_right (past_names c.main) (leaf_names c.main.params ++ bound_names c.main.body) runnable.is_core.main_once.is_once))

  -- what the program gives on a prefix of its input is a prefix of its result
  pub mean_derives : (p : StreamPrefix) → Derives (as_type c.main.params) p → Derives c.main.result (mean c p)
  mean_derives p h = derives c.main.result (mean c p) (mean_is_typed c runnable.is_core runnable.is_typed p (is_prefix h))

  -- main has no historical parameters,
  no_past_params : (ps : List (ℕ × StreamType)) → ps ≡ [] → (x : ℕ) → past_params ps x ≡ None
  no_past_params [] e x = refl
  no_past_params (i ∷ ps) e x = absurd (let no : ⊥ = cc e in no)

  -- so its body is typed in the context of its parameters
  pub main_typed : HasType c.funs (is_inert_fun c.funs) (body_context c.main) c.main.body c.main.result
  main_typed = narrow c.funs (is_inert_fun c.funs) c.main.body (context_of c.main) (body_context c.main) c.main.result
      (record {
        types = λ x s m k. k;
        order = within_itself _ _;
        past = λ x t k. absurd (let clash : None ≡ Some t = sym (no_past_params c.main.past runnable.is_core.main_past x) ∙ k in let no : ⊥ = cc clash in no);
      }) runnable.is_typed.main_typed
