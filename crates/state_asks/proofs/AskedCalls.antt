-- What a call asks is what the body that stands there asks, with its parameters bound.
use Rattle.std.proofs.Common.{◌≡◌, ℕ, zero, suc, ◌-◌, ◌<◌, ◌==◌, List, [], sym, ap, ap₂, ◌∙◌, arith}
use Rattle.stream_type.specs.declared.ty.Ty.{Ty}
use Rattle.stream_type.specs.StreamType.{eps}
use Rattle.stream_prefix.specs.StreamPrefix.{StreamPrefix, eps_emp}
use Rattle.bunch.specs.declared.name.Name.{Name}
use Rattle.bunch.specs.Names.{value_at}
use Rattle.bunch.specs.BunchTree.{leaf_names}
use Rattle.hist_value.specs.HistValue.{HistValue, unit_value}
use Rattle.core_term.specs.CoreTerm.{CoreBody, typed_names_of, leaf_types, past_names, no_body}
use Rattle.core_term.specs.Agreement.{types_in}
use Rattle.core_term.specs.Meaning.{call_at}
use Rattle.core_term.proofs.Parameters.{value_at-leaf_types}
use Rattle.delta_state.specs.StateTree.{Known as KnownName, HeldName}
use Rattle.delta_state.specs.StateMeaning.{past_in, types_held, prefixes_held}
use Rattle.delta_state.specs.Rest.{known_of}
use Rattle.machine_parts.specs.Parameters.{bound_to, names_in, types_listed}
use Rattle.machine_parts.proofs.Entering.{names_typed, types_typed}
use Rattle.machine_parts.proofs.Runs.{bound_prefixes, bound_types}
use Rattle.other_numbers.specs.Asked.{asked_at, asked_with, call_asked_at}
use Rattle.state_steps.proofs.CalledBodies.{past_known}

-- the body that stands there, with its parameters bound
module _ (funs : ℕ → CoreBody) (f : ℕ) (b : CoreBody) (params : List (Name × Ty)) (vs : List HistValue) (ps : List StreamPrefix) (held : List HeldName) (past : List KnownName) (is : b ≡ funs f) (names : names_in params ≡ leaf_names b.params) (types : types_listed params ≡ leaf_types b.params) (h : held ≡ bound_to (typed_names_of params) ps) (p : past ≡ known_of b.past vs) where
  all_types : types_held held ≡ types_in (funs f).params
  all_types =
      ap types_held h
      ∙ ((λ i x. (bound_types (typed_names_of params) ps x ∙ (ap₂ (λ n t. value_at eps n t x) (names_typed params ∙ names) (types_typed params ∙ types) ∙ value_at-leaf_types b.params x)) i)
      ∙ ap (λ (c : CoreBody). types_in c.params) is)

  all_prefixes : prefixes_held held ≡ value_at eps_emp (leaf_names (funs f).params) ps
  all_prefixes =
      ap prefixes_held h
      ∙ ((λ i x. (bound_prefixes (typed_names_of params) ps x ∙ ap (λ n. value_at eps_emp n ps x) (names_typed params ∙ names)) i)
      ∙ ap (λ (c : CoreBody). value_at eps_emp (leaf_names c.params) ps) is)

  all_known : past_in past ≡ value_at unit_value (past_names (funs f)) vs
  all_known = ap past_in p ∙ ((λ i x. past_known b.past vs x i) ∙ ap (λ (c : CoreBody). value_at unit_value (past_names c) vs) is)

  pub enter_asks : (k : ℕ) → 0 < k → call_asked_at funs k f vs ps ≡ asked_at funs (k - 1) (funs f).body (types_held held) (funs f).result (prefixes_held held) (past_in past)
  unfolding call_asked_at
  enter_asks zero q = absurd (omega (arith, q))
  enter_asks (suc k) q =
      let e : suc k - 1 ≡ k = omega arith in
      ap (λ n. asked_at funs n (funs f).body (types_in (funs f).params) (funs f).result (value_at eps_emp (leaf_names (funs f).params) ps) (value_at unit_value (past_names (funs f)) vs)) (sym e)
      ∙ (ap (λ T. asked_at funs (suc k - 1) (funs f).body T (funs f).result (value_at eps_emp (leaf_names (funs f).params) ps) (value_at unit_value (past_names (funs f)) vs)) (sym all_types)
      ∙ ap₂ (λ d v. asked_at funs (suc k - 1) (funs f).body (types_held held) (funs f).result d v) (sym all_prefixes) (sym all_known))

-- a function that isn't there asks nothing
pub missing_asks : (funs : ℕ → CoreBody) (f k : ℕ) (vs : List HistValue) (ps : List StreamPrefix) → funs f ≡ no_body → 0 < k → call_asked_at funs k f vs ps ≡ []
unfolding call_asked_at
missing_asks funs f zero vs ps e h = absurd (omega (arith, h))
missing_asks funs f (suc k) vs ps e h =
    ap (λ (b : CoreBody). asked_with funs (call_at funs k) (call_asked_at funs k) b.body (types_in b.params) b.result (value_at eps_emp (leaf_names b.params) ps) (value_at unit_value (past_names b) vs)) e
