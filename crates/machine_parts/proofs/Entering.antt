-- What a call is, by the body that stands for it.
use Rattle.std.proofs.Common.{◌≡◌, ℕ, zero, suc, ◌-◌, ◌<◌, false, List, [], ◌∷◌, map, refl, sym, ap, ap₂, ◌∙◌, length, ◌≤◌, arith}
use Rattle.std.specs.Prelude.{slice_index_or}
use Rattle.std.proofs.lemmas.Bool.{ltb-false}
use Rattle.stream_type.specs.declared.ty.Ty.{Ty}
use Rattle.stream_type.specs.StreamType.{StreamType, type_of, eps}
use Rattle.stream_prefix.specs.StreamPrefix.{StreamPrefix, eps_emp}
use Rattle.bunch.specs.declared.name.Name.{Name}
use Rattle.bunch.specs.Names.{value_at}
use Rattle.bunch.specs.BunchTree.{leaf_names}
use Rattle.hist_value.specs.HistValue.{HistValue}
use Rattle.core_term.specs.CoreTerm.{CoreBody, typed_names_of, leaf_types, no_body, fun_at, is_there}
use Rattle.core_term.specs.Agreement.{types_in}
use Rattle.core_term.specs.Run.{quiet, one_call}
use Rattle.core_term.specs.Meaning.{run_at, body_run, call_at}
use Rattle.delta_state.specs.StateTree.{Known as KnownName, HeldName, sink}
use Rattle.delta_state.specs.StateMeaning.{past_in, types_held, prefixes_held}
use Rattle.delta_state.specs.Rest.{known_of, rest_at, rest_with, call_rest_at}
use Rattle.machine_parts.specs.Parameters.{bound_to, names_in, types_listed}
use Rattle.machine_parts.proofs.Runs.{call_runs, call_rests}

pub names_typed : (ps : List (Name × Ty)) → map (λ e. e.0) (typed_names_of ps) ≡ names_in ps
names_typed [] = refl
names_typed (p ∷ ps) = ap (λ (l : List ℕ). p.0.0 ∷ l) (names_typed ps)

pub types_typed : (ps : List (Name × Ty)) → map (λ e. e.1) (typed_names_of ps) ≡ types_listed ps
types_typed [] = refl
types_typed (p ∷ ps) = ap (λ (l : List StreamType). type_of p.1 ∷ l) (types_typed ps)

-- the body that stands there, with its parameters bound
module _ (funs : ℕ → CoreBody) (f : ℕ) (b : CoreBody) (params : List (Name × Ty)) (vs : List HistValue) (ps : List StreamPrefix) (held : List HeldName) (past : List KnownName) (is : b ≡ funs f) (names : names_in params ≡ leaf_names b.params) (types : types_listed params ≡ leaf_types b.params) (h : held ≡ bound_to (typed_names_of params) ps) (p : past ≡ known_of b.past vs) where
  all_names : map (λ e. e.0) (typed_names_of params) ≡ leaf_names (funs f).params
  all_names = names_typed params ∙ (names ∙ ap (λ (c : CoreBody). leaf_names c.params) is)

  all_types : map (λ e. e.1) (typed_names_of params) ≡ leaf_types (funs f).params
  all_types = types_typed params ∙ (types ∙ ap (λ (c : CoreBody). leaf_types c.params) is)

  all_known : past ≡ known_of (funs f).past vs
  all_known = p ∙ ap (λ (c : CoreBody). known_of c.past vs) is

  pub enter_runs : (k : ℕ) → 0 < k → call_at funs k f vs ps ≡ one_call (run_at funs (k - 1) (funs f).body (types_held held) (funs f).result (prefixes_held held) (past_in past))
  enter_runs k q =
      call_runs funs f vs ps (typed_names_of params) all_names all_types k q
      ∙ ap₂ (λ (x : List HeldName) (y : List KnownName). one_call (run_at funs (k - 1) (funs f).body (types_held x) (funs f).result (prefixes_held x) (past_in y))) (sym h) (sym all_known)

  pub enter_rests : (k : ℕ) → 0 < k → call_rest_at funs k f vs ps ≡ rest_at funs (k - 1) (funs f).body (types_held held) (funs f).result (prefixes_held held) past
  enter_rests k q =
      call_rests funs f vs ps (typed_names_of params) all_names all_types k q
      ∙ ap₂ (λ (x : List HeldName) (y : List KnownName). rest_at funs (k - 1) (funs f).body (types_held x) (funs f).result (prefixes_held x) y) (sym h) (sym all_known)

-- a body that isn't there, and at least one call
pub missing_runs : (funs : ℕ → CoreBody) (f k : ℕ) (vs : List HistValue) (ps : List StreamPrefix) → funs f ≡ no_body → 0 < k → call_at funs k f vs ps ≡ one_call (quiet eps_emp)
unfolding call_at
missing_runs funs f zero vs ps e h = absurd (omega (arith, h))
missing_runs funs f (suc k) vs ps e h = ap (λ (b : CoreBody). one_call (body_run funs (call_at funs k) b vs ps)) e

pub missing_rests : (funs : ℕ → CoreBody) (f k : ℕ) (vs : List HistValue) (ps : List StreamPrefix) → funs f ≡ no_body → 0 < k → call_rest_at funs k f vs ps ≡ sink (eps)
unfolding call_rest_at
missing_rests funs f zero vs ps e h = absurd (omega (arith, h))
missing_rests funs f (suc k) vs ps e h = ap (λ (b : CoreBody). rest_with funs k (call_rest_at funs k) b.body (types_in b.params) b.result (value_at eps_emp (leaf_names b.params) ps) (known_of b.past vs)) e

pub one_at_least : (funs : ℕ → CoreBody) (f k : ℕ) (vs : List HistValue) (ps : List StreamPrefix) → 0 < k → 0 < (call_at funs k f vs ps).calls
unfolding call_at
one_at_least funs f zero vs ps h = absurd (omega (arith, h))
one_at_least funs f (suc k) vs ps h = omega arith

not_there : (l : List CoreBody) (f : ℕ) → length l ≤ f → slice_index_or l f no_body ≡ no_body
not_there [] f h = refl
not_there (b ∷ l) zero h = absurd (omega (arith, h))
not_there (b ∷ l) (suc f) h = not_there l f (omega (arith, h))

-- what stands where no function is
pub missing_is : (l : List CoreBody) (f : ℕ) → is_there l f ≡ false → fun_at l f ≡ no_body
missing_is l f e = let h : length l ≤ f = ltb-false f (length l) e in not_there l f h
