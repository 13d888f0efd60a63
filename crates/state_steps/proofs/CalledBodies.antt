-- A called body: its parameters are stream names, and it knows the values that it is called with.
use Rattle.std.proofs.Common.{◌≡◌, ◌∙◌, ℕ, true, List, [], ◌∷◌, ap, refl, Bool, false, eqb, if◌then◌else◌}
use Rattle.std.proofs.lemmas.List.Elements.{All-nil, All-cons}
use Rattle.std.specs.List.{All}
use Rattle.std.specs.Prelude.{Some, None, map}
use Rattle.stream_type.specs.StreamType.{StreamType}
use Rattle.bunch.specs.BunchTree.{leaf_names, stands_before}
use Rattle.bunch.specs.Names.{holds, value_at}
use Rattle.hist_value.specs.HistType.{HistType, past}
use Rattle.hist_value.specs.HistValue.{HistValue, unit_value, HasType as HasValueType}
use Rattle.core_term.specs.Agreement.{types_in}
use Rattle.core_term.specs.CoreTerm.{CoreBody, fun_at, no_body, past_types}
use Rattle.core_term.specs.Inert.{is_inert_fun}
use Rattle.core_term.specs.Typing.{Context, IsTypedBody, HasType, context_of, past_params}
use Rattle.core_term.proofs.Parameters.{PastValues, no_values, value_before}
use Rattle.core_term.proofs.TypedRuns.{at_index, extends_body}
use Rattle.core_term.proofs.TypedTerms.{Extends}
use Rattle.delta_state.specs.Rest.{known_of}
use Rattle.delta_state.specs.StateMeaning.{past_in}
use Rattle.delta_state.specs.StateTyping.{no_pasts, with_past}
use Rattle.state_steps.proofs.KnownNames.{past_types-same, past_order-same}
use Rattle.state_steps.proofs.NarrowedTerms.{narrow}

-- the parameters of a body as stream names
abbrev pub body_context : CoreBody → Context
body_context b = record { types = λ x. if holds x (leaf_names b.params) then Some (types_in b.params x) else None; order = stands_before b.params; past = no_pasts }

-- the types of its parameters extend this context
pub extends_params : (b : CoreBody) → Extends (body_context b) (types_in b.params) no_pasts
extends_params b = record { stream = (extends_body b).stream; historical = λ x h k. k }

-- the values that a body is called with have the names and the types of its historical parameters,
pub known_params : (c : Context) (es : List (ℕ × StreamType)) {vs : List HistValue} → PastValues (map (λ e. e.1) es) vs → (x : ℕ) (h : HistType) → past_params es x ≡ Some h → (with_past (known_of es vs) c).past x ≡ Some h
known_params c [] no_values x h k = absurd (cc k)
known_params c (e ∷ es) (value_before {vs = vs} i j) x h k = go (eqb x e.0) k (known_params c es j x h)
  where
    go : (b : Bool) → (if b then Some (past e.1) else past_params es x) ≡ Some h → (past_params es x ≡ Some h → (with_past (known_of es vs) c).past x ≡ Some h) → (if b then Some (past e.1) else (with_past (known_of es vs) c).past x) ≡ Some h
    go true k f = k
    go false k f = f k

-- have those types as values,
pub values_known : (es : List (ℕ × StreamType)) {vs : List HistValue} → PastValues (map (λ e. e.1) es) vs → All (λ e. HasValueType (past e.type) e.value) (known_of es vs)
values_known [] no_values = All-nil (λ e. HasValueType (past e.type) e.value)
values_known (e ∷ es) (value_before {v = v} {vs = vs} i j) = All-cons (λ e. HasValueType (past e.type) e.value) (record { name = e.0; type = e.1; value = v }) (known_of es vs) i (values_known es j)

-- and are found by those names
pub past_known : (es : List (ℕ × StreamType)) (vs : List HistValue) (x : ℕ) → past_in (known_of es vs) x ≡ value_at unit_value (map (λ e. e.0) es) vs x
past_known [] vs x = refl
past_known (e ∷ es) [] x = refl
past_known (e ∷ es) (v ∷ vs) x = ap (λ w. if eqb x e.0 then v else w) (past_known es vs x)

-- a body is typed in its parameters, with the values that it is called with
pub body_typed : (funs : List CoreBody) → All (IsTypedBody funs) funs → (f : ℕ) (vs : List HistValue) → PastValues (past_types (fun_at funs f)) vs → HasType funs (is_inert_fun funs) (with_past (known_of (fun_at funs f).past vs) (body_context (fun_at funs f))) (fun_at funs f).body (fun_at funs f).result
body_typed funs all_typed f vs h =
    let b = fun_at funs f in
    let es = known_of b.past vs in
    narrow funs (is_inert_fun funs) b.body (context_of b) (with_past es (body_context b)) b.result
    (record {
      types = λ x s i k. ap (λ g. g x) (past_types-same es (body_context b)) ∙ k;
      order = record { at = λ x y i j k. ap (λ g. g x y) (past_order-same es (body_context b)) ∙ k };
      past = known_params (body_context b) b.past h;
    }) (at_index (IsTypedBody funs) no_body funs all_typed refl f)

-- a name with a type in a body's context is one of its parameters
pub param_there : (b : CoreBody) (u : ℕ) (s : StreamType) → (body_context b).types u ≡ Some s → (holds u (leaf_names b.params) ≡ true) × (types_in b.params u ≡ s)
param_there b u s k = go (holds u (leaf_names b.params)) refl k
  where
    go : (h : Bool) → holds u (leaf_names b.params) ≡ h → (if h then Some (types_in b.params u) else None) ≡ Some s → (holds u (leaf_names b.params) ≡ true) × (types_in b.params u ≡ s)
    go true e k = (e, cc k)
    go false e k = absurd (cc k)
