-- The first parameter is known by the first value, and those behind it by the others.
use Rattle.std.proofs.Common.{◌≡◌, ◌∙◌, ◌∷◌, [], List, length, map, ap, sym, refl, arith}
use Rattle.std.proofs.lemmas.Result.{IfOk-weaker}
use Rattle.bunch.specs.declared.name.Name.{Name}
use Rattle.stream_type.specs.declared.ty.Ty.{Ty}
use Rattle.stream_type.specs.StreamType.{type_of}
use Rattle.hist_value.specs.declared.history.Value.{Value}
use Rattle.hist_value.specs.HistValue.{HistValue, hist_value_of}
use Rattle.core_term.specs.CoreTerm.{typed_names_of}
use Rattle.delta_state.specs.Rest.{known_of}
use Rattle.template_state.specs.Readers.{known_in}
use Rattle.delta_code.proofs.seeing.+known.Goals as goal

no_names : (xs : List (Name × Ty)) (vs : List HistValue) → length xs ≡ 0 → [] ≡ known_of (typed_names_of xs) vs
no_names [] vs e = refl
no_names (x ∷ xs) vs e = absurd (omega (arith, e))

no_values : (xs : List (Name × Ty)) (vs : List Value) → length vs ≡ 0 → [] ≡ known_of (typed_names_of xs) (map hist_value_of vs)
no_values [] vs e = refl
no_values (x ∷ xs) [] e = refl
no_values (x ∷ xs) (v ∷ vs) e = absurd (omega (arith, e))

one_known : (xs rest : List (Name × Ty)) (x : Name × Ty) (vs others : List Value) (v : Value) → xs ≡ x ∷ rest → vs ≡ v ∷ others
    → record { name = x.0.0; type = type_of x.1; value = hist_value_of v } ∷ known_of (typed_names_of rest) (map hist_value_of others) ≡ known_of (typed_names_of xs) (map hist_value_of vs)
one_known xs rest x vs others v is on = sym (λ j. known_of (typed_names_of (is j)) (map hist_value_of (on j)))

pub returns-in_default : goal.returns-in_default
returns-in_default t c =
    IfOk-weaker c.nothing_known.result _ _ (λ r h. h ∙ no_names c.args.past.now (map hist_value_of c.args.values.now) c.in_default.ensures.cases) c.nothing_known.ensures

pub returns-in_default-split_first : goal.returns-in_default-split_first
returns-in_default-split_first t c =
    IfOk-weaker c.nothing_known-in_default-split_first.result _ _ (λ r h. h ∙ no_values c.args.past.now c.args.values.now c.in_default-split_first.ensures.cases) c.nothing_known-in_default-split_first.ensures

pub returns : goal.returns
returns t c =
    let x = c.in-Some.param.now in
    let same = ap hist_value_of c.in_ok-value.ensures.ok ∙ c.in_ok-v.ensures in
    ap known_in c.in_ok-new.ensures.ok
    ∙ ((λ j. record { name = x.0.0; type = c.in_ok-ty.ensures j; value = same j } ∷ c.in_ok-after.ensures j)
    ∙ one_known c.args.past.now c.in-Some.rest.now x c.args.values.now c.in-Some-split_first.others.now c.in-Some-split_first.first.now c.in-Some.ensures.cases.0 c.in-Some-split_first.ensures.cases.0)

pub known-requires : goal.known-requires
known-requires t c = (omega (arith, c.in-Some.ensures.cases.1, c.decreases), tt)
