-- The contexts of code that isn't reached: beside its values, and of what is held.
use Rattle.std.proofs.Common.{◌≡◌, ◌∙◌, ℕ, Bool, true, false, eqb, if◌then◌else◌, List, [], ◌∷◌, map, refl, ap}
use Rattle.std.specs.Prelude.{Option, Some, None}
use Rattle.stream_type.specs.declared.ty.Ty.{Ty}
use Rattle.stream_type.specs.StreamType.{StreamType}
use Rattle.bunch.specs.declared.name.Name.{Name}
use Rattle.bunch.specs.Facts.{Facts}
use Rattle.hist_value.specs.declared.hist_type.HTy.{HTy}
use Rattle.hist_value.specs.HistType.{HistType, hist_type_of, past}
use Rattle.core_term.specs.CoreTerm.{typed_names_of}
use Rattle.core_term.specs.Typing.{Context}
use Rattle.core_term.specs.TypeFaults.{first_some}
use Rattle.delta_check.specs.Scopes.{given_at, historical_of, facts_given, context_given, with_values}
use Rattle.delta_state.specs.StateTree.{Known, HeldName}
use Rattle.delta_state.specs.StateTyping.{with_known, with_past, marks_held, facts_held, context_held}

-- the names of values, with the types of these
abbrev pub pasts_of : List Known → List (ℕ × HistType)
pasts_of es = map (λ e. (e.name, past e.type)) es

abbrev with_pasts : List (ℕ × HistType) → Context → Context
with_pasts ps c = record { types = c.types; order = c.order; past = λ x. first_some (given_at ps x) (c.past x) }

first_if : (b : Bool) (t : HistType) (o p : Option HistType) → first_some (if b then Some t else o) p ≡ (if b then Some t else first_some o p)
first_if true t o p = refl
first_if false t o p = refl

one_past : (e : Known) (es : List Known) (c : Context) → with_pasts (pasts_of (e ∷ es)) c ≡ with_known e.name e.type (with_pasts (pasts_of es) c)
one_past e es c = λ i. record { types = c.types; order = c.order; past = λ x. first_if (eqb x e.name) (past e.type) (given_at (pasts_of es) x) (c.past x) i }

all_pasts : (es : List Known) (c : Context) → with_pasts (pasts_of es) c ≡ with_past es c
all_pasts [] c = refl
all_pasts (e ∷ es) c = one_past e es c ∙ ap (with_known e.name e.type) (all_pasts es c)

-- a context beside values
pub values_are : (v : List (Name × HTy)) (es : List Known) (c : Context) → historical_of v ≡ pasts_of es → with_values v c ≡ with_past es c
values_are v es c e = ap (λ ps. with_pasts ps c) e ∙ all_pasts es c

-- and beside one value
pub value_is : (x : Name) (h : HTy) (t : StreamType) (c : Context) → hist_type_of h ≡ past t → with_values ((x, h) ∷ []) c ≡ with_known x.0 t c
value_is x h t c e = λ i. record { types = c.types; order = c.order; past = λ y. at y i }
  where
    at : (y : ℕ) → first_some (if eqb y x.0 then Some (hist_type_of h) else None) (c.past y) ≡ (if eqb y x.0 then Some (past t) else c.past y)
    at y = ap (λ u. first_some (if eqb y x.0 then Some u else None) (c.past y)) e ∙ first_if (eqb y x.0) (past t) None (c.past y)

-- the names of which something is held, with the types from before
abbrev pub marks_in : List HeldName → List (ℕ × StreamType)
marks_in held = map (λ h. (h.name, h.type)) held

pub marks_are : (v : List (Name × Ty)) (held : List HeldName) (x : ℕ) → typed_names_of v ≡ marks_in held → given_at (typed_names_of v) x ≡ marks_held held x
marks_are v held x e = ap (λ l. given_at l x) e ∙ go held
  where
    go : (held : List HeldName) → given_at (marks_in held) x ≡ marks_held held x
    go [] = refl
    go (h ∷ held) = ap (λ o. if eqb x h.name then Some h.type else o) (go held)

-- the context of what is held
pub held_is : (vars : List (Name × Ty)) (facts : List (Name × Name)) (held : List HeldName) (order : Facts)
    → ((x : ℕ) → given_at (typed_names_of vars) x ≡ marks_held held x)
    → ((x y : ℕ) → facts_given facts x y ≡ facts_held held order x y)
    → context_given vars (facts_given facts) ≡ context_held held order
held_is vars facts held order h k = λ i. record { types = λ x. h x i; order = λ x y. k x y i; past = λ x. None }
