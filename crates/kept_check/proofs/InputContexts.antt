-- The scope of main's parameters, where types are left of them.
use mathlib.Core.Path.{fun_ext}
use Rattle.std.proofs.Common.{◌≡◌, ◌∙◌, ℕ, Bool, true, false, true≢false, ◌||◌, if◌then◌else◌, List, [], ◌∷◌, ◌≤◌, ◌^◌, length, refl, ap, ap₂, sym, subst}
use Rattle.std.specs.Prelude.{Option, Some, None, unwrap_or, ◌==◌, IsTrue, ◌↔◌}
use Rattle.std.proofs.lemmas.List.{length-map}
use Rattle.stream_type.specs.declared.ty.Ty.{Ty}
use Rattle.stream_type.specs.StreamType.{StreamType, type_of, eps, reach_of}
use Rattle.bunch.specs.declared.name.Name.{Name}
use Rattle.bunch.specs.Names.{holds, value_at}
use Rattle.bunch.specs.BunchTree.{leaf_names, stands_before}
use Rattle.bunch.specs.Facts.{Facts}
use Rattle.core_term.specs.Environment.{NameTypes}
use Rattle.core_term.specs.CoreTerm.{CoreProgram, typed_names_of}
use Rattle.core_term.specs.Params.{names_in, types_listed}
use Rattle.core_term.specs.Typing.{Context}
use Rattle.delta_check.specs.Scopes.{given_at, context_given}
use Rattle.delta_state.specs.StateTyping.{no_pasts}
use Rattle.kept_state.specs.KeptTree.{KeptTree}
use Rattle.kept_state.specs.KeptPlace.{semi_count, IsPlace}
use Rattle.kept_state.specs.KeptTyping.{types_kept, context_kept, IsPlaced}
use Rattle.kept_check.specs.Given.{type_given}

given_is : (v : List (Name × Ty)) (x : ℕ) → given_at (typed_names_of v) x ≡ (if holds x (names_in v) then Some (value_at eps (names_in v) (types_listed v) x) else None)
given_is [] x = refl
given_is (p ∷ v) x = go (x == p.0.0) (given_is v x)
  where
    go : (b : Bool) → given_at (typed_names_of v) x ≡ (if holds x (names_in v) then Some (value_at eps (names_in v) (types_listed v) x) else None)
        → (if b then Some (type_of p.1) else given_at (typed_names_of v) x) ≡ (if b || holds x (names_in v) then Some (if b then type_of p.1 else value_at eps (names_in v) (types_listed v) x) else None)
    go true h = refl
    go false h = h

-- a name that isn't there has no type
not_there : (xs : List ℕ) (ts : List StreamType) (x : ℕ) → holds x xs ≡ false → value_at eps xs ts x ≡ eps
not_there [] ts x h = refl
not_there (y ∷ xs) [] x h = refl
not_there (y ∷ xs) (t ∷ ts) x h = go (x == y) (not_there xs ts x) h
  where
    go : (b : Bool) → (holds x xs ≡ false → value_at eps xs ts x ≡ eps) → (b || holds x xs) ≡ false → (if b then t else value_at eps xs ts x) ≡ eps
    go true f i = absurd (true≢false i)
    go false f i = f i

given-value : (v : List (Name × Ty)) (x : ℕ) → type_given v x ≡ value_at eps (names_in v) (types_listed v) x
given-value v x = ap (λ o. unwrap_or o eps) (given_is v x) ∙ go (holds x (names_in v)) refl
  where
    go : (b : Bool) → holds x (names_in v) ≡ b → unwrap_or (if b then Some (value_at eps (names_in v) (types_listed v) x) else None) eps ≡ value_at eps (names_in v) (types_listed v) x
    go true e = refl
    go false e = sym (not_there (names_in v) (types_listed v) x e)

-- the types that are given are those that are left of main's parameters
pub types_are_left : (c : CoreProgram) (k : KeptTree) (v : List (Name × Ty)) → names_in v ≡ leaf_names c.main.params → types_listed v ≡ k.ins → type_given v ≡ types_kept c k
types_are_left c k v e f = fun_ext (λ x. given-value v x ∙ ap₂ (λ xs ts. value_at eps xs ts x) e f)

-- and they make the context of main's parameters
pub input_context : (c : CoreProgram) (k : KeptTree) (v : List (Name × Ty)) (before : Facts) → names_in v ≡ leaf_names c.main.params → types_listed v ≡ k.ins
    → before ≡ stands_before c.main.params → context_given v before ≡ context_kept c k
input_context c k v before e f o =
    let made : (ℕ → Option StreamType) → Facts → Context = λ types order. record { types = types; order = order; past = no_pasts } in
    ap₂ made (fun_ext (λ x. given_is v x ∙ ap₂ (λ xs ts. if holds x xs then Some (value_at eps xs ts x) else None) e f)) o

-- the marks fit to these types
pub marks_fit : (c : CoreProgram) (k : KeptTree) (v : List (Name × Ty)) (r : Bool) → names_in v ≡ leaf_names c.main.params → types_listed v ≡ k.ins → length k.cuts ≡ semi_count c.main.params
    → (IsTrue r ↔ IsPlace c.main.params (type_given v) k.cuts) → IsTrue r ↔ ((length k.cuts ≡ semi_count c.main.params) × IsPlace c.main.params (types_kept c k) k.cuts)
marks_fit c k v r e f n h =
    let P : NameTypes → Type 0 = λ types. IsPlace c.main.params types k.cuts in (
      λ i. (n, subst P (types_are_left c k v e f) (h.0 i)),
      λ p. h.1 (subst P (sym (types_are_left c k v e f)) p.1),
    )

-- all that is asked of the place of a kept state
pub placed_where : (c : CoreProgram) (k : KeptTree) (v : List (Name × Ty)) (r : Bool) → names_in v ≡ leaf_names c.main.params → types_listed v ≡ k.ins
    → ((k.events ≤ 2 ^ 41) × (reach_of k.out ≤ reach_of c.main.result)) → (IsTrue r ↔ ((length k.cuts ≡ semi_count c.main.params) × IsPlace c.main.params (types_kept c k) k.cuts)) → IsTrue r ↔ IsPlaced c k
placed_where c k v r e f w h = (
  λ i. record {
    are_few = w.0;
    reaches = w.1;
    has_types = sym (ap length f) ∙ length-map v (λ p. type_of p.1) ∙ sym (length-map v (λ p. p.0.0)) ∙ ap length e;
    has_cuts = (h.0 i).0;
    is_place = (h.0 i).1;
  },
  λ p. h.1 (p.has_cuts, p.is_place),
)
