-- Where the name of a let is placed, from its free names as they were found.
use mathlib.Core.Path.{fun_ext}
use Rattle.std.proofs.Common.{◌≡◌, ◌∙◌, ℕ, Bool, true, ◌&&◌, List, refl, ap, ap₂}
use Rattle.std.specs.Prelude.{Result, Ok, Err, IfOk, ◌==◌}
use Rattle.std.specs.List.{list_all}
use Rattle.bunch.specs.declared.name.Name.{Name}
use Rattle.bunch.specs.Facts.{Facts, before_let, after_let, place_let}
use Rattle.bunch.specs.Names.{numbers_of}
use Rattle.delta_check.specs.declared.scope.Placed.{Placed}
use Rattle.delta_check.specs.Scopes.{known_at, before_by, after_by, IsKnown, place_known}
use Rattle.delta_check.proofs.Known.{choose}
use Rattle.kept_check.specs.Free.{HasNames}
use Rattle.kept_check.proofs.ParameterFacts.{same_list}

-- what is known says what the free names say
known_placed : (x : ℕ) (p : Placed) (names : List ℕ) (inert : Bool) (before : Facts) → numbers_of p.free.items ≡ names → p.inert ≡ inert → IsKnown p.known.items names inert before
    → place_known x p before ≡ place_let x names inert before
known_placed x p names inert before e i h = fun_ext (λ a. fun_ext (λ b.
    choose (a == x) _ _ _ _
    (choose (b == x) _ _ _ _ refl (ap (λ l. after_by (known_at p.known.items b) (after_let l before b)) e ∙ h.knows_after b))
    (choose (b == x) _ _ _ _ (ap₂ (λ l j. before_by (known_at p.known.items a) (before_let l j before a)) e i ∙ h.knows_before a) refl)))

-- which asks only which names they are
let_same : (x : ℕ) (names free : List ℕ) (inert : Bool) (before : Facts) → ((z : ℕ) → list_all (λ y. before z y) names ≡ list_all (λ y. before z y) free)
    → ((z : ℕ) → list_all (λ y. before y z) names ≡ list_all (λ y. before y z) free) → place_let x names inert before ≡ place_let x free inert before
let_same x names free inert before h k = fun_ext (λ a. fun_ext (λ b.
    choose (a == x) _ _ _ _ (choose (b == x) _ _ _ _ refl (k b)) (choose (b == x) _ _ _ _ (ap (λ c. inert && c) (h a)) refl)))

placed-is : (x : ℕ) (p : Placed) (names : List Name) (free : List ℕ) (before : Facts) → HasNames names free → p.free.items ≡ names → p.inert ≡ true
    → IsKnown p.known.items (numbers_of names) true before → place_known x p before ≡ place_let x free true before
placed-is x p names free before k e i h =
    known_placed x p (numbers_of names) true before (ap numbers_of e) i h
    ∙ let_same x (numbers_of names) free true before (λ z. same_list (λ y. before z y) (numbers_of names) free k) (λ z. same_list (λ y. before y z) (numbers_of names) free k)

-- the same of what was answered
pub placed : {E : Type 0} (r : Result Placed E) (names : List Name) (free : List ℕ) (before : Facts) → HasNames names free → IfOk r (λ p. p.free.items ≡ names) → IfOk r (λ p. p.inert ≡ true)
    → IfOk r (λ p. IsKnown p.known.items (numbers_of names) true before) → IfOk r (λ p. (x : ℕ) → place_known x p before ≡ place_let x free true before)
placed (Ok p) names free before k e i h = λ x. placed-is x p names free before k e i h
placed (Err q) names free before k e i h = tt
