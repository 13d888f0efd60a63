-- What is known of a let's name is what the free names say.
use mathlib.Core.Path.{fun_ext}
use Rattle.std.proofs.Common.{◌≡◌, ℕ, Bool, true, false, ◌&&◌, List, [], ◌∷◌, ◌++◌, refl, ap, ap₂, sym, subst, ◌∙◌}
use Rattle.std.specs.Prelude.{Option, Some, None, Result, Ok, Err, IfOk, if◌then◌else◌, ◌==◌}
use Rattle.std.proofs.lemmas.Bool.{eqb-true}
use Rattle.bunch.specs.declared.name.Name.{Name}
use Rattle.bunch.specs.Names.{numbers_of}
use Rattle.bunch.specs.Facts.{Facts, before_let, after_let, place_let}
use Rattle.core_term.specs.FreeNames.{once}
use Rattle.core_term.specs.TypeFaults.{first_some}
use Rattle.delta_check.specs.declared.scope.Known.{Known}
use Rattle.delta_check.specs.declared.scope.Placed.{Placed}
use Rattle.delta_check.specs.Scopes.{known_at, before_by, after_by, IsKnown, place_known}
use Rattle.delta_check.proofs.Once.{list_all-once}

-- one more fact at the end
known_at-last : (ks : List Known) (k : Known) (x : ℕ) → known_at (ks ++ k ∷ []) x ≡ first_some (known_at ks x) (if x == k.name.0 then Some k else None)
known_at-last [] k x = refl
known_at-last (l ∷ ks) k x = go (x == l.name.0) (known_at-last ks k x)
  where
    go : (b : Bool) → known_at (ks ++ k ∷ []) x ≡ first_some (known_at ks x) (if x == k.name.0 then Some k else None)
        → (if b then Some l else known_at (ks ++ k ∷ []) x) ≡ first_some (if b then Some l else known_at ks x) (if x == k.name.0 then Some k else None)
    go true h = refl
    go false h = h

-- what is known with one more fact that the free names say
pub known-last : (ks : List Known) (k : Known) (free : List ℕ) (inert : Bool) (before : Facts) → IsKnown ks free inert before
    → k.before ≡ before_let free inert before k.name.0 → k.after ≡ after_let free before k.name.0 → IsKnown (ks ++ k ∷ []) free inert before
known-last ks k free inert before h b a = record {
  knows_before = λ x. ap (λ o. before_by o (before_let free inert before x)) (known_at-last ks k x) ∙ first x (known_at ks x) (h.knows_before x) (x == k.name.0) refl;
  knows_after = λ x. ap (λ o. after_by o (after_let free before x)) (known_at-last ks k x) ∙ second x (known_at ks x) (h.knows_after x) (x == k.name.0) refl;
}
  where
    first : (x : ℕ) (o : Option Known) → before_by o (before_let free inert before x) ≡ before_let free inert before x → (c : Bool) → (x == k.name.0) ≡ c
        → before_by (first_some o (if c then Some k else None)) (before_let free inert before x) ≡ before_let free inert before x
    first x (Some l) e c q = e
    first x None e true q = b ∙ ap (before_let free inert before) (sym (eqb-true x k.name.0 q))
    first x None e false q = e

    second : (x : ℕ) (o : Option Known) → after_by o (after_let free before x) ≡ after_let free before x → (c : Bool) → (x == k.name.0) ≡ c
        → after_by (first_some o (if c then Some k else None)) (after_let free before x) ≡ after_let free before x
    second x (Some l) e c q = e
    second x None e true q = a ∙ ap (after_let free before) (sym (eqb-true x k.name.0 q))
    second x None e false q = e

-- nothing is known at first
pub known-none : (free : List ℕ) (inert : Bool) (before : Facts) → IsKnown [] free inert before
known-none free inert before = record { knows_before = λ a. refl; knows_after = λ b. refl }

pub choose : {A : Type 0} (c : Bool) (a b d e : A) → a ≡ d → b ≡ e → (if c then a else b) ≡ (if c then d else e)
choose true a b d e h k = h
choose false a b d e h k = k

-- the facts with the let's name among them
pub place_known-is : (x : ℕ) (p : Placed) (free : List ℕ) (inert : Bool) (before : Facts) → numbers_of p.free.items ≡ once free → p.inert ≡ inert
    → IsKnown p.known.items (once free) inert before → place_known x p before ≡ place_let x free inert before
place_known-is x p free inert before e i h = fun_ext (λ a. fun_ext (λ b.
    choose (a == x) _ _ _ _
    (choose (b == x) _ _ _ _ refl (ap (λ l. after_by (known_at p.known.items b) (after_let l before b)) e ∙ h.knows_after b ∙ list_all-once (λ z. before z b) free))
    (choose (b == x) _ _ _ _
    (ap₂ (λ l i. before_by (known_at p.known.items a) (before_let l i before a)) e i ∙ h.knows_before a ∙ ap (λ c. inert && c) (list_all-once (λ z. before a z) free))
    refl)))

-- the same of a place that was made
pub placed-is : (x : ℕ) (p : Placed) (names : List Name) (free : List ℕ) (i inert : Bool) (before : Facts) → p.free.items ≡ names → numbers_of names ≡ once free → p.inert ≡ i → i ≡ inert
    → IsKnown p.known.items (numbers_of names) i before → place_known x p before ≡ place_let x free inert before
placed-is x p names free i inert before e f j k h =
    let P : List ℕ → Type 0 = λ l. IsKnown p.known.items l i before in
    let Q : Bool → Type 0 = λ b. IsKnown p.known.items (once free) b before in
    place_known-is x p free inert before (ap numbers_of e ∙ f) (j ∙ k) (subst Q k (subst P f h))

-- what is so of a result's value
pub if_ok-three : {T E : Type 0} (r : Result T E) (P Q R S : T → Type 0) → ((x : T) → P x → Q x → R x → S x) → IfOk r P → IfOk r Q → IfOk r R → IfOk r S
if_ok-three (Ok x) P Q R S f p q r = f x p q r
if_ok-three (Err e) P Q R S f p q r = tt

pub ruleset knowns = (known-none, known-last)
