-- Where the types that are left and the marks fit together, test by test.
use Rattle.std.proofs.Common.{◌≡◌, ◌∙◌, ℕ, Bool, true, false, true≢false, ◌||◌, if◌then◌else◌, List, ap, refl, sym}
use Rattle.std.specs.Prelude.{Some, None, IsTrue, ◌↔◌, option_map, ◌==◌}
use Rattle.std.specs.List.{list_all}
use Rattle.stream_type.specs.StreamType.{StreamType, eps, null_of}
use Rattle.bunch.specs.Names.{holds}
use Rattle.bunch.specs.BunchTree.{BunchTree, leaf_names}
use Rattle.core_term.specs.Agreement.{types_in}
use Rattle.core_term.specs.Environment.{NameTypes}
use Rattle.core_term.specs.Parts.{is_same_type}
use Rattle.core_term.proofs.Causes.{is_same_type-true, is_same_type-same}
use Rattle.core_term.proofs.Sides.{all-holds, holds-all}
use Rattle.kept_state.specs.KeptPlace.{IsOver, IsUncut, IsUntouched}
use Rattle.delta_check.proofs.Arguments.{types_in-none}

-- a test of two types tells whether they are the same
pub same_told : (r : Bool) (s t : StreamType) → (IsTrue r ↔ (s ≡ t)) → r ≡ is_same_type s t
same_told true s t h = sym (ap (is_same_type s) (sym (h.0 refl)) ∙ is_same_type-same s)
same_told false s t h = go (is_same_type s t) refl
  where
    go : (b : Bool) → is_same_type s t ≡ b → false ≡ is_same_type s t
    go true e = absurd (true≢false (sym (h.1 (is_same_type-true s t e))))
    go false e = sym e

-- all names of a bunch are over where each of them is, and more is asked of its parts
pub over_then : (b r : Bool) (a : BunchTree) (types : NameTypes) (P Q : Type 0) → b ≡ list_all (λ x. null_of (types x)) (leaf_names a) → b ≡ true → (IsTrue r ↔ (P × Q)) → IsTrue r ↔ (IsOver a types × P × Q)
over_then b r a types P Q e h k = (λ i. (all-holds (λ x. null_of (types x)) (leaf_names a) (sym e ∙ h), (k.0 i).0, (k.0 i).1), λ p. k.1 (p.1, p.2))

pub over_else : (b : Bool) (a : BunchTree) (types : NameTypes) (P Q : Type 0) → b ≡ list_all (λ x. null_of (types x)) (leaf_names a) → b ≡ false → IsTrue b ↔ (IsOver a types × P × Q)
over_else b a types P Q e h = (λ i. absurd (true≢false (sym i ∙ h)), λ p. e ∙ holds-all (λ x. null_of (types x)) (leaf_names a) p.0)

-- two parts are so where the first is and the second is, and they aren't where the first isn't
pub both_then : (b r : Bool) (P Q : Type 0) → (IsTrue b ↔ P) → b ≡ true → (IsTrue r ↔ Q) → IsTrue r ↔ (P × Q)
both_then b r P Q h e k = (λ i. (h.0 e, k.0 i), λ p. k.1 p.1)

pub both_else : (b : Bool) (P Q : Type 0) → (IsTrue b ↔ P) → b ≡ false → IsTrue b ↔ (P × Q)
both_else b P Q h e = (λ i. absurd (true≢false (sym i ∙ e)), λ p. h.1 p.0)

-- a bunch is untouched where each name has its type, and no mark has come
abbrev AreDeclared : BunchTree → NameTypes → Bool
AreDeclared a types = list_all (λ x. is_same_type (types x) (types_in a x)) (leaf_names a)

declared_told : (a : BunchTree) (types : NameTypes) → AreDeclared a types ≡ true → (x : ℕ) → holds x (leaf_names a) ≡ true → types x ≡ types_in a x
declared_told a types e x m = is_same_type-true (types x) (types_in a x) (all-holds (λ y. is_same_type (types y) (types_in a y)) (leaf_names a) e x m)

all_declared : (a : BunchTree) (types : NameTypes) → ((x : ℕ) → holds x (leaf_names a) ≡ true → types x ≡ types_in a x) → AreDeclared a types ≡ true
all_declared a types h = holds-all (λ y. is_same_type (types y) (types_in a y)) (leaf_names a) (λ x m. ap (is_same_type (types x)) (sym (h x m)) ∙ is_same_type-same (types x))

pub untouched_then : (b d : Bool) (a : BunchTree) (types : NameTypes) (cuts : List Bool) → b ≡ AreDeclared a types → b ≡ true → (IsTrue d ↔ IsUncut a cuts) → IsTrue d ↔ IsUntouched a types cuts
untouched_then b d a types cuts e h k = (λ i. record { are_declared = declared_told a types (sym e ∙ h); are_uncut = k.0 i }, λ u. k.1 u.are_uncut)

pub untouched_else : (b : Bool) (a : BunchTree) (types : NameTypes) (cuts : List Bool) → b ≡ AreDeclared a types → b ≡ false → IsTrue b ↔ IsUntouched a types cuts
untouched_else b a types cuts e h = (λ i. absurd (true≢false (sym i ∙ h)), λ u. e ∙ all_declared a types u.are_declared)

-- a name that isn't in a bunch has no type there
second : (c d : Bool) (s t : StreamType) → (c || d) ≡ false → (d ≡ false → t ≡ eps) → (if c then s else t) ≡ eps
second true d s t h f = absurd (true≢false h)
second false d s t h f = f h

-- where nothing is told of it, it has none
pub undeclared : {A : Type 0} (b : BunchTree) (x : ℕ) (f : A → StreamType) → option_map f None ≡ (if holds x (leaf_names b) then Some (types_in b x) else None) → types_in b x ≡ eps
undeclared b x f h = go (holds x (leaf_names b)) refl h
  where
    go : (c : Bool) → holds x (leaf_names b) ≡ c → option_map f None ≡ (if c then Some (types_in b x) else None) → types_in b x ≡ eps
    go true e i = absurd (cc i)
    go false e i = types_in-none b x e

-- and what is told is its type
pub declared : {A : Type 0} (b : BunchTree) (x : ℕ) (f : A → StreamType) (a : A) → option_map f (Some a) ≡ (if holds x (leaf_names b) then Some (types_in b x) else None) → f a ≡ types_in b x
declared b x f a h = go (holds x (leaf_names b)) h
  where
    go : (c : Bool) → option_map f (Some a) ≡ (if c then Some (types_in b x) else None) → f a ≡ types_in b x
    go true i = cc i
    go false i = absurd (cc i)
