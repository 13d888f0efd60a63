-- The limits of a type that stands at a place, and where a written type stands.
use Rattle.std.proofs.Common.{◌≡◌, ◌≤◌, ◌<◌, ℕ, Bool, true, false, ◌++◌, Some, None, refl, ap, ap₂, arith}
use Rattle.std.proofs.lemmas.Bool.{leb-true, le-leb}
use Rattle.std.specs.Prelude.{nat_le}
use Rattle.stream_type.specs.StreamType.{StreamType, height_of, size_of}
use Rattle.delta_tree.specs.declared.types.TyExp.{TyExp}
use Rattle.delta_tree.specs.declared.types.TyForm.{TyForm}
use Rattle.delta_tree.specs.declared.types.TyForm.TheVariants as types
use Rattle.delta_tree.specs.Tree.{type_form_of, type_tree_of}
use Rattle.delta_tree.specs.Places.{place_of_type}
use Rattle.delta_meaning.specs.Faults.{too_tall, too_wide, unless, size_faults}
use Rattle.delta_elab.specs.FirstFault.{to_say}

-- a form stands at its place
place_of_type-form : (at : ℕ) (form : TyForm) → place_of_type (type_form_of at form) ≡ at
place_of_type-form at types.Eps = refl
place_of_type-form at types.One = refl
place_of_type-form at types.Int = refl
place_of_type-form at (types.Named x) = refl
place_of_type-form at (types.Cat' k p a l q b) = refl
place_of_type-form at (types.Par' k p a l q b) = refl
place_of_type-form at (types.Sum' k p a l q b) = refl
place_of_type-form at (types.Star' k p a) = refl

-- a written type stands at its place
pub place_of_type-tree : (t : TyExp) → place_of_type (type_tree_of t) ≡ t.at
place_of_type-tree t = place_of_type-form t.at t.form.value

le-false : (a b : ℕ) → b < a → nat_le a b ≡ false
le-false a b lt = go (nat_le a b) refl
  where
    go : (c : Bool) → nat_le a b ≡ c → nat_le a b ≡ false
    go true e = absurd (omega (arith, leb-true a b e, lt))
    go false e = e

-- a type that is too high is too tall, whatever its size
pub size_faults-tall : (at : ℕ) (t : StreamType) → nat_le (height_of t) 64 ≡ false → to_say (size_faults at t) ≡ Some (Some (too_tall at))
size_faults-tall at t h = ap (λ b. to_say (unless b (too_tall at) ++ unless (nat_le (size_of t) 4096) (too_wide at))) h

-- one that is low and too large is too wide
pub size_faults-wide : (at : ℕ) (t : StreamType) → nat_le (height_of t) 64 ≡ true → 4096 < size_of t → to_say (size_faults at t) ≡ Some (Some (too_wide at))
size_faults-wide at t h lt = ap₂ (λ b c. to_say (unless b (too_tall at) ++ unless c (too_wide at))) h (le-false (size_of t) 4096 lt)

-- and one that is low and small is fine
pub size_faults-fine : (at : ℕ) (t : StreamType) → nat_le (height_of t) 64 ≡ true → size_of t ≤ 4096 → to_say (size_faults at t) ≡ None
size_faults-fine at t h le = ap₂ (λ b c. to_say (unless b (too_tall at) ++ unless c (too_wide at))) h (le-leb (size_of t) 4096 le)

pub ruleset sizes = (place_of_type-tree, size_faults-tall, size_faults-wide, size_faults-fine)
