-- The type of a parameter of two bunches: the first bunch that has the name gives it.
use Rattle.std.proofs.Common.{◌≡◌, ℕ, Bool, true, false, ◌||◌, refl, ap, ◌∙◌}
use Rattle.std.specs.Prelude.{Some, None, if◌then◌else◌}
use Rattle.stream_type.specs.StreamType.{StreamType}
use Rattle.bunch.specs.Names.{holds}
use Rattle.bunch.specs.BunchTree.{BunchTree, leaf_names, comma, semi}
use Rattle.bunch.proofs.NameLists.{holds-append}
use Rattle.core_term.specs.Agreement.{types_in}
use Rattle.core_term.specs.TypeFaults.{first_some}
use Rattle.core_term.specs.Params.{param_type}

by_first : (a b : Bool) (s t : StreamType) → (if a || b then Some (if a then s else t) else None) ≡ first_some (if a then Some s else None) (if b then Some t else None)
by_first true b s t = refl
by_first false b s t = refl

pub param_type-comma : (a b : BunchTree) (x : ℕ) → param_type (comma a b) x ≡ first_some (param_type a x) (param_type b x)
param_type-comma a b x =
    ap (λ h. if h then Some (types_in (comma a b) x) else None) (holds-append x (leaf_names a) (leaf_names b)) ∙ by_first (holds x (leaf_names a)) (holds x (leaf_names b)) (types_in a x) (types_in b x)

pub param_type-semi : (a b : BunchTree) (x : ℕ) → param_type (semi a b) x ≡ first_some (param_type a x) (param_type b x)
param_type-semi a b x =
    ap (λ h. if h then Some (types_in (semi a b) x) else None) (holds-append x (leaf_names a) (leaf_names b)) ∙ by_first (holds x (leaf_names a)) (holds x (leaf_names b)) (types_in a x) (types_in b x)

-- for functions over bunches of parameters
pub ruleset param_types = (param_type-comma, param_type-semi)
