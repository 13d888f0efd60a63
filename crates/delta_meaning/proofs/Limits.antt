-- Where nothing is wrong with a program, its input's type and its result are within the limits.
use Rattle.std.proofs.Common.{◌≡◌, ℕ, ◌+◌, ◌≤◌, List, [], ◌∷◌, ◌++◌, length, refl, sym, ap₂, subst}
use Rattle.std.proofs.lemmas.Bool.{leb-true}
use Rattle.stream_type.specs.StreamType.{StreamType, par, cat, height_of, size_of}
use Rattle.bunch.specs.BunchTree.{BunchTree, empty, leaf, comma, semi, leaf_names, as_type}
use Rattle.delta_tree.specs.SyntaxTree.{WrittenContext, no_parameters, parameter, side_by_side, in_sequence}
use Rattle.delta_tree.specs.Places.{place_of_type}
use Rattle.delta_meaning.specs.TypeNames.{TypeNames, no_type_names, type_meant, params_meant}
use Rattle.delta_meaning.specs.SourceBody.{names_below_all, functions_of, is_function, main_of}
use Rattle.delta_meaning.specs.NewNames.{new_in_bodies}
use Rattle.delta_meaning.specs.Elaboration.{numbered_params}
use Rattle.delta_meaning.specs.Faults.{Fault, too_tall, too_wide, unless, or_else, where_none, size_faults, unknown_types, type_faults, unknown_in_params, params_faults, declaration_faults}
use Rattle.delta_meaning.specs.Laws.{IsWithinLimits, ElaboratedIsWithinLimits}
use Rattle.delta_meaning.proofs.Keeping.{none_first, none_second, unless_none}
use Rattle.delta_meaning.proofs.WholePrograms.{is_fine}

-- a type that is within the limits
record IsSmall (t : StreamType) : Type 0 where
  height : height_of t ≤ 64
  size : size_of t ≤ 4096

small_of : (at : ℕ) (t : StreamType) → size_faults at t ≡ [] → IsSmall t
small_of at t h = record {
  height = leb-true (height_of t) 64 (unless_none _ (too_tall at) (none_first _ _ h));
  size = leb-true (size_of t) 4096 (unless_none _ (too_wide at) (none_second (unless _ (too_tall at)) _ h));
}

or_else-first : (xs ys : List Fault) → or_else xs ys ≡ [] → xs ≡ []
or_else-first [] ys h = refl
or_else-first (x ∷ xs) ys h = absurd (cc h)

or_else-second : (xs ys : List Fault) → or_else xs ys ≡ [] → ys ≡ []
or_else-second [] ys h = h
or_else-second (x ∷ xs) ys h = absurd (cc h)

where_none-second : (xs ys : List Fault) → xs ≡ [] → where_none xs ys ≡ [] → ys ≡ []
where_none-second [] ys e h = h
where_none-second (x ∷ xs) ys e h = absurd (cc e)

none_joined : (xs ys : List Fault) → xs ≡ [] → ys ≡ [] → xs ++ ys ≡ []
none_joined [] ys e h = h
none_joined (x ∷ xs) ys e h = absurd (cc e)

-- where nothing is wrong with the types of parameters they hold no unknown name
known_params : (names : TypeNames) (w : WrittenContext) → params_faults names w ≡ [] → unknown_in_params names w ≡ []
known_params names no_parameters h = refl
known_params names (parameter x t) h = or_else-first (unknown_types names t) _ h
known_params names (side_by_side a b) h =
    none_joined (unknown_in_params names a) _ (known_params names a (none_first (params_faults names a) _ h)) (known_params names b (none_second (params_faults names a) _ h))
known_params names (in_sequence a b) h =
    none_joined (unknown_in_params names a) _ (known_params names a (none_first (params_faults names a) _ h)) (known_params names b (none_second (params_faults names a) _ h))

-- numbers for names leave the type as it is
pub as_type-numbered : (b : BunchTree) (m : ℕ) → as_type (numbered_params b m) ≡ as_type b
as_type-numbered empty m = refl
as_type-numbered (leaf x t) m = refl
as_type-numbered (comma a b) m = ap₂ par (as_type-numbered a m) (as_type-numbered b (m + length (leaf_names a)))
as_type-numbered (semi a b) m = ap₂ cat (as_type-numbered a m) (as_type-numbered b (m + length (leaf_names a)))

pub elaborated_is_within_limits : ElaboratedIsWithinLimits
elaborated_is_within_limits p c h =
    let e = is_fine p c h in
    let is_there = is_function (functions_of p) in
    let names = names_below_all no_type_names p.declarations in
    let wrong = none_second (declaration_faults is_there no_type_names p.declarations) _ e.fine in
    let input = where_none (unknown_in_params names p.main.context) (size_faults p.main.at (as_type (params_meant names p.main.context))) in
    let function = none_second input _ wrong in
    let params = none_first (params_faults names p.main.context) _ function in
    let result = none_first (type_faults names p.main.result) _ (none_second (params_faults names p.main.context) _ function) in
    let there = small_of p.main.at (as_type (params_meant names p.main.context)) (where_none-second (unknown_in_params names p.main.context) _ (known_params names p.main.context params) (none_first input _ wrong)) in
    let given = small_of (place_of_type p.main.result) (type_meant names p.main.result) (or_else-second (unknown_types names p.main.result) _ result) in
    let same = sym (as_type-numbered (main_of p).params (length (new_in_bodies (functions_of p)) + 0)) in
    let small = subst IsSmall same there in
    subst IsWithinLimits e.is (record { input_height = small.height; input_size = small.size; result_height = given.height; result_size = given.size })
