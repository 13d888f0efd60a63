-- The names of parameters and of functions don't hang on their types.
use Rattle.std.proofs.Common.{◌≡◌, ℕ, ◌||◌, List, [], ◌∷◌, ◌++◌, map, refl, ap, ap₂}
use Rattle.bunch.specs.BunchTree.{leaf_names}
use Rattle.bunch.specs.Names.{holds}
use Rattle.delta_tree.specs.SyntaxTree.{WrittenType, WrittenContext, no_parameters, parameter, side_by_side, in_sequence, WrittenFunction, Declaration, alias_declared, function_declared, ProgramTree}
use Rattle.delta_meaning.specs.TypeNames.{TypeNames, no_type_names, params_meant, past_meant, names_below}
use Rattle.delta_meaning.specs.SourceBody.{body_meant, functions_among, function_names, functions_of, is_function}
use Rattle.delta_meaning.specs.Faults.{bound_at_first}
use Rattle.delta_elab.specs.Bounds.{written_names, written_past_names, declared_names, is_declared}

-- stream parameters
pub leaf_names-meant : (names : TypeNames) (c : WrittenContext) → leaf_names (params_meant names c) ≡ written_names c
leaf_names-meant names no_parameters = refl
leaf_names-meant names (parameter x t) = refl
leaf_names-meant names (side_by_side a b) = ap₂ (λ xs ys. xs ++ ys) (leaf_names-meant names a) (leaf_names-meant names b)
leaf_names-meant names (in_sequence a b) = ap₂ (λ xs ys. xs ++ ys) (leaf_names-meant names a) (leaf_names-meant names b)

-- historical parameters
pub past_names-meant : (names : TypeNames) (ps : List (ℕ × WrittenType)) → map (λ p. p.0) (past_meant names ps) ≡ written_past_names ps
past_names-meant names [] = refl
past_names-meant names (p ∷ ps) = ap (λ l. p.0 ∷ l) (past_names-meant names ps)

-- the names that are bound in a function at first are those of its written parameters
pub bound_at_first-meant : (names : TypeNames) (f : WrittenFunction)
    → bound_at_first (body_meant names f) ≡ (λ x. holds x (written_names f.context) || holds x (written_past_names f.past))
bound_at_first-meant names f =
    ap₂ (λ xs ys. λ x. holds x xs || holds x ys) (leaf_names-meant names f.context) (past_names-meant names f.past)

-- functions
pub function_names-among : (names : TypeNames) (ds : List Declaration) → function_names (functions_among names ds) ≡ declared_names ds
function_names-among names [] = refl
function_names-among names (alias_declared a ∷ ds) = function_names-among (names_below names (alias_declared a)) ds
function_names-among names (function_declared f ∷ ds) = ap (λ l. f.name ∷ l) (function_names-among names ds)

-- so a function is there where it is declared
pub is_function-declared : (p : ProgramTree) → is_function (functions_of p) ≡ is_declared p.declarations
is_function-declared p = ap (λ l. λ f. holds f l) (function_names-among no_type_names p.declarations)
