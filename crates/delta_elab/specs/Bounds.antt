-- Which names are bound around an expression, as the program keeps them, and which functions are declared.
use Rattle.std.specs.Prelude.{ℕ, Bool, true, List, [], ◌∷◌, ◌++◌, ◌||◌, map}
use Rattle.bunch.specs.Names.{put, holds}
use Rattle.delta_tree.specs.SyntaxTree.{WrittenContext, no_parameters, parameter, side_by_side, in_sequence, WrittenType, Declaration, alias_declared, function_declared}
use Rattle.delta_tree.specs.Tree.{context_of, past_of}
use Rattle.delta_elab.specs.declared.bound.Bound.{Bound}
use Rattle.delta_elab.specs.declared.bound.Bound.TheVariants.{Params, Name'}

-- the names of written parameters, from left to right
abbrev pub written_names : WrittenContext → List ℕ
written_names no_parameters = []
written_names (parameter x t) = x ∷ []
written_names (side_by_side a b) = written_names a ++ written_names b
written_names (in_sequence a b) = written_names a ++ written_names b

-- the names of written historical parameters
abbrev pub written_past_names : List (ℕ × WrittenType) → List ℕ
written_past_names ps = map (λ p. p.0) ps

-- which names are bound
abbrev pub bound_in : Bound → ℕ → Bool
bound_in (Params ps c) x = holds x (written_names (context_of c.now)) || holds x (written_past_names (map past_of ps.now))
bound_in (Name' y r outer) x = put y.0 true (bound_in outer) x

-- the names of the functions among declarations, in turn
abbrev pub declared_names : List Declaration → List ℕ
declared_names [] = []
declared_names (alias_declared a ∷ ds) = declared_names ds
declared_names (function_declared f ∷ ds) = f.name ∷ declared_names ds

-- whether a function is declared with this name
abbrev pub is_declared : List Declaration → ℕ → Bool
is_declared ds f = holds f (declared_names ds)
