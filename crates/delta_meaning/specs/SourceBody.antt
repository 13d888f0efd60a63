-- Functions of a program as they are meant: their types are read with the names that are known above them.
--
-- Choices that are not obvious:
-- - A function may be called above its declaration, a type may not be used there. So each function has with
--   it the names of types that its body is read with.
-- - Of two functions with one name the first counts, and a name that no function has counts as one without
--   parameters that gives `eps`. A program that is read from a text has neither.
-- - The main program has no historical parameters; a tree's are left out.
use Rattle.std.specs.Prelude.{ℕ, Bool, List, [], ◌∷◌, map}
use Rattle.stream_type.specs.StreamType.{StreamType, eps}
use Rattle.bunch.specs.BunchTree.{BunchTree, empty}
use Rattle.bunch.specs.Names.{holds, place_in, value_at}
use Rattle.delta_tree.specs.SyntaxTree.{Expression, eps_at, WrittenFunction, Declaration, alias_declared, function_declared, ProgramTree}
use Rattle.delta_meaning.specs.TypeNames.{TypeNames, no_type_names, type_meant, params_meant, past_meant, names_below}

-- a function, or the main program, with the names of types that are known in its body
pub record SourceBody : Type 0 where
  pub name : ℕ
  pub type_names : TypeNames
  pub past : List (ℕ × StreamType)
  pub params : BunchTree
  pub result : StreamType
  pub body : Expression

-- a written function, where these names of types are known
abbrev pub body_meant : TypeNames → WrittenFunction → SourceBody
body_meant names f = record {
  name = f.name;
  type_names = names;
  past = past_meant names f.past;
  params = params_meant names f.context;
  result = type_meant names f.result;
  body = f.body;
}

-- the names of types that are known below all declarations
abbrev pub names_below_all : TypeNames → List Declaration → TypeNames
names_below_all names [] = names
names_below_all names (d ∷ ds) = names_below_all (names_below names d) ds

-- the functions among declarations, in turn, where these names are known above them
abbrev pub functions_among : TypeNames → List Declaration → List SourceBody
functions_among names [] = []
functions_among names (alias_declared a ∷ ds) = functions_among (names_below names (alias_declared a)) ds
functions_among names (function_declared f ∷ ds) = body_meant names f ∷ functions_among names ds

-- a program's functions in turn
abbrev pub functions_of : ProgramTree → List SourceBody
functions_of p = functions_among no_type_names p.declarations

-- a program's main program
abbrev pub main_of : ProgramTree → SourceBody
main_of p = record (body_meant (names_below_all no_type_names p.declarations) p.main) { past = [] }

-- the names of functions
abbrev pub function_names : List SourceBody → List ℕ
function_names bs = map (λ b. b.name) bs

-- what each function's name that is unknown counts as
abbrev pub no_function : SourceBody
no_function = record { name = 0; type_names = no_type_names; past = []; params = empty; result = eps; body = eps_at 0 }

-- the function with a name
abbrev pub function_named : List SourceBody → ℕ → SourceBody
function_named bs f = value_at no_function (function_names bs) bs f

-- the number of a function: how many stand above it
abbrev pub number_named : List SourceBody → ℕ → ℕ
number_named bs f = place_in f (function_names bs)

-- whether there is a function with this name
abbrev pub is_function : List SourceBody → ℕ → Bool
is_function bs f = holds f (function_names bs)
