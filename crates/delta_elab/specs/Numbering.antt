-- Variables so far, and which number and which type each name of the source has, as the program keeps them.
use Rattle.std.specs.Prelude.{ℕ, suc, List, [], ◌∷◌, map, Option, option_map}
use Rattle.stream_type.specs.StreamType.{eps}
use Rattle.bunch.specs.declared.name.Name.{Name}
use Rattle.bunch.specs.Names.{number_of, put}
use Rattle.bunch.specs.BunchTree.{tree_of}
use Rattle.core_term.specs.Environment.{NameTypes}
use Rattle.core_term.specs.Agreement.{types_in}
use Rattle.delta_meaning.specs.NewNames.{Origin}
use Rattle.delta_meaning.specs.Elaboration.{Numbers, no_numbers}
use Rattle.delta_elab.specs.Wanted.{wanted_of}
use Rattle.delta_elab.specs.declared.scope.Scope.{Scope}
use Rattle.delta_elab.specs.declared.scope.Scope.TheVariants.{Params, Stream', Value', Waited'}

-- the variables so far: their number is their place
abbrev pub origins_of : List (Option Name) → List Origin
origins_of os = map (λ o. option_map number_of o) os

-- the entries of a table: each name with its number
abbrev pub number_entries : List (Name × Name) → List (ℕ × ℕ)
number_entries es = map (λ e. (e.0.0, e.1.0)) es

-- names with numbers from n on, in turn
abbrev pub entries_from : List ℕ → ℕ → List (ℕ × ℕ)
entries_from [] n = []
entries_from (x ∷ xs) n = (x, n) ∷ entries_from xs (suc n)

-- the numbers that entries give to names; of two entries with one name the first counts
abbrev pub numbers_at : List (ℕ × ℕ) → Numbers
numbers_at [] = no_numbers
numbers_at (e ∷ es) = put e.0 e.1 (numbers_at es)

-- the number of each name
abbrev pub numbers_in : Scope → Numbers
numbers_in (Params es b) = numbers_at (number_entries es.now)
numbers_in (Stream' x n t r outer) = put x.0 n.0 (numbers_in outer)
numbers_in (Value' x n r outer) = put x.0 n.0 (numbers_in outer)
numbers_in (Waited' x r outer) = numbers_in outer

-- the type of each name's stream; nothing is asked of it inside a historical expression
abbrev pub name_types_in : Scope → NameTypes
name_types_in (Params es b) = types_in (tree_of b.now)
name_types_in (Stream' x n t r outer) = put x.0 (wanted_of t) (name_types_in outer)
name_types_in (Value' x n r outer) = name_types_in outer
name_types_in (Waited' x r outer) = put x.0 eps (name_types_in outer)
