-- The canonical text of a program and of a type.
use Rattle.std.specs.Prelude.{ℕ, List, [], ◌∷◌, ◌++◌}
use Rattle.stream_type.specs.StreamType.{StreamType, eps, one, int, cat, par, sum, star}
use Rattle.delta_tree.specs.SyntaxTree.{WrittenType, eps_written, one_written, int_written, cat_written, par_written, sum_written, star_written, Declaration, ProgramTree}
use Rattle.delta_print.specs.declared.chunk.Chunk.{Chunk}
use Rattle.delta_print.specs.Layout.{laid_out}
use Rattle.delta_print.specs.Rows.{type_row, declaration_row, main_row}

-- tokens in a line, and a line feed
abbrev pub line : List (List ℕ) → List Chunk → List ℕ
line names row = laid_out names row ++ 10 ∷ []

-- a line for each declaration, in turn
abbrev pub declaration_lines : List (List ℕ) → List Declaration → List ℕ
declaration_lines names [] = []
declaration_lines names (d ∷ ds) = line names (declaration_row d) ++ declaration_lines names ds

-- the canonical text of a program: a line for each declaration in the tree's order, and one for `main`
abbrev pub canonical_text : ProgramTree → List ℕ
canonical_text p = declaration_lines p.names p.declarations ++ line p.names (main_row p.main)

-- a type as it is written, at no place
abbrev pub written : StreamType → WrittenType
written eps = eps_written 0
written one = one_written 0
written int = int_written 0
written (cat s t) = cat_written 0 (written s) (written t)
written (par s t) = par_written 0 (written s) (written t)
written (sum s t) = sum_written 0 (written s) (written t)
written (star s) = star_written 0 (written s)

-- the canonical text of a type, by the rule of those in programs
abbrev pub type_text : StreamType → List ℕ
type_text t = laid_out [] (type_row (written t))
