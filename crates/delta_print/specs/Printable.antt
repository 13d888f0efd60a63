-- The tokens of a canonical text as the grammar sees them, and which trees the grammar makes.
use Rattle.std.specs.Prelude.{◌≡◌, ℕ, ℤ, pos, ◌==◌, Bool, true, ◌&&◌, false, List, [], ◌∷◌, ◌++◌, map, if◌then◌else◌}
use Rattle.delta_tree.specs.SyntaxTree.{WrittenContext, no_parameters, parameter, side_by_side, in_sequence, Declaration, alias_declared, function_declared, ProgramTree}
use Rattle.delta_parse.specs.declared.terminal.Terminal.{Terminal}
use Rattle.delta_parse.specs.declared.terminal.Terminal.TheVariants.{NameToken, OneToken, NumberToken, Minus as MinusSign, Times}
use Rattle.delta_parse.specs.Terminals.{Tok, is_kind}
use Rattle.delta_print.specs.declared.chunk.Chunk.{Chunk}
use Rattle.delta_print.specs.declared.chunk.Chunk.TheVariants.{Fixed, Named, Digits, Minus, TypeStar}
use Rattle.delta_print.specs.Rows.{declaration_row, main_row}

-- what a token is to the grammar: the number 1 may be a type, and a minus and a star are signs wherever they stand
abbrev pub chunk_kind : Chunk → Terminal
chunk_kind (Fixed k) = k
chunk_kind (Named x) = NameToken
chunk_kind (Digits n) = if n == 1 then OneToken else NumberToken
chunk_kind Minus = MinusSign
chunk_kind TypeStar = Times

-- the number of its name
abbrev pub chunk_name : Chunk → ℕ
chunk_name (Fixed k) = 0
chunk_name (Named x) = x.0
chunk_name (Digits n) = 0
chunk_name Minus = 0
chunk_name TypeStar = 0

-- the number that it writes
abbrev pub chunk_number : Chunk → ℤ
chunk_number (Fixed k) = if is_kind k OneToken then pos 1 else pos 0
chunk_number (Named x) = pos 0
chunk_number (Digits n) = pos n
chunk_number Minus = pos 0
chunk_number TypeStar = pos 0

-- a token as the grammar sees it, at no place
abbrev pub chunk_token : Chunk → Tok
chunk_token c = record { kind = chunk_kind c; at = 0; worth = record { name = chunk_name c; number = chunk_number c } }

abbrev pub row_tokens : List Chunk → List Tok
row_tokens row = map chunk_token row

-- a token without its place
abbrev pub unplaced_token : Tok → Tok
unplaced_token t = record { kind = t.kind; at = 0; worth = t.worth }

-- the tokens are those of the row, at whatever places
abbrev pub AreTokensOf : List Chunk → List Tok → Type 0
AreTokensOf row ts = map unplaced_token ts ≡ row_tokens row

-- the tokens of all declarations, in turn
abbrev pub declarations_row : List Declaration → List Chunk
declarations_row [] = []
declarations_row (d ∷ ds) = declaration_row d ++ declarations_row ds

-- the tokens of a program, without its lines
abbrev pub program_row : ProgramTree → List Chunk
program_row p = declarations_row p.declarations ++ main_row p.main

-- each part of a list of parameters has a parameter
abbrev pub has_parameters : WrittenContext → Bool
has_parameters no_parameters = false
has_parameters (parameter x t) = true
has_parameters (side_by_side a b) = has_parameters a && has_parameters b
has_parameters (in_sequence a b) = has_parameters a && has_parameters b

-- parameters as the grammar makes them: none at all, or such a list
abbrev pub is_made : WrittenContext → Bool
is_made no_parameters = true
is_made (parameter x t) = true
is_made (side_by_side a b) = has_parameters a && has_parameters b
is_made (in_sequence a b) = has_parameters a && has_parameters b

abbrev pub declaration_is_made : Declaration → Bool
declaration_is_made (alias_declared a) = true
declaration_is_made (function_declared f) = is_made f.context

abbrev pub declarations_are_made : List Declaration → Bool
declarations_are_made [] = true
declarations_are_made (d ∷ ds) = declaration_is_made d && declarations_are_made ds

-- a tree that the grammar makes: no list of parameters has an empty part, and `main` has no historical parameters
pub record IsMade (p : ProgramTree) : Type 0 where
  pub declarations : declarations_are_made p.declarations ≡ true
  pub context : is_made p.main.context ≡ true
  pub past : p.main.past ≡ []
