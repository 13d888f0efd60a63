-- What a program elaborates to: a core, or what is wrong first.
use Rattle.std.specs.Prelude.{ℕ, suc, List, [], ◌∷◌, ◌++◌, length, Some, None, slice_index_or, Result, Ok, Err, codes}
use Rattle.std.specs.Fmt.{decimal}
use Rattle.delta_tree.specs.SyntaxTree.{ProgramTree}
use Rattle.core_term.specs.CoreTerm.{CoreProgram}
use Rattle.delta_meaning.specs.SourceBody.{functions_of, main_of, function_named, number_named}
use Rattle.delta_meaning.specs.NewNames.{Origin, new_in_body, new_in_bodies}
use Rattle.delta_meaning.specs.Elaboration.{core_body, core_bodies}
use Rattle.delta_meaning.specs.Faults.{Fault, faults}

-- the texts of variables that are numbered from n on: its name's text in the program for one that stands there,
-- and `#` with its number for one that was added
abbrev pub texts_of : List (List ℕ) → ℕ → List Origin → List (List ℕ)
texts_of names n [] = []
texts_of names n (Some x ∷ rest) = slice_index_or names x [] ∷ texts_of names (suc n) rest
texts_of names n (None ∷ rest) = (codes "#" ++ decimal n) ∷ texts_of names (suc n) rest

-- a program's variables in the order of their numbers: its functions in turn, and the main program last
abbrev pub new_in_program : ProgramTree → List Origin
new_in_program p = new_in_bodies (functions_of p) ++ new_in_body (main_of p)

-- the core of a program, in which nothing is wrong
abbrev pub core_of_tree : ProgramTree → CoreProgram
core_of_tree p =
    let functions = function_named (functions_of p) in
    let number = number_named (functions_of p) in
    record {
      funs = core_bodies functions number (functions_of p) 0;
      main = core_body functions number (main_of p) (length (new_in_bodies (functions_of p)));
      texts = texts_of p.names 0 (new_in_program p);
    }

-- what is there where nothing is wrong, and else the first thing that is wrong
abbrev pub unless_wrong : {A : Type 0} → List Fault → A → Result A Fault
unless_wrong [] a = Ok a
unless_wrong (x ∷ xs) a = Err x

-- what a program elaborates to
abbrev pub elaborate : ProgramTree → Result CoreProgram Fault
elaborate p = unless_wrong (faults p) (core_of_tree p)
