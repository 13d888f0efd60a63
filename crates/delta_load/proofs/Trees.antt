-- The tree of the load's program.
use Rattle.std.proofs.Common.{◌≡◌, [], ◌∷◌, refl}
use Rattle.grammar.specs.Reading.{got, reading}
use Rattle.delta_tree.specs.SyntaxTree.{WrittenFunction, function_declared}
use Rattle.delta_parse.specs.Parts.{a_program, delta}
use Rattle.delta_parse.specs.Tables.{delta_grammar}
use Rattle.delta_load.specs.LoadText.{over_written, main_written}
use Rattle.delta_load.proofs.Tokens.{load_plain}

-- `main` without the number that it gets afterwards
abbrev pub main_found : WrittenFunction
main_found = record main_written { name = 0 }

pub tree_read : reading delta delta_grammar a_program load_plain ≡ got (function_declared over_written ∷ [], main_found) []
unfolding reading
tree_read = refl
