use Rattle.std.proofs.Common.{◌≡◌, ◌-◌, ◌≤◌, map, length, drop}
use Rattle.delta_tree.specs.Tree.{declaration_of}
use Rattle.delta_parse.specs.Terminals.{plains}
use Rattle.delta_parse.specs.Parts.{declarations}
use Rattle.delta_parse.specs.Tables.{reading}
use Rattle.delta_parse.specs.Readers.{behind}
use Rattle.delta_parse.proofs.declaration_reader.read_declarations.Given as goal

abbrev pub invariant-items : goal.invariant-items
invariant-items l = record {
  within : l.at ≤ length l.tokens;
  so_far : behind (map declaration_of l.found.items) (reading declarations (plains (drop l.at l.tokens))) ≡ reading declarations (plains l.tokens);
}

abbrev pub decreases-items : goal.decreases-items
decreases-items l = length l.tokens - l.at
