use Rattle.std.proofs.Common.{◌≡◌, ◌-◌, ◌≤◌, [], ◌∷◌, map, length, drop}
use Rattle.delta_tree.specs.Tree.{past_of}
use Rattle.delta_parse.specs.Terminals.{plains}
use Rattle.delta_parse.specs.Parts.{more_entries}
use Rattle.delta_parse.specs.Tables.{reading}
use Rattle.delta_parse.specs.Readers.{behind}
use Rattle.delta_parse.proofs.declaration_reader.read_more_entries.Given as goal

abbrev pub invariant-items : goal.invariant-items
invariant-items l = record {
  within : l.at ≤ length l.tokens;
  so_far : behind (map past_of l.found.items) (reading more_entries (plains (drop l.at l.tokens))) ≡ behind (past_of l.fn.first ∷ []) (reading more_entries (plains l.tokens));
}

abbrev pub decreases-items : goal.decreases-items
decreases-items l = length l.tokens - l.at
