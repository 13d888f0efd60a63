-- The tokens found, and those read from this place on, are the whole reading.
use Rattle.std.proofs.Common.{◌≡◌, ◌-◌, length, drop}
use Rattle.std.specs.Str.{chars, IsCharBoundary}
use Rattle.delta_lex.specs.Tokens.{lexemes, before, reading}
use Rattle.delta_lex.proofs.scan.scan.Given as goal

abbrev pub invariant-text : goal.invariant-text
invariant-text l = record {
  boundary : IsCharBoundary l.text l.at;
  read : reading 0 0 (chars l.text) ≡ before (lexemes l.found.items) (reading 0 l.at (chars (drop l.at l.text)));
}

abbrev pub decreases-text : goal.decreases-text
decreases-text l = length l.text - l.at
