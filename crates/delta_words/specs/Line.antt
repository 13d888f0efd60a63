-- What a line stands for.
use Rattle.std.specs.Prelude.{map, option_map}
use Rattle.delta_words.specs.declared.line.Line.{Line}
use Rattle.delta_words.specs.CommandLine.{WrittenLine}

-- its operands as texts, and the rest as it is
abbrev pub written : Line → WrittenLine
written line = record {
  operands = map (λ word. word.now) line.operands.items;
  budget = option_map (λ word. word.now) line.budget;
  v2 = line.v2;
  frames = line.frames;
  ended = line.ended;
  awaits = line.awaits;
  closed = line.closed;
}
