use Rattle.std.proofs.Common.{◌≡◌, map, drop, string_bytes}
use Rattle.delta_words.specs.CommandLine.{read_rest, no_words}
use Rattle.delta_words.specs.Line.{written}
use Rattle.delta_words.proofs.line.read_line.Given as goal

abbrev pub invariant-loop-word : goal.invariant-loop-word
invariant-loop-word l = read_rest l.takes no_words (map string_bytes l.words) ≡ read_rest l.takes (written l.line) (map string_bytes (drop l.word-index l.words))
