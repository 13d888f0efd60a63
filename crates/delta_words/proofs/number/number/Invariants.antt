use Rattle.std.proofs.Common.{◌≤◌}
use Rattle.delta_words.proofs.NumberLemmas.{IsReadSoFar}
use Rattle.delta_words.proofs.number.number.Given as goal

abbrev pub invariant-loop-byte : goal.invariant-loop-byte
invariant-loop-byte l = IsReadSoFar l.word l.byte-index l.value × (l.value ≤ l.limit)
