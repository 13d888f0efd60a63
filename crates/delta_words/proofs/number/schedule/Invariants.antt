use Rattle.delta_words.proofs.NumberLemmas.{IsNamedSoFar}
use Rattle.delta_words.proofs.number.schedule.Given as goal

abbrev pub invariant-loop-byte : goal.invariant-loop-byte
invariant-loop-byte l = IsNamedSoFar l.tables l.word l.byte-index l.numbers.items
