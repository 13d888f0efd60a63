-- The turns so far stand before those of the letters that are left.
use Rattle.std.proofs.Common.{◌≡◌, ◌++◌, map, drop}
use Rattle.std.specs.Prelude.{option_map}
use Rattle.delta_derive.specs.LineText.{turn_of, turns_in}
use Rattle.delta_derive.proofs.reading.turns_in.Given as goal

abbrev pub invariant-loop-byte : goal.invariant-loop-byte
invariant-loop-byte l = turns_in l.bytes ≡ option_map (λ ts. map turn_of l.turns.items ++ ts) (turns_in (drop l.byte-index l.bytes))
