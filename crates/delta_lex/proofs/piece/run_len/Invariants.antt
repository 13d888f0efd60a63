-- What was counted, and the run behind it, are the whole run.
use Rattle.std.proofs.Common.{◌≡◌, ◌+◌, length, drop}
use Rattle.std.specs.Str.{chars}
use Rattle.delta_lex.specs.Characters.{goes_on}
use Rattle.delta_lex.specs.Measures.{run_bytes}
use Rattle.delta_lex.proofs.piece.run_len.Given as goal

abbrev pub invariant-loop-c : goal.invariant-loop-c
invariant-loop-c l =
    l.len + run_bytes (goes_on l.run) (drop (length l.yielded) (chars l.text)) ≡ run_bytes (goes_on l.run) (chars l.text)
