use Rattle.std.proofs.Common.{◌+◌, ◌*◌, length}
use Rattle.delta_parse.proofs.context_reader.+contexts.Given as goal

abbrev pub decreases-read_context : goal.decreases-read_context
decreases-read_context l = length l.tokens.now * 8 + 2

abbrev pub decreases-read_commas : goal.decreases-read_commas
decreases-read_commas l = length l.tokens.now * 8 + 2

abbrev pub decreases-read_semicolons : goal.decreases-read_semicolons
decreases-read_semicolons l = length l.tokens.now * 8 + 2

abbrev pub decreases-read_item : goal.decreases-read_item
decreases-read_item l = length l.tokens.now * 8 + 1
