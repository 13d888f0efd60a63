use Rattle.std.proofs.Common.{length}
use Rattle.delta_parse.proofs.type_reader.+read_stars.Given as goal

abbrev pub decreases-read_stars : goal.decreases-read_stars
decreases-read_stars l = length l.tokens.now
