-- The first token, and those after it.
use Rattle.delta_parse.proofs.Fronts.{first_is, first_shorter}
use Rattle.delta_parse.proofs.cursor.accept_either.Goals as goal

pub returns-in-len1-up-clause-some : goal.returns-in-len1-up-clause-some
returns-in-len1-up-clause-some c = first_is c.args.tokens.now c.first-item.result c.in-len1-up.len_at_least c.first-item.is

pub returns-in-len1-up-clause-shorter : goal.returns-in-len1-up-clause-shorter
returns-in-len1-up-clause-shorter c = first_shorter c.args.tokens.now c.in-len1-up.len_at_least
