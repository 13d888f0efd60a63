-- The first token, and those after it.
use Rattle.std.proofs.Common.{◌∙◌, sym}
use Rattle.delta_parse.proofs.Fronts.{first_is, first_shorter}
use Rattle.delta_parse.proofs.cursor.accept.Goals as goal

pub returns-in-len1-up-clause-some : goal.returns-in-len1-up-clause-some
returns-in-len1-up-clause-some c = first_is c.args.tokens.now c.first-item.result c.in-len1-up.len_at_least c.first-item.is

pub returns-in-len1-up-clause-shorter : goal.returns-in-len1-up-clause-shorter
returns-in-len1-up-clause-shorter c = first_shorter c.args.tokens.now c.in-len1-up.len_at_least

pub returns-in-len1-up-clause-kind : goal.returns-in-len1-up-clause-kind
returns-in-len1-up-clause-kind c = sym c.same_kind.ensures ∙ c.if-same_kind.true
