-- How the tokens begin.
use Rattle.std.proofs.Common.{length}
use Rattle.delta_parse.specs.Terminals.{is_kind}
use Rattle.delta_parse.proofs.Fronts.{starts_so, starts_none, some_more}
use Rattle.delta_parse.proofs.cursor.starts_with.Goals as goal

pub returns-in-empty-clause-value : goal.returns-in-empty-clause-value
returns-in-empty-clause-value c = starts_none (is_kind c.args.kind) c.args.tokens.now c.in-empty.len_below

pub returns-in-len1-up-clause-more : goal.returns-in-len1-up-clause-more
returns-in-len1-up-clause-more c = λ _. some_more (length c.args.tokens.now) c.in-len1-up.len_at_least

pub returns-in-len1-up-clause-value : goal.returns-in-len1-up-clause-value
returns-in-len1-up-clause-value c = starts_so (is_kind c.args.kind) c.args.tokens.now c.first-item.result c.same_kind.result c.in-len1-up.len_at_least c.first-item.is c.same_kind.ensures
