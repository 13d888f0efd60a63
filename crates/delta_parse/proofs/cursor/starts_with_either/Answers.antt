-- How the tokens begin.
use Rattle.std.proofs.Common.{◌∙◌, ◌||◌, true, length}
use Rattle.delta_parse.specs.Terminals.{is_kind}
use Rattle.delta_parse.proofs.Fronts.{starts_so, starts_none, some_more, first_holds, first_fails}
use Rattle.delta_parse.proofs.cursor.starts_with_either.Goals as goal

pub returns-in-empty-clause-value : goal.returns-in-empty-clause-value
returns-in-empty-clause-value c = starts_none (λ k. is_kind c.args.a k || is_kind c.args.b k) c.args.tokens.now c.in-empty.len_below

pub returns-then-same_kind-clause-value : goal.returns-then-same_kind-clause-value
returns-then-same_kind-clause-value c = c.if-same_kind.true ∙ starts_so (λ k. is_kind c.args.a k || is_kind c.args.b k) c.args.tokens.now c.first-item.result true c.in-len1-up.len_at_least c.first-item.is (first_holds _ _ c.same_kind.result c.same_kind.ensures c.if-same_kind.true)

pub returns-else-same_kind-clause-value : goal.returns-else-same_kind-clause-value
returns-else-same_kind-clause-value c = starts_so (λ k. is_kind c.args.a k || is_kind c.args.b k) c.args.tokens.now c.first-item.result _ c.in-len1-up.len_at_least c.first-item.is (first_fails _ _ c.same_kind.result _ c.same_kind.ensures c.if-same_kind.false c.same_kind-else-same_kind.ensures)

pub returns-then-same_kind-clause-more : goal.returns-then-same_kind-clause-more
returns-then-same_kind-clause-more c = λ _. some_more (length c.args.tokens.now) c.in-len1-up.len_at_least

pub returns-else-same_kind-clause-more : goal.returns-else-same_kind-clause-more
returns-else-same_kind-clause-more c = λ _. some_more (length c.args.tokens.now) c.in-len1-up.len_at_least
