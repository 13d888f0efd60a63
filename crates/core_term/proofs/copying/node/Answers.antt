-- The place stands in front of those of the parts.
use Rattle.std.proofs.Common.{rules}
use Rattle.core_term.proofs.copying.node.Goals as goal

pub returns-clause-places : goal.returns-clause-places
returns-clause-places c = search rules
