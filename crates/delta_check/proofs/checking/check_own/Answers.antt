-- The broken rule is told of the node.
use Rattle.stream_type.specs.StreamType.{type_of}
use Rattle.core_term.specs.CoreTerm.{core_of, term_of}
use Rattle.delta_check.specs.Counting.{counts_in}
use Rattle.delta_check.specs.Scopes.{context_in}
use Rattle.delta_check.proofs.Joined.{own_told}
use Rattle.delta_check.proofs.checking.check_own.Goals as goal

pub returns-in-Some : goal.returns-in-Some
returns-in-Some c =
    let funs = (core_of c.args.c.now).funs in
    own_told funs (counts_in funs c.args.marks.now) c.args.number (context_in c.args.scope.now) (term_of c.args.n.now) (type_of c.args.r.now) c.args.n.now.at c.in-Some.cause (rw c.in-Some.is at c.in_ok-broken.ensures)
