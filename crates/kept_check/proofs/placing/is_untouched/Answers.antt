-- Each name has its type, or one hasn't.
use Rattle.bunch.specs.BunchTree.{tree_of}
use Rattle.kept_check.specs.Given.{type_given}
use Rattle.kept_check.proofs.Placed.{untouched_then, untouched_else}
use Rattle.kept_check.proofs.placing.is_untouched.Goals as goal

pub returns-then-are_declared : goal.returns-then-are_declared
returns-then-are_declared c =
    untouched_then c.are_declared.result c.is_uncut.result (tree_of c.args.b.now) (type_given c.args.left.now) c.args.cuts.now c.are_declared.ensures c.if-are_declared.true c.is_uncut.ensures

pub returns-else-are_declared : goal.returns-else-are_declared
returns-else-are_declared c =
    untouched_else c.are_declared.result (tree_of c.args.b.now) (type_given c.args.left.now) c.args.cuts.now c.are_declared.ensures c.if-are_declared.false
