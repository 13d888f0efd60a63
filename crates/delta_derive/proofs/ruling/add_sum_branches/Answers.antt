-- First the branch of the left side, and then that of the right one.
use Rattle.std.proofs.Common.{map}
use Rattle.stream_type.specs.StreamType.{type_of}
use Rattle.bunch.specs.BunchTree.{tree_of, leaf}
use Rattle.hist_value.specs.Environment.{types_of}
use Rattle.core_term.specs.CoreTerm.{term_of}
use Rattle.delta_derive.specs.Claims.{below_one}
use Rattle.delta_derive.specs.OpenTerms.{claim_of}
use Rattle.delta_derive.proofs.Adding.{two_added}
use Rattle.delta_derive.proofs.ruling.add_sum_branches.Goals as goal

pub returns-in-Ok : goal.returns-in-Ok
returns-in-Ok c =
    let known = types_of c.args.aim.now.known.items in
    let g = tree_of c.args.aim.now.bunch in
    let r = type_of c.args.aim.now.result.now in
    let z = c.args.z.0 in
    let whole = type_of c.args.whole.now in
    two_added c.add_branch-in-Ok.result c.in-Ok.field-0 (map claim_of c.args.parts.now.items) (map claim_of c.add_branch.new.parts.items) (map claim_of c.add_branch-in-Ok.new.parts.items)
    (below_one known c.args.x.0 z whole (leaf c.args.x.0 (type_of c.args.s.now)) g (term_of c.args.a.now) r) (below_one known c.args.y.0 z whole (leaf c.args.y.0 (type_of c.args.t.now)) g (term_of c.args.b.now) r)
    c.in-Ok.ensures c.add_branch-in-Ok.ensures
