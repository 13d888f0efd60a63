-- First the branch without an item, and then the other.
use Rattle.std.proofs.Common.{map}
use Rattle.stream_type.specs.StreamType.{type_of}
use Rattle.bunch.specs.BunchTree.{tree_of, semi, leaf}
use Rattle.hist_value.specs.Environment.{types_of}
use Rattle.core_term.specs.CoreTerm.{term_of}
use Rattle.delta_derive.specs.Claims.{claim, below_two}
use Rattle.delta_derive.specs.OpenTerms.{claim_of}
use Rattle.delta_derive.proofs.Adding.{two_added}
use Rattle.delta_derive.proofs.ruling.add_star_branches.Goals as goal

pub returns-in-Ok : goal.returns-in-Ok
returns-in-Ok c =
    let known = types_of c.args.aim.now.known.items in
    let g = tree_of c.args.aim.now.bunch in
    let r = type_of c.args.aim.now.result.now in
    let whole = type_of c.args.whole.now in
    two_added c.add_item_branch.result c.in-Ok.field-0 (map claim_of c.args.parts.now.items) (map claim_of c.add_in.new.parts.items) (map claim_of c.add_item_branch.new.parts.items)
    (claim known g (term_of c.args.a.now) r) (below_two known c.args.y.0 c.args.ys.0 c.args.z.0 whole (semi (leaf c.args.y.0 (type_of c.args.s.now)) (leaf c.args.ys.0 whole)) g (term_of c.args.b.now) r)
    (rw c.deref.ensures.value at c.in-Ok.ensures) c.add_item_branch.ensures
