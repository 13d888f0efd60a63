-- First the one, and then the other.
use Rattle.std.proofs.Common.{map}
use Rattle.stream_type.specs.StreamType.{type_of}
use Rattle.bunch.specs.BunchTree.{tree_of}
use Rattle.hist_value.specs.Environment.{types_of}
use Rattle.core_term.specs.CoreTerm.{term_of}
use Rattle.delta_derive.specs.Claims.{claim}
use Rattle.delta_derive.specs.OpenTerms.{claim_of}
use Rattle.delta_derive.proofs.Adding.{two_added}
use Rattle.delta_derive.proofs.open.add_two.Goals as goal

pub returns-in-Ok : goal.returns-in-Ok
returns-in-Ok c =
    let known = types_of c.args.aim.now.known.items in
    two_added c.add_in-in-Ok.result c.in-Ok.field-0 (map claim_of c.args.parts.now.items) (map claim_of c.add_in.new.parts.items) (map claim_of c.add_in-in-Ok.new.parts.items)
    (claim known (tree_of c.args.g.now) (term_of c.args.a.now) (type_of c.args.s.now)) (claim known (tree_of c.args.h.now) (term_of c.args.b.now) (type_of c.args.t.now))
    (rw c.deref.ensures.value at c.in-Ok.ensures) (rw c.deref-in-Ok.ensures.value at c.add_in-in-Ok.ensures)
