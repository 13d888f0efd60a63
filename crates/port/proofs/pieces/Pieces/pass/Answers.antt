-- Passing over bytes leaves the rest of the first piece, or the next piece that has bytes.
use Rattle.std.proofs.Common.{◌+◌, drop, ap, sym, ◌∙◌, arith}
use Rattle.std.specs.Vec.Iter.{into_iter_items}
use Rattle.port.specs.Pieces.{pieces_of, put_piece}
use Rattle.port.proofs.Passing.{Stands, pass_fits, pass_leaves, next_leaves}
use Rattle.port.proofs.pieces.Pieces.pass.Goals as goal

pub invariant_of-self-else-self-len : goal.invariant_of-self-else-self-len
invariant_of-self-else-self-len c =
    let stands : Stands c.self.inside.piece.items c.self.inside.at (pieces_of (into_iter_items c.self.inside.rest)) c.args.self.now = record { seen = c.self.view_is; within = c.self.invariant.0; last = c.self.invariant.1 } in
    (pass_fits c.self.inside.piece.items c.self.inside.at c.args.count _ _ stands c.requires, λ end. absurd (c.if-self-len.false (omega (arith, end, c.len.ensures, c.self.inside.piece.ok.0))))

pub returns-in-Some : goal.returns-in-Some
returns-in-Some c =
    let stands : Stands c.self.inside.piece.items c.self.inside.at (pieces_of (into_iter_items c.self.inside.rest)) c.args.self.now = record { seen = c.self.view_is; within = c.self.invariant.0; last = c.self.invariant.1 } in
    next_leaves c.self.inside.piece.items c.in-Some.piece.items c.self.inside.at c.args.count (pieces_of (into_iter_items c.self.inside.rest)) (pieces_of (into_iter_items c.next_piece.new.rest)) c.args.self.now stands
    (omega (arith, c.self.inside.piece.ok.0)) c.in-Some.ensures.0 c.in-Some.ensures.1

pub returns-in_default : goal.returns-in_default
returns-in_default c =
    let stands : Stands c.self.inside.piece.items c.self.inside.at (pieces_of (into_iter_items c.self.inside.rest)) c.args.self.now = record { seen = c.self.view_is; within = c.self.invariant.0; last = c.self.invariant.1 } in
    ap (λ rest. put_piece (drop (c.self.inside.at + c.args.count) c.self.inside.piece.items) rest) (c.in_default.ensures.1 ∙ sym c.in_default.ensures.0)
    ∙ pass_leaves c.self.inside.piece.items c.self.inside.at c.args.count _ _ stands

pub returns-else-self-len : goal.returns-else-self-len
returns-else-self-len c =
    let stands : Stands c.self.inside.piece.items c.self.inside.at (pieces_of (into_iter_items c.self.inside.rest)) c.args.self.now = record { seen = c.self.view_is; within = c.self.invariant.0; last = c.self.invariant.1 } in
    pass_leaves c.self.inside.piece.items c.self.inside.at c.args.count _ _ stands
