-- First what the name is bound to, and then the body.
use Rattle.std.proofs.Common.{map, ◌∷◌, []}
use Rattle.std.specs.Prelude.{Some}
use Rattle.stream_type.specs.StreamType.{type_of}
use Rattle.bunch.specs.BunchTree.{tree_of, comma, leaf}
use Rattle.hist_value.specs.Environment.{types_of}
use Rattle.core_term.specs.CoreTerm.{term_of}
use Rattle.bunch_rules.specs.Derivation.{hidden}
use Rattle.delta_derive.specs.LineText.{turn_of}
use Rattle.delta_derive.specs.Rearranged.{put_at}
use Rattle.delta_derive.specs.Claims.{claim}
use Rattle.delta_derive.specs.OpenTerms.{claim_of, Adds}
use Rattle.delta_derive.proofs.Adding.{two_added}
use Rattle.delta_derive.proofs.HandedOn.{given}
use Rattle.delta_derive.proofs.ruling.add_bound.Goals as goal

pub returns-in-Ok : goal.returns-in-Ok
returns-in-Ok c =
    let known = types_of c.args.aim.now.known.items in
    let s = type_of c.args.s.now in
    let d = tree_of c.args.d.now in
    let under = hidden c.args.x.0 known in
    let b = term_of c.args.b.now in
    let r = type_of c.args.aim.now.result.now in
    let g = put_at (map turn_of c.args.path.now) (comma d (leaf c.args.x.0 s)) (tree_of c.args.aim.now.bunch) in
    two_added c.add_hidden.result c.in-Ok.field-0 (map claim_of c.args.parts.now.items) (map claim_of c.add_in.new.parts.items) (map claim_of c.add_hidden.new.parts.items)
    (claim known d (term_of c.args.a.now) s) (claim under g b r)
    (rw c.deref.ensures.value at c.in-Ok.ensures)
    (given c.beside_part-bunch.result c.add_hidden.result (λ h. tree_of h.value) g (λ h valid. Adds (Some (claim under h b r ∷ [])) c.add_in.new.parts.items c.add_hidden.new.parts.items valid) c.beside_part-bunch.ensures c.add_hidden.ensures)
