-- The subject, and the names of the branches less those that they bind.
use Rattle.std.proofs.Common.{◌∷◌, []}
use Rattle.bunch.specs.Names.{numbers_of}
use Rattle.core_term.specs.FreeNames.{free_names}
use Rattle.delta_keep.specs.KeptView.{later_of}
use Rattle.kept_check.specs.Free.{without_all}
use Rattle.kept_check.proofs.free.free_of_case.Goals as goal

pub returns : goal.returns
returns c =
    let z = c.args.z.0 in
    let left = free_names (later_of c.args.l.now).term in
    let right = free_names (later_of c.args.m.now).term in
    c.joined.ensures (z ∷ without_all (numbers_of c.args.less.now) left) right (c.joined-names.ensures (z ∷ []) left c.alone.ensures c.free_in_code.ensures) c.free_in_code-2.ensures
