-- The type at the place, or the other one past the last.
use Rattle.std.proofs.Common.{◌∙◌, sym}
use Rattle.stream_type.specs.StreamType.{type_of}
use Rattle.bunch.specs.BunchTree.{tree_of}
use Rattle.core_term.specs.CoreTerm.{leaf_types}
use Rattle.delta_check.proofs.InertForms.{at_there, at_past}
use Rattle.delta_check.proofs.checking.type_of_param.Goals as goal

pub returns-in-Ok : goal.returns-in-Ok
returns-in-Ok c = sym (at_there (leaf_types (tree_of c.args.params.now)) c.args.i (type_of c.in-Ok.t.now) c.in-Ok.ensures.there)

pub returns-in-Err : goal.returns-in-Err
returns-in-Err c = c.requires ∙ sym (at_past (leaf_types (tree_of c.args.params.now)) c.args.i c.in-Err.field-0 c.in-Err.ensures.past)
