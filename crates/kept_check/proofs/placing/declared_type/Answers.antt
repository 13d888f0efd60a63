-- A name that the bunch doesn't have has no type there.
use Rattle.std.proofs.Common.{◌∙◌, sym, Bor}
use Rattle.stream_type.specs.declared.ty.Ty.{Ty}
use Rattle.stream_type.specs.StreamType.{type_of}
use Rattle.bunch.specs.BunchTree.{tree_of}
use Rattle.kept_check.proofs.Placed.{declared, undeclared}
use Rattle.kept_check.proofs.placing.declared_type.Goals as goal

pub returns-in-Some : goal.returns-in-Some
returns-in-Some c = declared (tree_of c.args.whole.now) c.args.x.0 (λ (t : Bor Ty). type_of t.now) c.in-Some.t c.in-Some.ensures

pub returns-in-None : goal.returns-in-None
returns-in-None c = c.requires ∙ sym (undeclared (tree_of c.args.whole.now) c.args.x.0 (λ (t : Bor Ty). type_of t.now) c.in-None.ensures)
