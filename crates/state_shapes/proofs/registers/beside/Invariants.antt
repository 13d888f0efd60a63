-- What is left to look through gives the same.
use Rattle.std.proofs.Common.{◌≡◌, drop}
use Rattle.state_shapes.specs.Beside.{beside}
use Rattle.state_shapes.proofs.registers.beside.Given as goal

abbrev pub invariant-loop-k : goal.invariant-loop-k
invariant-loop-k g l = beside g.T.PartialEq.eq (drop l.k-index l.keys) l.others l.key ≡ beside g.T.PartialEq.eq l.keys l.values l.key
