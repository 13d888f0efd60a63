-- What is put out so far are the items seen so far, and the numbers in them have their sizes.
use Rattle.std.proofs.Common.{take}
use Rattle.kept_state.specs.KeptBytes.{held_name_bytes}
use Rattle.kept_state.specs.KeptSizes.{FitsHeldName}
use Rattle.delta_keep.specs.KeptView.{held_of}
use Rattle.delta_keep.proofs.PutSizes.{PutSome}
use Rattle.delta_keep.proofs.put_parts.put_held.Given as goal

abbrev pub invariant-loop-name : goal.invariant-loop-name
invariant-loop-name l = PutSome held_name_bytes held_of FitsHeldName l.initial.out l.out (take l.name-index l.held)
