-- What is put out so far are the items seen so far, and the numbers in them have their sizes.
use Rattle.std.proofs.Common.{take}
use Rattle.kept_state.specs.KeptBytes.{known_bytes}
use Rattle.kept_state.specs.KeptSizes.{FitsKnown}
use Rattle.delta_keep.specs.KeptView.{known_of}
use Rattle.delta_keep.proofs.PutSizes.{PutSome}
use Rattle.delta_keep.proofs.put_parts.put_past.Given as goal

abbrev pub invariant-loop-known : goal.invariant-loop-known
invariant-loop-known l = PutSome known_bytes known_of FitsKnown l.initial.out l.out (take l.known-index l.past)
