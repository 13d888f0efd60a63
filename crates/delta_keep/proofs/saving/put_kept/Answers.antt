use Rattle.std.proofs.Common.{map}
use Rattle.stream_type.specs.StreamType.{type_of}
use Rattle.kept_state.specs.KeptBytes.{type_bytes, bool_bytes}
use Rattle.delta_keep.proofs.PutInTurn.{puts_6}
use Rattle.delta_keep.proofs.PutSizes.{before, type_filled, bool_filled, list_fits_count}
use Rattle.delta_keep.proofs.saving.put_kept.Goals as goal

pub returns-clause-puts : goal.returns-clause-puts
returns-clause-puts c =
    puts_6 c.put_head.ensures c.put_long.ensures.puts (rw c.deref.ensures.value at c.put_types.ensures) (rw c.deref-2.ensures.value at c.put_marks.ensures) (rw c.deref-3.ensures at c.put_type.ensures)
    (rw c.deref-4.ensures at c.put_state.ensures.puts)

pub returns-clause-sizes : goal.returns-clause-sizes
returns-clause-sizes c n =
    let state = rw c.deref-4.ensures at c.put_state.ensures in
    let types = rw c.deref.ensures.value at c.put_types.ensures in
    let marks = rw c.deref-2.ensures.value at c.put_marks.ensures in
    let with_marks = before c.put_type.ensures (before state.puts n) in
    record {
      events = c.put_long.ensures.sizes;
      types = list_fits_count type_bytes (map type_of c.args.k.now.ins.items) type_filled types (before marks with_marks);
      cuts = list_fits_count bool_bytes c.args.k.now.cuts.items bool_filled marks with_marks;
      state = state.sizes n;
    }
