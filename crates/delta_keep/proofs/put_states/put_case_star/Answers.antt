-- A case on a star, part by part.
use Rattle.std.proofs.Common.{◌++◌, map}
use Rattle.stream_type.specs.StreamType.{type_of}
use Rattle.kept_state.specs.KeptBytes.{short_bytes, list_bytes, type_bytes, held_name_bytes}
use Rattle.delta_keep.specs.KeptView.{held_of}
use Rattle.delta_keep.specs.Written.{written_later}
use Rattle.delta_keep.proofs.PutInTurn.{puts_2, puts_formed}
use Rattle.delta_keep.proofs.PutSizes.{before}
use Rattle.delta_keep.proofs.put_states.put_case_star.Goals as goal

pub returns-clause-puts : goal.returns-clause-puts
returns-clause-puts c =
    puts_formed 8 (short_bytes c.args.z.0) (type_bytes (type_of c.args.t.now)) (list_bytes held_name_bytes (map held_of c.args.held.now) ++ (written_later c.args.l.now ++ (short_bytes c.args.y.0 ++ (short_bytes c.args.ys.0 ++ written_later c.args.m.now)))) c.put_form_name_type.ensures.puts
    (puts_2 c.put_held.ensures.puts c.put_ends.ensures.puts)

pub returns-clause-sizes : goal.returns-clause-sizes
returns-clause-sizes c n =
    let held = c.put_held.ensures.sizes (before c.put_ends.ensures.puts n) in
    let ends = c.put_ends.ensures.sizes n in
    (c.put_form_name_type.ensures.sizes, held, ends.0, ends.1, ends.2, ends.3)
