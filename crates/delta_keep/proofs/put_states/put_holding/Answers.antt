-- A form with its subject and its mark, and what is held.
use Rattle.std.proofs.Common.{map}
use Rattle.stream_type.specs.StreamType.{type_of}
use Rattle.kept_state.specs.KeptBytes.{short_bytes, list_bytes, type_bytes, held_name_bytes}
use Rattle.delta_keep.specs.KeptView.{held_of}
use Rattle.delta_keep.proofs.PutInTurn.{puts_formed}
use Rattle.delta_keep.proofs.put_states.put_holding.Goals as goal

pub returns-clause-puts : goal.returns-clause-puts
returns-clause-puts c =
    puts_formed c.args.form (short_bytes c.args.z.0) (type_bytes (type_of c.args.t.now)) (list_bytes held_name_bytes (map held_of c.args.held.now)) c.put_form_name_type.ensures.puts c.put_held.ensures.puts

pub returns-clause-sizes : goal.returns-clause-sizes
returns-clause-sizes c n = (c.put_form_name_type.ensures.sizes, c.put_held.ensures.sizes n)
