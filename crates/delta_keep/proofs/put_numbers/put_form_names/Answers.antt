use Rattle.delta_keep.proofs.PutInTurn.{puts_4}
use Rattle.delta_keep.proofs.put_numbers.put_form_names.Goals as goal

pub returns-clause-puts : goal.returns-clause-puts
returns-clause-puts c = puts_4 c.put_byte.ensures c.put_name.ensures.puts c.put_name-2.ensures.puts c.put_name-3.ensures.puts
