-- Both branches, part by part.
use Rattle.delta_keep.proofs.PutInTurn.{puts_4}
use Rattle.delta_keep.proofs.PutSizes.{before}
use Rattle.delta_keep.proofs.put_states.put_ends.Goals as goal

pub returns-clause-puts : goal.returns-clause-puts
returns-clause-puts c = puts_4 c.put_later.ensures.puts c.put_name.ensures.puts c.put_name-2.ensures.puts c.put_later-2.ensures.puts

pub returns-clause-sizes : goal.returns-clause-sizes
returns-clause-sizes c n =
    let with_first = before c.put_name.ensures.puts (before c.put_name-2.ensures.puts (before c.put_later-2.ensures.puts n)) in
    (c.put_later.ensures.sizes with_first, c.put_name.ensures.sizes, c.put_name-2.ensures.sizes, c.put_later-2.ensures.sizes n)
