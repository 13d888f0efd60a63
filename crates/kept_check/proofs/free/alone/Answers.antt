-- It is copied.
use Rattle.std.proofs.Common.{ap}
use Rattle.bunch.specs.Names.{holds, numbers_of}
use Rattle.kept_check.proofs.free.alone.Goals as goal

pub returns : goal.returns
returns c = λ x. ap (λ l. holds x (numbers_of l)) (c.in_ok-to_vec.ensures.items_if_clones_equal (λ a b e. e))
