-- What the arguments of a frame stand for, as a row and as a list.
use mathlib.Core.Former.{Count}
use Rattle.std.proofs.Common.{◌≡◌, refl, ap, ◌∙◌}
use Rattle.std.specs.declared.vec.Vec.{Vec}
use Rattle.std.specs.declared.alloc.Global.{Global}
use Rattle.delta_keep.specs.declared.kept.Argument.{Argument}
use Rattle.delta_keep.specs.declared.kept.KeptState.{Row_of-Argument, end_of-Argument, more_of-Argument, items-the_row-Argument, items_hidden-the_row-Argument-0}
use Rattle.delta_keep.specs.declared.kept.KeptState.TheBlock.{hidden-the_row-Argument-0}
use Rattle.delta_keep.specs.KeptView.{arguments_of, arguments_from}

-- what a row of arguments stands for
arguments_of-list : (m : Count) (k : Row_of-Argument m) → arguments_of k ≡ arguments_from (items-the_row-Argument m k)
arguments_of-list m end_of-Argument = refl
arguments_of-list m (more_of-Argument x t p s k) = cc (arguments_of-list _ k)

-- what the arguments of a frame stand for
pub arguments_of-hidden : (v : Vec Argument Global) → arguments_of (hidden-the_row-Argument-0 v) ≡ arguments_from v.items
arguments_of-hidden v = arguments_of-list _ (hidden-the_row-Argument-0 v) ∙ ap (λ l. arguments_from l) (items_hidden-the_row-Argument-0 v)

-- for functions over the trees
pub ruleset rows = (arguments_of-hidden)
