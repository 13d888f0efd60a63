-- How many steps the events of a canonical word may have, told by the prefix alone.
use Rattle.std.specs.Prelude.{ℕ, ◌+◌, max}
use Rattle.stream_prefix.specs.StreamPrefix.{StreamPrefix, par_both, cat_fst, cat_both, in_left, in_right, star_first, star_rest}

-- one step more for a part that lies under a step, and the greater number for two parts
abbrev pub steps_of : StreamPrefix → ℕ
steps_of (par_both p q) = 1 + max (steps_of p) (steps_of q)
steps_of (cat_fst p) = 1 + steps_of p
steps_of (cat_both p q) = max (1 + steps_of p) (steps_of q)
steps_of (in_left p) = steps_of p
steps_of (in_right p) = steps_of p
steps_of (star_first p) = 1 + steps_of p
steps_of (star_rest p q) = max (1 + steps_of p) (steps_of q)
steps_of _ = 0
