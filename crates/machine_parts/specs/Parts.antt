-- What has come of a sum, of a star and of one stream after another, as the machine takes it apart.
use Rattle.stream_prefix.specs.StreamPrefix.{StreamPrefix, eps_emp, cat_both, sum_emp, in_left, in_right, star_emp, star_done, star_first, star_rest}
use Rattle.std.specs.Prelude.{map}
use Rattle.stream_prefix.specs.Tree.{prefix_of, end_of, star_of}
use Rattle.machine_parts.specs.declared.parts.Sided.{Sided}
use Rattle.machine_parts.specs.declared.parts.Sided.TheVariants.{Nothing as Unsided, Left, Right}
use Rattle.machine_parts.specs.declared.parts.Taken.{Taken}
use Rattle.machine_parts.specs.declared.parts.Taken.TheVariants.{Nothing, Over, First, Item}
use Rattle.machine_parts.specs.declared.parts.Cut.{Cut}
use Rattle.machine_parts.specs.declared.parts.Cut.TheVariants.{Before, After}

-- the prefix that each stands for
abbrev pub sided_prefix : Sided → StreamPrefix
sided_prefix Unsided = sum_emp
sided_prefix (Left p) = in_left (prefix_of p.now)
sided_prefix (Right p) = in_right (prefix_of p.now)

abbrev pub taken_prefix : Taken → StreamPrefix
taken_prefix Nothing = star_emp
taken_prefix Over = star_done
taken_prefix (First p) = star_first (prefix_of p.now)
taken_prefix (Item p ps e) = star_rest (prefix_of p.now) (star_of (map prefix_of ps.now) (end_of e.now))

abbrev pub cut_prefix : Cut → StreamPrefix
cut_prefix Before = eps_emp
cut_prefix (After p q) = cat_both (prefix_of p.now) (prefix_of q.now)
