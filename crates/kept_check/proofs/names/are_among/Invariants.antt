-- None of the names seen so far decides, so the rest do.
use Rattle.std.proofs.Common.{◌≡◌, drop}
use Rattle.std.specs.List.{list_all}
use Rattle.bunch.specs.Names.{numbers_of, holds}
use Rattle.kept_check.proofs.names.are_among.Given as goal

abbrev pub invariant-loop-name : goal.invariant-loop-name
invariant-loop-name l = list_all (λ x. holds x (numbers_of l.others)) (numbers_of (drop l.name-index l.names)) ≡ list_all (λ x. holds x (numbers_of l.others)) (numbers_of l.names)
