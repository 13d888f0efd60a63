-- x stands before those seen so far, so the rest decide.
use Rattle.std.proofs.Common.{◌≡◌, drop}
use Rattle.std.specs.List.{list_all}
use Rattle.bunch.specs.Names.{numbers_of}
use Rattle.core_term.specs.Typing.{is_before}
use Rattle.delta_check.specs.Scopes.{context_in}
use Rattle.kept_check.proofs.rules.stands_before.Given as goal

abbrev pub invariant-loop-y : goal.invariant-loop-y
invariant-loop-y l = list_all (λ y. is_before (context_in l.scope) l.x.0 y) (numbers_of (drop l.y-index l.names)) ≡ list_all (λ y. is_before (context_in l.scope) l.x.0 y) (numbers_of l.names)
