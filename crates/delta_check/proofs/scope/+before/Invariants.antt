-- The names seen so far have their facts, so the rest decide.
use Rattle.std.proofs.Common.{◌≡◌, drop}
use Rattle.std.specs.List.{list_all}
use Rattle.bunch.specs.Names.{numbers_of}
use Rattle.delta_check.specs.Scopes.{context_in}
use Rattle.delta_check.proofs.scope.+before.Given as goal

abbrev pub invariant-all_before-loop-name : goal.invariant-all_before-loop-name
invariant-all_before-loop-name l =
    list_all (λ x. (context_in l.scope).order x l.y.0) (numbers_of (drop l.name-index l.names)) ≡ list_all (λ x. (context_in l.scope).order x l.y.0) (numbers_of l.names)

abbrev pub invariant-before_all-loop-name : goal.invariant-before_all-loop-name
invariant-before_all-loop-name l =
    list_all (λ y. (context_in l.scope).order l.x.0 y) (numbers_of (drop l.name-index l.names)) ≡ list_all (λ y. (context_in l.scope).order l.x.0 y) (numbers_of l.names)
