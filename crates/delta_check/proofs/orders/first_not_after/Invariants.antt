-- x stands before those seen so far, so the rest decide.
use Rattle.std.proofs.Common.{◌≡◌, ℕ, drop}
use Rattle.std.specs.Prelude.{not}
use Rattle.bunch.specs.Names.{numbers_of}
use Rattle.core_term.specs.Typing.{is_before}
use Rattle.core_term.specs.TypeFaults.{first_found, found_where}
use Rattle.delta_check.specs.Scopes.{context_in}
use Rattle.delta_check.proofs.orders.first_not_after.Given as goal

abbrev pub invariant-loop-y : goal.invariant-loop-y
invariant-loop-y l =
    first_found {B = ℕ × ℕ} (λ y. found_where (not (is_before (context_in l.scope) l.x.0 y)) (l.x.0, y)) (numbers_of (drop l.y-index l.names))
    ≡ first_found {B = ℕ × ℕ} (λ y. found_where (not (is_before (context_in l.scope) l.x.0 y)) (l.x.0, y)) (numbers_of l.names)
