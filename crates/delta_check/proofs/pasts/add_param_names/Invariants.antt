-- The names of the parameters seen are there.
use Rattle.std.proofs.Common.{◌≡◌, ℕ, true, take}
use Rattle.std.specs.Prelude.{is_some}
use Rattle.bunch.specs.Names.{numbers_of, holds}
use Rattle.core_term.specs.CoreTerm.{typed_names_of}
use Rattle.core_term.specs.Typing.{past_params}
use Rattle.delta_check.proofs.pasts.add_param_names.Given as goal

abbrev pub invariant-loop-param : goal.invariant-loop-param
invariant-loop-param l =
    (x : ℕ) → is_some (past_params (typed_names_of (take l.param-index l.params)) x) ≡ true → holds x (numbers_of l.names.items) ≡ true
