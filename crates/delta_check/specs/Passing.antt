-- The rules on the arguments of a call, for parameters with these names.
use Rattle.std.specs.Prelude.{ℕ, Bool, ◌&&◌, not, List, Option, None, if◌then◌else◌}
use Rattle.std.specs.List.{list_any}
use Rattle.bunch.specs.BunchTree.{BunchTree, stands_before}
use Rattle.core_term.specs.CoreTerm.{CoreTerms, CoreBody, fun_at}
use Rattle.core_term.specs.FreeNames.{free_names}
use Rattle.core_term.specs.Agreement.{types_in}
use Rattle.core_term.specs.Inert.{is_inert}
use Rattle.core_term.specs.Typing.{Context, argument_of}
use Rattle.core_term.specs.TypeFaults.{first_pair}

-- the first two names out of order that the arguments of u and v have, where u stands before v
abbrev pub pair_at : Context → BunchTree → List ℕ → CoreTerms → ℕ → ℕ → Option (ℕ × ℕ)
pair_at c params names es u v =
    if stands_before params u v then first_pair c (free_names (argument_of names es u)) (free_names (argument_of names es v)) else None

-- whether v's argument isn't inert, and another parameter stands before v
abbrev pub is_jumpy : List CoreBody → (ℕ → Bool) → BunchTree → List ℕ → CoreTerms → ℕ → Bool
is_jumpy funs counts params names es v =
    list_any (λ u. stands_before params u v) names && not (is_inert (fun_at funs) counts (argument_of names es v) (types_in params v))
