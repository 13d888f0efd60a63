-- In typed code that binds each name once, and no stream of its context again, the names of destructurings are
-- apart.
use Rattle.core_term.specs.CoreTerm.{fun_at}
use Rattle.core_term.specs.Typing.{types_of}
use Rattle.core_term.proofs.TypedTerms.{derive}
use Rattle.core_term.proofs.TypedRuns.{Any, extends_own, free_are_streams}
use Rattle.core_term.proofs.BoundOnce.{bound_once}
use Rattle.state_steps.proofs.RunnablePrograms.{binds_apart}
use Rattle.kept_state.specs.Laws.{TypedOnceIsApart}

-- its free names are streams of the context, so none of them is bound, and its derivation keeps names apart
pub typed_once_is_apart : TypedOnceIsApart
typed_once_is_apart funs counts c e r h n d =
    let derivation = derive funs counts Any (λ x z. tt) e c (types_of c) c.past r (extends_own c) h in
    binds_apart (fun_at funs) counts (bound_once (fun_at funs) counts derivation (record { distinct = d; apart = λ x m b. n x ((free_are_streams funs counts e c r h).at x m) b }))
