-- Nothing was found at first, and then some of each.
use Rattle.std.proofs.Common.{sym, subst, refl}
use Rattle.std.proofs.lemmas.Result.{IfOk-weaker}
use Rattle.std.proofs.lemmas.Option.{IfSome_then}
use Rattle.template_state.specs.Readers.{state_in}
use Rattle.state_shapes.specs.RegisterLists.{IsParallel, lists_in}
use Rattle.stations.specs.Lies.{Lies}
use Rattle.stations.proofs.LiesOn.{lies}
use Rattle.stations.proofs.laying.laid_on.Goals as goal

pub returns : goal.returns
returns c =
    let first : IsParallel (lists_in c.nothing-found.result) = subst IsParallel (sym c.nothing-found.ensures) (record { numbers = refl; depths = refl }) in
    IfOk-weaker c.where_true.result _ _
    (λ r h. IfSome_then r h
    (λ found e. subst (λ f. Lies (state_in c.args.shape.now) (state_in c.args.state.now) (lists_in f)) (sym e.0)
    (lies _ _ c.match_state-fits.result first c.match_state-fits.ensures.grown c.match_state-fits.ensures.holds (c.some_registers-whole.ensures e.1))))
    c.where_true.ensures
