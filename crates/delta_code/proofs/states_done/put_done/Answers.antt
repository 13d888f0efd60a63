-- The state that stands there then is the one that took the place, or that stayed.
use Rattle.std.proofs.Common.{◌≤◌, ◌∙◌, sym, subst}
use Rattle.std.specs.Prelude.{Result}
use Rattle.machine_parts.specs.declared.stop.Stop.{Stop}
use Rattle.template_state.specs.Readers.{state_in}
use Rattle.core_term.specs.Run.{Run}
use Rattle.delta_code.specs.declared.told.Gone.{Gone}
use Rattle.delta_code.specs.GoesOn.{GoesOnAs}
use Rattle.delta_code.proofs.Easing.{eased_then, eased_same}
use Rattle.delta_code.proofs.GoingOn.{went, halts}
use Rattle.delta_code.proofs.states_done.put_done.Goals as goal

pub returns-in-Ok : goal.returns-in-Ok
returns-in-Ok c x u n l h =
    let g = subst (λ (r : Result Gone Stop). GoesOnAs r x u (state_in c.args.s.now) n l) c.in-Ok.is h in
    went c.put.result x u _ n l (c.put.ensures.told ∙ g.run) (eased_then g.rest (eased_same (sym c.put.ensures.state)))
    (subst (λ (r : Run). r.calls ≤ n) (sym c.put.ensures.told) g.counted) (subst (λ (r : Run). r.level ≤ l) (sym c.put.ensures.told) g.shallow)

pub returns-in-Err : goal.returns-in-Err
returns-in-Err c x u n l h =
    let g = subst (λ (r : Result Gone Stop). GoesOnAs r x u (state_in c.args.s.now) n l) c.in-Err.is h in
    halts g.spent g.deep
