-- What an argument and the others give, and where one of the others stops.
use Rattle.std.proofs.Common.{◌≤◌, ◌++◌, ◌∷◌, [], ◌&&◌, ap₂, ◌∙◌, subst, max, ◌+◌, ℕ, Bool, arith}
use Rattle.std.specs.Prelude.{Result}
use Rattle.machine_parts.specs.declared.stop.Stop.{Stop}
use Rattle.delta_code.specs.declared.told.AllTold.{AllTold}
use Rattle.delta_code.specs.GoesOn.{AllGoOn}
use Rattle.delta_code.proofs.GoingOn.{all_go, all_halt}
use Rattle.delta_code.proofs.states_done.all_done.Goals as goal

pub returns-in-Ok : goal.returns-in-Ok
returns-in-Ok c is_name name t x y s v u w lent before found n m l calls level shut few low eased left h =
    let k = subst (λ (r : Result AllTold Stop). AllGoOn r y u w lent (before ++ record { name = name; type = t; prefix = x.out } ∷ []) found m l) c.in-Ok.is h in
    let told = c.told_before.ensures in
    let second : y.calls ≤ m = subst (λ (i : ℕ). i ≤ m) k.calls k.counted in
    let deepest : y.level ≤ l = subst (λ (i : ℕ). i ≤ l) k.level k.shallow in
    all_go c.told_before.result c.in-Ok.b is_name name t x y s v u w lent before found n m l (told.calls ∙ ap₂ (λ (i j : ℕ). i + j) calls k.calls) (told.level ∙ ap₂ (λ (i j : ℕ). max i j) level k.level) (told.are_shut ∙ ap₂ (λ (i j : Bool). i && j) shut k.are_shut)
    (omega (arith, calls, left, second)) (omega (arith, low, deepest)) eased k

pub returns-in-Err : goal.returns-in-Err
returns-in-Err c is_name name t x y s v u w lent before found n m l calls level shut few low eased left h =
    let k = subst (λ (r : Result AllTold Stop). AllGoOn r y u w lent (before ++ record { name = name; type = t; prefix = x.out } ∷ []) found m l) c.in-Err.is h in
    all_halt (λ q. let more = k.spent q in omega (arith, calls, left, more)) (λ q. let above = k.deep q in omega (arith, above))
